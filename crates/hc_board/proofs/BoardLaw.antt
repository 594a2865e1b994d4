-- What the functions on posts answer is what the board is to do: the two that meet, what they leave, and how time passes.
use Rattle.std.proofs.Common.{◌≡◌, ◌↔◌, ◌<◌, ◌≤◌, ℕ, zero, suc, ◌+◌, Bool, true, false, List, length, Option, Some, None, is_some, ◌⊎◌, inl, inr, refl, sym, ap, subst, ◌∙◌, if◌then◌else◌, arith}
use Rattle.std.proofs.Math.ListN.{set}
use Rattle.std.proofs.lemmas.Bool.{cases_lt}
use Rattle.std.proofs.lemmas.List.{length-set, get_or-set_same, get_or-set_other, get_or-map}
use Rattle.std.specs.declared.cmp.Ordering.{Ordering}
use Rattle.std.specs.declared.cmp.Ordering.TheVariants.{Less, Equal, Greater}
use Rattle.std.specs.Ordering.{MatchOrdering}
use Rattle.hc_rational.specs.Words.{Rational, ◌<ℚ◌, ◌≤ℚ◌, rank}
use Rattle.hc_rational.proofs.OrderLaws.{≤ℚ-from_<ℚ, ≤ℚ-from_≡, ≤ℚ-not_<ℚ}
use Rattle.hc_rational.proofs.RankLaws.{rank_matches, rank_is}
use Rattle.hc_term.specs.declared.model.Meeting.{Meeting}
use Rattle.hc_term.specs.declared.post.Post.{Post}
use Rattle.hc_term.specs.Offers.{going_post}
use Rattle.hc_term.specs.Posts.{first_of, sender, receiver, meeting_by, meeting_on, meeting_from, first_meeting, is_timed, delay_fits, Passing, NoBound, AtHorizon, Overflows, Took, passing_for, passing_below, passing_on}
use Rattle.hc_term.specs.Moved.{moved_post, fired}
use Rattle.hc_board.specs.MeetingBoard.{shown, Sends, Receives, IsReady, IsMeeting, IsAhead, longest, Passes, EachIsMeetingBoard}
use Rattle.hc_board.proofs.Ends.{sender-sound, sender-is, receiver-sound, receiver-is}

-- ---- one channel

zero_more : (k : ℕ) → 0 + k ≡ k
zero_more k = omega arith

-- both ends are found
pub record Joined (c : ℕ) (so : Option (ℕ × Rational)) (ro : Option ℕ) (m : Meeting) : Type 0 where
  pub channel : m.channel ≡ c
  pub sent : so ≡ Some (m.sender, m.value)
  pub received : ro ≡ Some m.receiver

joined : (c : ℕ) (so : Option (ℕ × Rational)) (ro : Option ℕ) (m : Meeting) → meeting_by c so ro ≡ Some m → Joined c so ro m
joined c None ro m e = cc
joined c (Some s) None m e = cc
joined c (Some s) (Some r) m e =
    let found : Meeting = record { channel = c; sender = s.0; receiver = r; value = s.1 } in
    let same : found ≡ m = cc in
    subst (λ (k : Meeting). Joined c (Some s) (Some r) k) same (record { channel = refl; sent = refl; received = refl })

sends_there : (c : ℕ) (ps : List Post) (s : ℕ × Rational) → sender c 0 ps ≡ Some s → Sends c ps s.0 s.1
sends_there c ps s e =
    let found = sender-sound c 0 ps s e in
    subst (λ (k : ℕ). Sends c ps k s.1) (sym (found.number ∙ zero_more found.at)) found.sends

receives_there : (c : ℕ) (ps : List Post) (r : ℕ) → receiver c 0 ps ≡ Some r → Receives c ps r
receives_there c ps r e =
    let found = receiver-sound c 0 ps r e in
    subst (λ (k : ℕ). Receives c ps k) (sym (found.number ∙ zero_more found.at)) found.receives

sender_found : (c : ℕ) (ps : List Post) (p : ℕ) (v : Rational) → Sends c ps p v → sender c 0 ps ≡ Some (p, v)
sender_found c ps p v s = sender-is c 0 ps p v s ∙ ap (λ (n : ℕ). Some (n, v)) (zero_more p)

receiver_found : (c : ℕ) (ps : List Post) (p : ℕ) → Receives c ps p → receiver c 0 ps ≡ Some p
receiver_found c ps p r = receiver-is c 0 ps p r ∙ ap (λ (n : ℕ). Some n) (zero_more p)

-- the meeting on this channel
pub record MeetsOn (c : ℕ) (ps : List Post) (m : Meeting) : Type 0 where
  pub channel : m.channel ≡ c
  pub sends : Sends c ps m.sender m.value
  pub receives : Receives c ps m.receiver

on_sound : (c : ℕ) (ps : List Post) (m : Meeting) → meeting_on c ps ≡ Some m → MeetsOn c ps m
on_sound c ps m e =
    let j = joined c (sender c 0 ps) (receiver c 0 ps) m e in
    record {
      channel = j.channel;
      sends = sends_there c ps (m.sender, m.value) j.sent;
      receives = receives_there c ps m.receiver j.received;
    }

pub on_found : (c : ℕ) (ps : List Post) (p r : ℕ) (v : Rational) → Sends c ps p v → Receives c ps r →
    meeting_on c ps ≡ Some (record { channel = c; sender = p; receiver = r; value = v })
on_found c ps p r v s k =
    ap (λ (so : Option (ℕ × Rational)). meeting_by c so (receiver c 0 ps)) (sender_found c ps p v s)
    ∙ ap (λ (ro : Option ℕ). meeting_by c (Some (p, v)) ro) (receiver_found c ps r k)

on_is : (ps : List Post) (m : Meeting) → Sends m.channel ps m.sender m.value → Receives m.channel ps m.receiver → meeting_on m.channel ps ≡ Some m
on_is ps m s r = on_found m.channel ps m.sender m.receiver m.value s r

none_some : (m : Meeting) (o : Option Meeting) → o ≡ None → o ≡ Some m → ⊥
none_some m None e h = cc
none_some m (Some k) e h = cc

pub not_ready : (c : ℕ) (ps : List Post) → meeting_on c ps ≡ None → ¬ IsReady c ps
not_ready c ps e r =
    none_some (record { channel = c; sender = r.sender; receiver = r.receiver; value = r.value }) (meeting_on c ps) e
    (on_found c ps r.sender r.receiver r.value r.sends r.receives)

none_by : (c : ℕ) (ps : List Post) (o : Option Meeting) → meeting_on c ps ≡ o → ¬ IsReady c ps → o ≡ None
none_by c ps None e n = refl
none_by c ps (Some m) e n =
    let on = on_sound c ps m e in
    absurd (n (record { sender = m.sender; value = m.value; sends = on.sends; receiver = m.receiver; receives = on.receives }))

-- where they meet the channel is ready
pub on_ready : (c : ℕ) (ps : List Post) (o : Option Meeting) → meeting_on c ps ≡ o → is_some o ≡ true → IsReady c ps
on_ready c ps None e h = cc
on_ready c ps (Some m) e h =
    let on = on_sound c ps m e in
    record { sender = m.sender; value = m.value; sends = on.sends; receiver = m.receiver; receives = on.receives }

pub none_on : (c : ℕ) (ps : List Post) → ¬ IsReady c ps → meeting_on c ps ≡ None
none_on c ps n = none_by c ps (meeting_on c ps) refl n

-- ---- the least channel

-- of n channels from c on
pub record IsLeast (c n : ℕ) (ps : List Post) (m : Meeting) : Type 0 where
  pub from : c ≤ m.channel
  pub below : m.channel < c + n
  pub on : meeting_on m.channel ps ≡ Some m
  pub before : (k : ℕ) → c ≤ k → k < m.channel → meeting_on k ps ≡ None

before_next : (c : ℕ) (ps : List Post) (m : Meeting) → meeting_on c ps ≡ None →
    ((k : ℕ) → c + 1 ≤ k → k < m.channel → meeting_on k ps ≡ None) → (k : ℕ) → c ≤ k → k < m.channel → (k < c + 1) ⊎ (c + 1 ≤ k) →
    meeting_on k ps ≡ None
before_next c ps m eo h k from low (inl here) =
    let same : c ≡ k = omega (arith, from, here) in
    subst (λ (i : ℕ). meeting_on i ps ≡ None) same eo
before_next c ps m eo h k from low (inr after) = h k after low

least_here : (c n : ℕ) (ps : List Post) (m : Meeting) → meeting_on c ps ≡ Some m → IsLeast c (suc n) ps m
least_here c n ps m e =
    let at : m.channel ≡ c = (on_sound c ps m e).channel in
    record {
      from = omega (arith, at);
      below = omega (arith, at);
      on = ap (λ (i : ℕ). meeting_on i ps) at ∙ e;
      before = λ k from low. absurd (omega (arith, at, from, low));
    }

from_next : (c n : ℕ) (ps : List Post) (m : Meeting) (o : Option Meeting) → meeting_on c ps ≡ o →
    (meeting_from (c + 1) n ps ≡ Some m → IsLeast (c + 1) n ps m) → first_of o (meeting_from (c + 1) n ps) ≡ Some m → IsLeast c (suc n) ps m
from_next c n ps m None eo ih e =
    let least = ih e in
    let from = least.from in
    let below = least.below in
    record {
      from = omega (arith, from);
      below = omega (arith, below);
      on = least.on;
      before = λ k low high. before_next c ps m eo least.before k low high (cases_lt k (c + 1));
    }
from_next c n ps m (Some k) eo ih e = least_here c n ps m (eo ∙ e)

from_sound : (c n : ℕ) (ps : List Post) (m : Meeting) → meeting_from c n ps ≡ Some m → IsLeast c n ps m
from_sound c zero ps m e = cc
from_sound c (suc n) ps m e = from_next c n ps m (meeting_on c ps) refl (from_sound (c + 1) n ps m) e

from_is : (c n : ℕ) (ps : List Post) (m : Meeting) → IsLeast c n ps m → (m.channel < c + 1) ⊎ (c + 1 ≤ m.channel) → meeting_from c n ps ≡ Some m
from_is c zero ps m l o = let from = l.from in let below = l.below in absurd (omega (arith, from, below))
from_is c (suc n) ps m l (inl here) =
    let from = l.from in
    let at : m.channel ≡ c = omega (arith, from, here) in
    ap (λ (o : Option Meeting). first_of o (meeting_from (c + 1) n ps)) (ap (λ (i : ℕ). meeting_on i ps) (sym at) ∙ l.on)
from_is c (suc n) ps m l (inr after) =
    let below = l.below in
    ap (λ (o : Option Meeting). first_of o (meeting_from (c + 1) n ps)) (l.before c (omega arith) (omega (arith, after)))
    ∙ from_is (c + 1) n ps m
    (record { from = after; below = omega (arith, below); on = l.on; before = λ k low high. l.before k (omega (arith, low)) high })
    (cases_lt m.channel (c + 1 + 1))

none_from : (c n : ℕ) (ps : List Post) → ((k : ℕ) → c ≤ k → k < c + n → meeting_on k ps ≡ None) → meeting_from c n ps ≡ None
none_from c zero ps h = refl
none_from c (suc n) ps h =
    ap (λ (o : Option Meeting). first_of o (meeting_from (c + 1) n ps)) (h c (omega arith) (omega arith))
    ∙ none_from (c + 1) n ps (λ k low high. h k (omega (arith, low)) (omega (arith, high)))

-- a channel without a meeting, where none is found
none_here : (c k n : ℕ) (ps : List Post) (o : Option Meeting) → meeting_on c ps ≡ o → first_of o (meeting_from (c + 1) n ps) ≡ None →
    (meeting_from (c + 1) n ps ≡ None → c + 1 ≤ k → meeting_on k ps ≡ None) → c ≤ k → (k < c + 1) ⊎ (c + 1 ≤ k) → meeting_on k ps ≡ None
none_here c k n ps (Some m) eo e ih low o = cc
none_here c k n ps None eo e ih low (inl here) =
    let same : c ≡ k = omega (arith, low, here) in
    subst (λ (i : ℕ). meeting_on i ps ≡ None) same eo
none_here c k n ps None eo e ih low (inr after) = ih e after

all_none : (c n : ℕ) (ps : List Post) → meeting_from c n ps ≡ None → (k : ℕ) → c ≤ k → k < c + n → meeting_on k ps ≡ None
all_none c zero ps e k low high = absurd (omega (arith, low, high))
all_none c (suc n) ps e k low high =
    none_here c k n ps (meeting_on c ps) refl e (λ later after. all_none (c + 1) n ps later k after (omega (arith, high))) low (cases_lt k (c + 1))

-- ---- who meets

pub meeting-is : (channels : ℕ) (ps : List Post) (m : Meeting) → first_meeting channels ps ≡ Some m → IsMeeting channels ps m
meeting-is channels ps m e =
    let l = from_sound 0 channels ps m e in
    let on = on_sound m.channel ps m l.on in
    let below = l.below in
    record {
      in_range = omega (arith, below);
      sends = on.sends;
      receives = on.receives;
      least = λ c low. not_ready c ps (l.before c (omega arith) low);
    }

is-meeting : (channels : ℕ) (ps : List Post) (m : Meeting) → IsMeeting channels ps m → first_meeting channels ps ≡ Some m
is-meeting channels ps m i =
    let low = i.in_range in
    from_is 0 channels ps m (record {
      from = omega arith;
      below = omega (arith, low);
      on = on_is ps m i.sends i.receives;
      before = λ k from below. none_on k ps (i.least k below);
    }) (cases_lt m.channel (0 + 1))

none_is : (channels : ℕ) (ps : List Post) → first_meeting channels ps ≡ None → (c : ℕ) → c < channels → ¬ IsReady c ps
none_is channels ps e c low = not_ready c ps (all_none 0 channels ps e c (omega arith) (omega (arith, low)))

pub is_none_ready : (channels : ℕ) (ps : List Post) → ((c : ℕ) → c < channels → ¬ IsReady c ps) → first_meeting channels ps ≡ None
is_none_ready channels ps h = none_from 0 channels ps (λ k from low. none_on k ps (h k (omega (arith, low))))

-- ---- what a meeting leaves

is_set : (ps : List Post) (p : ℕ) (q : Post) → p < length ps → shown (set ps p q) p ≡ q
is_set ps p q low = get_or-set_same ps p q going_post low

stays : (ps : List Post) (at p : ℕ) (q : Post) → ¬ p ≡ at → shown (set ps at q) p ≡ shown ps p
stays ps at p q n = get_or-set_other ps at p q going_post (λ e. n e)

receiver_goes : (ps : List Post) (m : Meeting) → m.receiver < length ps → shown (fired m ps) m.receiver ≡ going_post
receiver_goes ps m low = is_set (set ps m.sender going_post) m.receiver going_post (omega (arith, low, length-set ps m.sender going_post))

-- whether the process is the receiver or not
goes_or_stays : (ps : List Post) (m : Meeting) (p : ℕ) → m.receiver < length ps → shown (set ps m.sender going_post) p ≡ going_post →
    (p < m.receiver) ⊎ (m.receiver ≤ p) → (m.receiver < p) ⊎ (p ≤ m.receiver) → shown (fired m ps) p ≡ going_post
goes_or_stays ps m p low e (inl below) o = stays (set ps m.sender going_post) m.receiver p going_post (λ h. omega (arith, h, below)) ∙ e
goes_or_stays ps m p low e (inr k) (inl above) = stays (set ps m.sender going_post) m.receiver p going_post (λ h. omega (arith, h, above)) ∙ e
goes_or_stays ps m p low e (inr k) (inr h) =
    let same : m.receiver ≡ p = omega (arith, k, h) in
    subst (λ (i : ℕ). shown (fired m ps) i ≡ going_post) same (receiver_goes ps m low)

sender_goes : (channels : ℕ) (ps : List Post) (m : Meeting) → IsMeeting channels ps m → shown (fired m ps) m.sender ≡ going_post
sender_goes channels ps m i =
    goes_or_stays ps m m.sender i.receives.there (is_set ps m.sender going_post i.sends.there) (cases_lt m.sender m.receiver)
    (cases_lt m.receiver m.sender)

other_stays : (ps : List Post) (m : Meeting) (p : ℕ) → ¬ p ≡ m.sender → ¬ p ≡ m.receiver → shown (fired m ps) p ≡ shown ps p
other_stays ps m p s r = stays (set ps m.sender going_post) m.receiver p going_post r ∙ stays ps m.sender p going_post s

-- ---- how time passes

module _ (clock horizon : Rational) (ps : List Post) where
  reached : (o : Ordering) → MatchOrdering o (clock <ℚ horizon) (clock ≡ horizon) (horizon <ℚ clock) → horizon ≤ℚ clock →
      passing_below o clock horizon ps ≡ AtHorizon
  reached Less h k = absurd (≤ℚ-not_<ℚ horizon clock k h)
  reached Equal h k = refl
  reached Greater h k = refl

  fitting : (fit : Bool) → delay_fits (longest clock horizon ps) clock ps ≡ fit → IsAhead clock horizon ps →
      Passes clock horizon ps (if fit then Took (longest clock horizon ps) else Overflows)
  fitting true e a = (a, refl, e)
  fitting false e a = (a, e)

  below : (o : Ordering) → MatchOrdering o (clock <ℚ horizon) (clock ≡ horizon) (horizon <ℚ clock) → is_timed ps ≡ true →
      Passes clock horizon ps (passing_below o clock horizon ps)
  below Less h t = fitting (delay_fits (longest clock horizon ps) clock ps) refl (record { timed = t; below = h })
  below Equal h t = (t, ≤ℚ-from_≡ horizon clock (sym h))
  below Greater h t = (t, ≤ℚ-from_<ℚ horizon clock h)

  by_timed : (t : Bool) → is_timed ps ≡ t → Passes clock horizon ps (if t then passing_below (rank clock horizon) clock horizon ps else NoBound)
  by_timed true e = below (rank clock horizon) (rank_matches clock horizon) e
  by_timed false e = e

  it_passes : Passes clock horizon ps (passing_on clock horizon ps)
  it_passes = by_timed (is_timed ps) refl

  timed : is_timed ps ≡ true → passing_on clock horizon ps ≡ passing_below (rank clock horizon) clock horizon ps
  timed e = ap (λ (t : Bool). if t then passing_below (rank clock horizon) clock horizon ps else NoBound) e

  ahead : IsAhead clock horizon ps → passing_on clock horizon ps ≡ passing_for (longest clock horizon ps) clock ps
  ahead a = timed a.timed ∙ ap (λ (o : Ordering). passing_below o clock horizon ps) ((rank_is clock horizon).less.1 a.below)

  is_passing : (how : Passing) → Passes clock horizon ps how → passing_on clock horizon ps ≡ how
  is_passing NoBound e = ap (λ (t : Bool). if t then passing_below (rank clock horizon) clock horizon ps else NoBound) e
  is_passing AtHorizon h = timed h.0 ∙ reached (rank clock horizon) (rank_matches clock horizon) h.1
  is_passing Overflows h =
      ahead h.0 ∙ ap (λ (fit : Bool). if fit then Took (longest clock horizon ps) else Overflows) h.1
  is_passing (Took by) h =
      let same : by ≡ longest clock horizon ps = h.1 in
      ahead h.0
      ∙ (ap (λ (d : Rational). passing_for d clock ps) (sym same)
      ∙ ap (λ (fit : Bool). if fit then Took by else Overflows) h.2)

  passes_so : (how : Passing) → passing_on clock horizon ps ≡ how → Passes clock horizon ps how
  passes_so how e = subst (λ (p : Passing). Passes clock horizon ps p) e it_passes

  pub passes_exactly : (how : Passing) → (passing_on clock horizon ps ≡ how) ↔ Passes clock horizon ps how
  passes_exactly how = (passes_so how, is_passing how)

-- ---- the board

pub each_is_meeting_board : EachIsMeetingBoard
each_is_meeting_board channels ps = record {
  meets = λ m. (meeting-is channels ps m, is-meeting channels ps m);
  none = (none_is channels ps, is_none_ready channels ps);
  sender = sender_goes channels ps;
  receiver = λ m i. receiver_goes ps m i.receives.there;
  others = λ m p. other_stays ps m p;
  passes = λ clock horizon how. passes_exactly clock horizon ps how;
  moves = λ by p low. get_or-map (moved_post by) ps p going_post going_post low;
}
