-- Who meets in a pass where no channel was ready before one process posted.
use Rattle.std.specs.Prelude.{◌≡◌, ◌≢◌, ◌<◌, ◌⊎◌, ◌+◌, ◌==◌, ℕ, zero, suc, Bool, true, false, if◌then◌else◌, List, [], ◌∷◌, slice_get, slice_set, Option, Some, None, is_some}
use Rattle.std.specs.List.{list_any}
use Rattle.std.proofs.Common.{refl, sym, ap, ◌∙◌, subst, arith, inl, inr}
use Rattle.std.proofs.lemmas.Bool.{eqb-false, eqb-true}
use Rattle.std.proofs.lemmas.Option.{same_Some}
use Rattle.hc_rational.specs.Words.{Rational}
use Rattle.hc_term.specs.declared.post.Post.{Post}
use Rattle.hc_term.specs.declared.model.Meeting.{Meeting}
use Rattle.hc_term.specs.Offers.{going_post}
use Rattle.hc_term.specs.Posts.{first_of, sent_on, receives_on, numbered, sender, receiver, meeting_by, meeting_on, meeting_from, first_meeting, Passing, NoBound, AtHorizon, Overflows, Took, passing_on}
use Rattle.hc_term.specs.Moved.{fired}
use Rattle.hc_core_facts.specs.OnePass.{passed, passed_by, is_able, is_in, time, time_by, stays}
use Rattle.hc_core_fire.specs.PassOfC.{Posted}

-- ---- who sends and who receives on a channel

-- the process s of these posts, the first of which is p's, sends on channel c
record SentAt (c p : ℕ) (ps : List Post) (s : ℕ) : Type 0 where
  place : ℕ
  post : Post
  is : s ≡ p + place
  at : slice_get ps place ≡ Some post
  sends : is_some (sent_on c post.offers) ≡ true

sent_later : (c p : ℕ) (q : Post) (qs : List Post) (s : ℕ) → SentAt c (p + 1) qs s → SentAt c p (q ∷ qs) s
sent_later c p q qs s h = (let is = h.is in record { place = suc h.place; post = h.post; is = omega (arith, is); at = h.at; sends = h.sends })

sent_by : (c p : ℕ) (q : Post) (qs : List Post) (s : ℕ × Rational) → (sender c (p + 1) qs ≡ Some s → SentAt c (p + 1) qs s.0) →
    (o : Option Rational) → sent_on c q.offers ≡ o → first_of (numbered p o) (sender c (p + 1) qs) ≡ Some s → SentAt c p (q ∷ qs) s.0
sent_by c p q qs s rest None z e = sent_later c p q qs s.0 (rest e)
sent_by c p q qs s rest (Some v) z e =
    let same : p ≡ s.0 = ap (λ (x : ℕ × Rational). x.0) (same_Some (p, v) s e) in
    record { place = 0; post = q; is = omega (arith, same); at = refl; sends = ap is_some z }

sent_at : (c p : ℕ) (ps : List Post) (s : ℕ × Rational) → sender c p ps ≡ Some s → SentAt c p ps s.0
sent_at c p [] s e = absurd cc
sent_at c p (q ∷ qs) s e = sent_by c p q qs s (sent_at c (p + 1) qs s) (sent_on c q.offers) refl e

record ReceivedAt (c p : ℕ) (ps : List Post) (r : ℕ) : Type 0 where
  place : ℕ
  post : Post
  is : r ≡ p + place
  at : slice_get ps place ≡ Some post
  receives : receives_on c post.offers ≡ true

received_later : (c p : ℕ) (q : Post) (qs : List Post) (r : ℕ) → ReceivedAt c (p + 1) qs r → ReceivedAt c p (q ∷ qs) r
received_later c p q qs r h =
    (let is = h.is in record { place = suc h.place; post = h.post; is = omega (arith, is); at = h.at; receives = h.receives })

received_by : (c p : ℕ) (q : Post) (qs : List Post) (r : ℕ) → (receiver c (p + 1) qs ≡ Some r → ReceivedAt c (p + 1) qs r) →
    (is : Bool) → receives_on c q.offers ≡ is → (if is then Some p else receiver c (p + 1) qs) ≡ Some r → ReceivedAt c p (q ∷ qs) r
received_by c p q qs r rest false z e = received_later c p q qs r (rest e)
received_by c p q qs r rest true z e =
    let same : p ≡ r = same_Some p r e in
    record { place = 0; post = q; is = omega (arith, same); at = refl; receives = z }

received_at : (c p : ℕ) (ps : List Post) (r : ℕ) → receiver c p ps ≡ Some r → ReceivedAt c p ps r
received_at c p [] r e = absurd cc
received_at c p (q ∷ qs) r e = received_by c p q qs r (received_at c (p + 1) qs r) (receives_on c q.offers) refl e

-- ---- the other way round

first_some : {A : Type 0} (a b : Option A) → is_some b ≡ true → is_some (first_of a b) ≡ true
first_some None b h = h
first_some (Some x) b h = refl

numbered_some : (p : ℕ) (o : Option Rational) (b : Option (ℕ × Rational)) → is_some o ≡ true → is_some (first_of (numbered p o) b) ≡ true
numbered_some p None b h = absurd cc
numbered_some p (Some v) b h = refl

some_sender : (c p : ℕ) (ps : List Post) (k : ℕ) (x : Post) → slice_get ps k ≡ Some x → is_some (sent_on c x.offers) ≡ true → is_some (sender c p ps) ≡ true
some_sender c p [] k x at h = absurd cc
some_sender c p (q ∷ qs) zero x at h =
    numbered_some p (sent_on c q.offers) (sender c (p + 1) qs) (subst (λ (y : Post). is_some (sent_on c y.offers) ≡ true) (sym (same_Some q x at)) h)
some_sender c p (q ∷ qs) (suc k) x at h =
    first_some (numbered p (sent_on c q.offers)) (sender c (p + 1) qs) (some_sender c (p + 1) qs k x at h)

some_if : (is : Bool) (p : ℕ) (o : Option ℕ) → is_some o ≡ true → is_some (if is then Some p else o) ≡ true
some_if true p o h = refl
some_if false p o h = h

some_here : (is : Bool) (p : ℕ) (o : Option ℕ) → is ≡ true → is_some (if is then Some p else o) ≡ true
some_here true p o h = refl
some_here false p o h = absurd cc

some_receiver : (c p : ℕ) (ps : List Post) (k : ℕ) (x : Post) → slice_get ps k ≡ Some x → receives_on c x.offers ≡ true → is_some (receiver c p ps) ≡ true
some_receiver c p [] k x at h = absurd cc
some_receiver c p (q ∷ qs) zero x at h =
    some_here (receives_on c q.offers) p (receiver c (p + 1) qs) (subst (λ (y : Post). receives_on c y.offers ≡ true) (sym (same_Some q x at)) h)
some_receiver c p (q ∷ qs) (suc k) x at h = some_if (receives_on c q.offers) p (receiver c (p + 1) qs) (some_receiver c (p + 1) qs k x at h)

-- ---- a meeting

record MetOn (c : ℕ) (ps : List Post) (m : Meeting) : Type 0 where
  sent : SentAt c 0 ps m.sender
  received : ReceivedAt c 0 ps m.receiver

met_by : (c : ℕ) (ps : List Post) (m : Meeting) (s : Option (ℕ × Rational)) (r : Option ℕ) → sender c 0 ps ≡ s → receiver c 0 ps ≡ r → meeting_by c s r ≡ Some m → MetOn c ps m
met_by c ps m None r es er e = absurd cc
met_by c ps m (Some s) None es er e = absurd cc
met_by c ps m (Some s) (Some r) es er e =
    let same = same_Some _ m e in
    record {
      sent = subst (λ (x : Meeting). SentAt c 0 ps x.sender) same (sent_at c 0 ps s es);
      received = subst (λ (x : Meeting). ReceivedAt c 0 ps x.receiver) same (received_at c 0 ps r er);
    }

met_on : (c : ℕ) (ps : List Post) (m : Meeting) → meeting_on c ps ≡ Some m → MetOn c ps m
met_on c ps m e = met_by c ps m (sender c 0 ps) (receiver c 0 ps) refl refl e

-- both ends are offered, so there is one
ready_by : (c : ℕ) (s : Option (ℕ × Rational)) (r : Option ℕ) → is_some s ≡ true → is_some r ≡ true → meeting_by c s r ≡ None → ⊥
ready_by c None r hs hr e = cc
ready_by c (Some s) None hs hr e = cc
ready_by c (Some s) (Some r) hs hr e = cc

-- ---- the first of the ready channels

record FirstOn (c n : ℕ) (ps : List Post) (m : Meeting) : Type 0 where
  channel : ℕ
  low : channel < n
  on : MetOn (c + channel) ps m

first_by : (c n : ℕ) (ps : List Post) (m : Meeting) → (meeting_from (c + 1) n ps ≡ Some m → FirstOn (c + 1) n ps m) →
    (o : Option Meeting) → meeting_on c ps ≡ o → first_of o (meeting_from (c + 1) n ps) ≡ Some m → FirstOn c (suc n) ps m
first_by c n ps m rest (Some x) z e =
    let here : c ≡ c + 0 = omega arith in
    record { channel = 0; low = omega arith; on = subst (λ i. MetOn i ps m) here (met_on c ps m (z ∙ e)) }
first_by c n ps m rest None z e =
    let later = rest e in
    let low = later.low in
    let k = later.channel in
    let same : (c + 1) + k ≡ c + suc k = omega arith in
    record { channel = suc k; low = omega (arith, low); on = subst (λ i. MetOn i ps m) same later.on }

first_on : (c n : ℕ) (ps : List Post) (m : Meeting) → meeting_from c n ps ≡ Some m → FirstOn c n ps m
first_on c zero ps m e = absurd cc
first_on c (suc n) ps m e = first_by c n ps m (first_on (c + 1) n ps m) (meeting_on c ps) refl e

none_by : (c n : ℕ) (ps : List Post) → (meeting_from (c + 1) n ps ≡ None → (k : ℕ) → k < n → meeting_on ((c + 1) + k) ps ≡ None) →
    (o : Option Meeting) → meeting_on c ps ≡ o → first_of o (meeting_from (c + 1) n ps) ≡ None → (k : ℕ) → k < suc n → meeting_on (c + k) ps ≡ None
none_by c n ps rest (Some m) z e k low = absurd cc
none_by c n ps rest None z e zero low =
    let here : c ≡ c + 0 = omega arith in
    subst (λ i. meeting_on i ps ≡ None) here z
none_by c n ps rest None z e (suc k) low =
    let same : (c + 1) + k ≡ c + suc k = omega arith in
    subst (λ i. meeting_on i ps ≡ None) same (rest e k (omega (arith, low)))

none_on : (c n : ℕ) (ps : List Post) → meeting_from c n ps ≡ None → (k : ℕ) → k < n → meeting_on (c + k) ps ≡ None
none_on c zero ps e = λ k low. absurd (omega (arith, low))
none_on c (suc n) ps e = none_by c n ps (none_on (c + 1) n ps) (meeting_on c ps) refl e

-- ---- posts of which no channel is ready

-- who sends, or receives, in rs does so in ps
abbrev Fewer : List Post → List Post → Meeting → Type 0
Fewer ps rs m =
    ((x : Post) → slice_get rs m.sender ≡ Some x → (c : ℕ) → is_some (sent_on c x.offers) ≡ true → slice_get ps m.sender ≡ Some x)
    × ((x : Post) → slice_get rs m.receiver ≡ Some x → (c : ℕ) → receives_on c x.offers ≡ true → slice_get ps m.receiver ≡ Some x)

there : (rs : List Post) (s k : ℕ) (x : Post) → s ≡ 0 + k → slice_get rs k ≡ Some x → slice_get rs s ≡ Some x
there rs s k x is at = (let same : s ≡ k = omega (arith, is) in ap (slice_get rs) same ∙ at)

no_meeting : (C : ℕ) (ps rs : List Post) (m : Meeting) → first_meeting C ps ≡ None → Fewer ps rs m → first_meeting C rs ≡ Some m → ⊥
no_meeting C ps rs m none fewer e =
    let f = first_on 0 C rs m e in
    let c = 0 + f.channel in
    let s = f.on.sent in
    let r = f.on.received in
    let s_at : slice_get rs m.sender ≡ Some s.post = there rs m.sender s.place s.post s.is s.at in
    let r_at : slice_get rs m.receiver ≡ Some r.post = there rs m.receiver r.place r.post r.is r.at in
    ready_by c (sender c 0 ps) (receiver c 0 ps)
    (some_sender c 0 ps m.sender s.post (fewer.0 s.post s_at c s.sends) s.sends)
    (some_receiver c 0 ps m.receiver r.post (fewer.1 r.post r_at c r.receives) r.receives)
    (none_on 0 C ps none f.channel f.low)

-- ---- one process posted

module _ (C p : ℕ) (ps qs : List Post) (none : first_meeting C ps ≡ None) (posted : Posted p ps qs) where
  in_by : (m : Meeting) → first_meeting C qs ≡ Some m → (s r : Bool) → (m.sender == p) ≡ s → (m.receiver == p) ≡ r → (if s then true else r) ≡ true
  in_by m e true r es er = refl
  in_by m e false true es er = refl
  in_by m e false false es er =
      absurd
      (
      no_meeting C ps qs m none (
        λ x at c sends. sym (posted m.sender (eqb-false m.sender p es)) ∙ at,
        λ x at c receives. sym (posted m.receiver (eqb-false m.receiver p er)) ∙ at,
      )
      e
      )

  -- it is in the meeting
  pub poster_meets : (m : Meeting) → first_meeting C qs ≡ Some m → is_in p m ≡ true
  poster_meets m e = in_by m e (m.sender == p) (m.receiver == p) refl refl

-- ---- the posts behind a meeting

set_at : (xs : List Post) (i k : ℕ) (v x : Post) → slice_get (slice_set xs i v) k ≡ Some x → (x ≡ v) ⊎ ((slice_get xs k ≡ Some x) × (k ≢ i))
set_at [] i k v x e = absurd cc
set_at (y ∷ xs) zero zero v x e = inl (sym (same_Some v x e))
set_at (y ∷ xs) zero (suc k) v x e = inr (e, λ same. omega (arith, same))
set_at (y ∷ xs) (suc i) zero v x e = inr (e, λ same. omega (arith, same))
set_at (y ∷ xs) (suc i) (suc k) v x e = next (set_at xs i k v x e)
  where
    next : ((x ≡ v) ⊎ ((slice_get xs k ≡ Some x) × (k ≢ i))) → (x ≡ v) ⊎ ((slice_get xs k ≡ Some x) × (suc k ≢ suc i))
    next (inl same) = inl same
    next (inr h) = inr (h.0, λ same. h.1 (omega (arith, same)))

record Apart (m : Meeting) (qs : List Post) (k : ℕ) (x : Post) : Type 0 where
  at : slice_get qs k ≡ Some x
  no_sender : k ≢ m.sender
  no_receiver : k ≢ m.receiver

fired_at : (m : Meeting) (qs : List Post) (k : ℕ) (x : Post) → slice_get (fired m qs) k ≡ Some x → (x ≡ going_post) ⊎ Apart m qs k x
fired_at m qs k x e = outer (set_at (slice_set qs m.sender going_post) m.receiver k going_post x e)
  where
    inner : k ≢ m.receiver → ((x ≡ going_post) ⊎ ((slice_get qs k ≡ Some x) × (k ≢ m.sender))) → (x ≡ going_post) ⊎ Apart m qs k x
    inner away (inl same) = inl same
    inner away (inr h) = inr (record { at = h.0; no_sender = h.1; no_receiver = away })

    outer : ((x ≡ going_post) ⊎ ((slice_get (slice_set qs m.sender going_post) k ≡ Some x) × (k ≢ m.receiver))) → (x ≡ going_post) ⊎ Apart m qs k x
    outer (inl same) = inl same
    outer (inr h) = inner h.1 (set_at qs m.sender k going_post x h.0)

-- who is apart from a meeting with p isn't p
not_poster : (m : Meeting) (p k : ℕ) → (s r : Bool) → (m.sender == p) ≡ s → (m.receiver == p) ≡ r → (if s then true else r) ≡ true → k ≢ m.sender → k ≢ m.receiver → k ≢ p
not_poster m p k true r es er is ns nr = λ same. ns (same ∙ sym (eqb-true m.sender p es))
not_poster m p k false true es er is ns nr = λ same. nr (same ∙ sym (eqb-true m.receiver p er))
not_poster m p k false false es er is ns nr = absurd cc

module _ (C p : ℕ) (ps qs : List Post) (none : first_meeting C ps ≡ None) (posted : Posted p ps qs) where
  kept_post : (m : Meeting) → is_in p m ≡ true → (k : ℕ) (x : Post) → slice_get (fired m qs) k ≡ Some x → (x ≡ going_post) ⊎ (slice_get ps k ≡ Some x)
  kept_post m is k x e = by (fired_at m qs k x e)
    where
      by : ((x ≡ going_post) ⊎ Apart m qs k x) → (x ≡ going_post) ⊎ (slice_get ps k ≡ Some x)
      by (inl same) = inl same
      by (inr h) = inr (sym (posted k (not_poster m p k (m.sender == p) (m.receiver == p) refl refl is h.no_sender h.no_receiver)) ∙ h.at)

  sends_no : (c : ℕ) (x : Post) → x ≡ going_post → is_some (sent_on c x.offers) ≡ true → ⊥
  sends_no c x same h = (let none : false ≡ true = ap (λ (y : Post). is_some (sent_on c y.offers)) (sym same) ∙ h in cc)

  receives_no : (c : ℕ) (x : Post) → x ≡ going_post → receives_on c x.offers ≡ true → ⊥
  receives_no c x same h = (let none : false ≡ true = ap (λ (y : Post). receives_on c y.offers) (sym same) ∙ h in cc)

  -- no channel is ready behind the meeting
  pub quiet_again : (m : Meeting) → first_meeting C qs ≡ Some m → first_meeting C (fired m qs) ≡ None
  quiet_again m e = by (first_meeting C (fired m qs)) refl
    where
      is : is_in p m ≡ true
      is = poster_meets C p ps qs none posted m e

      sent : (n : Meeting) (x : Post) → slice_get (fired m qs) n.sender ≡ Some x → (c : ℕ) → is_some (sent_on c x.offers) ≡ true → ((x ≡ going_post) ⊎ (slice_get ps n.sender ≡ Some x)) → slice_get ps n.sender ≡ Some x
      sent n x at c h (inl same) = absurd (sends_no c x same h)
      sent n x at c h (inr there) = there

      received : (n : Meeting) (x : Post) → slice_get (fired m qs) n.receiver ≡ Some x → (c : ℕ) → receives_on c x.offers ≡ true → ((x ≡ going_post) ⊎ (slice_get ps n.receiver ≡ Some x)) → slice_get ps n.receiver ≡ Some x
      received n x at c h (inl same) = absurd (receives_no c x same h)
      received n x at c h (inr there) = there

      by : (o : Option Meeting) → first_meeting C (fired m qs) ≡ o → o ≡ None
      by None z = refl
      by (Some n) z =
          absurd
          (
          no_meeting C ps (fired m qs) n none (
            λ x at c h. sent n x at c h (kept_post m is n.sender x at),
            λ x at c h. received n x at c h (kept_post m is n.receiver x at),
          )
          z
          )

-- ---- the pass

time_by_none : (n : ℕ) (clock horizon : Rational) (ps : List Post) (how : Passing) → (time_by n clock horizon ps how).meetings ≡ []
time_by_none n clock horizon ps NoBound = refl
time_by_none n clock horizon ps AtHorizon = refl
time_by_none n clock horizon ps Overflows = refl
time_by_none n clock horizon ps (Took by) = refl

time_if : (n : ℕ) (clock horizon : Rational) (ps : List Post) (is : Bool) →
    (if is then stays clock (suc n) None ps else time_by n clock horizon ps (passing_on clock horizon ps)).meetings ≡ []
time_if n clock horizon ps true = refl
time_if n clock horizon ps false = time_by_none n clock horizon ps (passing_on clock horizon ps)

quiet_none : (n C : ℕ) (clock horizon : Rational) (ps : List Post) → first_meeting C ps ≡ None → (passed n C clock horizon ps).meetings ≡ []
quiet_none zero C clock horizon ps none = refl
quiet_none (suc n) C clock horizon ps none =
    ap (λ (o : Option Meeting). (passed_by (passed n C clock horizon) clock ps (time n clock horizon ps) o).meetings) none
    ∙ time_if n clock horizon ps (list_any is_able ps)

module _ (C p : ℕ) (clock horizon : Rational) (ps qs : List Post) (none : first_meeting C ps ≡ None) (posted : Posted p ps qs) where
  first_only : (m : Meeting) → first_meeting C qs ≡ Some m → (ms : List Meeting) → ms ≡ [] → (k : ℕ) (x : Meeting) → slice_get (m ∷ ms) k ≡ Some x → (k ≡ 0) × (is_in p x ≡ true)
  first_only m e ms nothing zero x at =
      (refl, ap (is_in p) (sym (same_Some m x at)) ∙ poster_meets C p ps qs none posted m e)
  first_only m e [] nothing (suc k) x at = absurd cc
  first_only m e (y ∷ ms) nothing (suc k) x at = absurd cc

  at_most_one : (n k : ℕ) (m : Meeting) (o : Option Meeting) → first_meeting C qs ≡ o →
      slice_get (passed_by (passed n C clock horizon) clock qs (time n clock horizon qs) o).meetings k ≡ Some m → (k ≡ 0) × (is_in p m ≡ true)
  at_most_one n k m None z at =
      let empty : List Meeting = [] in
      let nothing : slice_get empty k ≡ Some m = ap (λ ms. slice_get ms k) (sym (time_if n clock horizon qs (list_any is_able qs))) ∙ at in
      absurd cc
  at_most_one n k m (Some x) z at =
      first_only x z (passed n C clock horizon (fired x qs)).meetings (quiet_none n C clock horizon (fired x qs) (quiet_again C p ps qs none posted x z)) k m at

  pub one_meeting : (n k : ℕ) (m : Meeting) → slice_get (passed n C clock horizon qs).meetings k ≡ Some m → (k ≡ 0) × (is_in p m ≡ true)
  one_meeting zero k m at = absurd cc
  one_meeting (suc n) k m at = at_most_one n k m (first_meeting C qs) refl at
