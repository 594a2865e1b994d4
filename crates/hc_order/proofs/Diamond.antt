-- In a determinate system two steps that are possible at once lead on to one configuration.
use Rattle.std.proofs.Common.{◌≡◌, ◌≢◌, refl, sym, ap, ap₂, ◌∙◌, subst, ℕ, zero, suc, ◌+◌, ◌≤◌, ◌<◌, Bool, true, false, ◌==◌, if◌then◌else◌, List, [], ◌∷◌, length, map, slice_get, slice_set, option_map, Option, Some, None, arith, ◌⊎◌, inl, inr}
use Rattle.std.specs.List.{list_all}
use Rattle.std.proofs.lemmas.Option.{slice_get-map}
use Rattle.std.proofs.lemmas.Bool.{and_parts, true≢false}
use Rattle.std.proofs.lemmas.Bool.Decides.{nat_tests}
use Rattle.hc_rational.specs.Words.{Rational}
use Rattle.hc_term.specs.declared.system.Process.{Process}
use Rattle.hc_term.specs.declared.task.Task.{Task}
use Rattle.hc_term.specs.declared.run.Step.{Step}
use Rattle.hc_term.specs.declared.run.Step.TheVariants.{Silent, Comm, Delay}
use Rattle.hc_term.specs.declared.run.Item.{Item}
use Rattle.hc_term.specs.declared.post.Post.{Post}
use Rattle.hc_term.specs.declared.model.ProcessState.{ProcessState}
use Rattle.hc_term.specs.declared.model.Meeting.{Meeting}
use Rattle.hc_term.specs.declared.model.Configuration.{Configuration}
use Rattle.hc_term.specs.Silent.{Outcome, Idle, Did, silent}
use Rattle.hc_term.specs.Offers.{post}
use Rattle.hc_term.specs.Communication.{sent, received, moved}
use Rattle.hc_term.specs.Posts.{Passing, Took, first_of, sent_on, receives_on, numbered, sender, receiver, meeting_by, meeting_on, meeting_from}
use Rattle.hc_term.specs.Step.{passing, opening, opening_of, posts, ready, rests, silent_by, silent_of, changed, replaced, met, delayed, SendsAt, ReceivesAt, Meets, StepTo, Leads}
use Rattle.hc_term.proofs.Commute.{silent_steps_commute, silent_and_comm_commute}
use Rattle.hc_term.proofs.Places.{get-changed_other}
use Rattle.hc_term.proofs.Wanting.{active-wants}
use Rattle.hc_term.proofs.Turns.{passing-quiet}
use Rattle.hc_order.specs.declared.handed.Handed.{Handed}
use Rattle.hc_order.specs.Determinate.{is_determinate, handed_by}
use Rattle.hc_order.specs.Laws.{Apart, MeetingsCommute, DeterminateStepsCommute}
use Rattle.hc_order.proofs.Ends.{KeepsBodies, opening-keeps, step-keeps}
use Rattle.hc_order.proofs.OneWay.{one_meeting, resting, did_one}
use Rattle.hc_order.proofs.Singles.{all_single, Singles, silent-single, SingleNext, sent-single, received-single, moved-single, few_offers, one_gift_channel, one_wish_channel, no_gift_and_wish}

-- ---- two changes at different places

changed-changed_other : (f g : ProcessState → ProcessState) (xs : List ProcessState) (p q : ℕ) → p ≢ q →
    changed f p (changed g q xs) ≡ changed g q (changed f p xs)
changed-changed_other f g [] p q d = refl
changed-changed_other f g (x ∷ xs) zero zero d = absurd (d refl)
changed-changed_other f g (x ∷ xs) zero (suc q) d = refl
changed-changed_other f g (x ∷ xs) (suc p) zero d = refl
changed-changed_other f g (x ∷ xs) (suc p) (suc q) d =
    ap (λ l. x ∷ l) (changed-changed_other f g xs p q (λ e. d (ap suc e)))

-- ---- two communications of different processes

apart-back : (m n : Meeting) → Apart m n → Apart n m
apart-back m n a = record {
  senders = λ e. a.senders (sym e);
  receivers = λ e. a.receivers (sym e);
  from_to = λ e. a.to_from (sym e);
  to_from = λ e. a.from_to (sym e);
}

module _ (c : Configuration) where
  post-met : (m : Meeting) (k : ℕ) → m.sender ≢ k → m.receiver ≢ k →
      slice_get (posts (met m c)) k ≡ slice_get (posts c) k
  post-met m k not_s not_r =
      let inner = changed (received m.channel m.value) m.receiver c.processes in
      slice_get-map (post c.clock) (met m c).processes k
      ∙ ap (option_map (post c.clock))
      (get-changed_other (sent m.channel) inner m.sender k not_s
      ∙ get-changed_other (received m.channel m.value) c.processes m.receiver k not_r)
      ∙ sym (slice_get-map (post c.clock) c.processes k)

  meets-met : (m n : Meeting) → Apart m n → Meets n c → Meets n (met m c)
  meets-met m n a h = record {
    gives = subst (SendsAt n.channel n.value) (sym (post-met m n.sender a.senders a.to_from)) h.gives;
    takes = subst (ReceivesAt n.channel) (sym (post-met m n.receiver a.from_to a.receivers)) h.takes;
  }

  met-met : (m n : Meeting) → Apart m n → met m (met n c) ≡ met n (met m c)
  met-met m n a =
      let sm = sent m.channel in
      let rm = received m.channel m.value in
      let sn = sent n.channel in
      let rn = received n.channel n.value in
      let qs = c.processes in
      let one = changed-changed_other rm sn (changed rn n.receiver qs) m.receiver n.sender a.to_from in
      let two = changed-changed_other rm rn qs m.receiver n.receiver a.receivers in
      let three = changed-changed_other sm sn (changed rn n.receiver (changed rm m.receiver qs)) m.sender n.sender a.senders in
      let four = changed-changed_other sm rn (changed rm m.receiver qs) m.sender n.receiver a.from_to in
      ap (λ ps. record { clock = c.clock; processes = ps })
      (ap (changed sm m.sender) (one ∙ ap (changed sn n.sender) two) ∙ three ∙ ap (changed sn n.sender) four)

-- ---- a communication keeps time from passing

first_of-none : {A : Type 0} (o p : Option A) → first_of o p ≡ None → (o ≡ None) × (p ≡ None)
first_of-none (Some a) p e = cc
first_of-none None p e = (refl, e)

numbered-none : (p : ℕ) (o : Option Rational) → numbered p o ≡ None → o ≡ None
numbered-none p None e = refl
numbered-none p (Some v) e = cc

sender-there : (c p : ℕ) (v : Rational) (ps : List Post) (k : ℕ) → SendsAt c v (slice_get ps k) → sender c p ps ≡ None → ⊥
sender-there c p v [] k g e = absurd g
sender-there c p v (q ∷ qs) zero g e =
    let none = numbered-none p (sent_on c q.offers) (first_of-none (numbered p (sent_on c q.offers)) (sender c (p + 1) qs) e).0 in
    cc
sender-there c p v (q ∷ qs) (suc k) g e =
    sender-there c (p + 1) v qs k g (first_of-none (numbered p (sent_on c q.offers)) (sender c (p + 1) qs) e).1

if_none : {A : Type 0} (b : Bool) (x : A) (o : Option A) → (if b then Some x else o) ≡ None → (b ≡ false) × (o ≡ None)
if_none true x o e = cc
if_none false x o e = (refl, e)

receiver-there : (c p : ℕ) (ps : List Post) (k : ℕ) → ReceivesAt c (slice_get ps k) → receiver c p ps ≡ None → ⊥
receiver-there c p [] k w e = absurd w
receiver-there c p (q ∷ qs) zero w e = true≢false (sym w ∙ (if_none (receives_on c q.offers) p (receiver c (p + 1) qs) e).0)
receiver-there c p (q ∷ qs) (suc k) w e = receiver-there c (p + 1) qs k w (if_none (receives_on c q.offers) p (receiver c (p + 1) qs) e).1

by-none : (c : ℕ) (s : Option (ℕ × Rational)) (r : Option ℕ) → (s ≡ None → ⊥) → (r ≡ None → ⊥) → meeting_by c s r ≡ None → ⊥
by-none c (Some s) (Some r) h k e = cc
by-none c (Some s) None h k e = k refl
by-none c None r h k e = h refl

from-next : (c from n : ℕ) (ps : List Post) (b : Bool) → (from == c) ≡ b → meeting_on from ps ≡ None → from ≤ c →
    (from + 1 ≤ c → meeting_on c ps ≡ None) → meeting_on c ps ≡ None
from-next c from n ps true f here h ih =
    let same : from ≡ c = grind (arith, nat_tests, f) in
    subst (λ (i : ℕ). meeting_on i ps ≡ None) same here
from-next c from n ps false f here h ih = ih (grind (arith, nat_tests, f, h))

from-none : (c from n : ℕ) (ps : List Post) → meeting_from from n ps ≡ None → from ≤ c → c < from + n → meeting_on c ps ≡ None
from-none c from zero ps e h k = absurd (omega (arith, h, k))
from-none c from (suc n) ps e h k =
    let parts = first_of-none (meeting_on from ps) (meeting_from (from + 1) n ps) e in
    from-next c from n ps (from == c) refl parts.0 h (λ l. from-none c (from + 1) n ps parts.1 l (omega (arith, k)))

pub meets-ready : (t : Task) (c : Configuration) (m : Meeting) → m.channel < length t.system.channels → Meets m c →
    ready t c ≡ None → ⊥
meets-ready t c m below h e =
    by-none m.channel (sender m.channel 0 (posts c)) (receiver m.channel 0 (posts c))
    (sender-there m.channel 0 m.value (posts c) m.sender h.gives) (receiver-there m.channel 0 (posts c) m.receiver h.takes)
    (from-none m.channel 0 (length t.system.channels) (posts c) e (omega arith) (omega (arith, below)))

-- ---- what is kept in a run of a determinate system

abbrev pub AllSingle : List ProcessState → Type 0
AllSingle [] = Unit {0}
AllSingle (q ∷ qs) = Singles q.todo × AllSingle qs

opening-single : (ps : List Process) → list_all (λ p. all_single p.body) ps ≡ true → AllSingle (map opening_of ps)
opening-single [] h = tt
opening-single (p ∷ ps) h =
    let parts = and_parts (all_single p.body) (list_all (λ p. all_single p.body) ps) h in
    (parts.0, opening-single ps parts.1)

single-at : (qs : List ProcessState) (p : ℕ) (q : ProcessState) → AllSingle qs → slice_get qs p ≡ Some q → Singles q.todo
single-at [] p q h e = cc
single-at (y ∷ qs) zero q h e = let same : y ≡ q = cc in subst (λ (x : ProcessState). Singles x.todo) same h.0
single-at (y ∷ qs) (suc p) q h e = single-at qs p q h.1 e

set-single : (qs : List ProcessState) (p : ℕ) (x : ProcessState) → Singles x.todo → AllSingle qs → AllSingle (slice_set qs p x)
set-single [] p x h k = tt
set-single (q ∷ qs) zero x h k = (h, k.1)
set-single (q ∷ qs) (suc p) x h k = (k.0, set-single qs p x h k.1)

module _ (f : ProcessState → ProcessState) (h : (q : ProcessState) → Singles q.todo → Singles (f q).todo) where
  changed-single : (qs : List ProcessState) (p : ℕ) → AllSingle qs → AllSingle (changed f p qs)
  changed-single [] p k = tt
  changed-single (q ∷ qs) zero k = (h q k.0, k.1)
  changed-single (q ∷ qs) (suc p) k = (k.0, changed-single qs p k.1)

  map-single : (qs : List ProcessState) → AllSingle qs → AllSingle (map f qs)
  map-single [] k = tt
  map-single (q ∷ qs) k = (h q k.0, map-single qs k.1)

-- a configuration that a determinate system may reach
pub record Reaches (t : Task) (c : Configuration) : Type 0 where
  pub bodies : KeepsBodies t.system.processes c.processes
  pub single : AllSingle c.processes

pub opening-reaches : (t : Task) → is_determinate t.system ≡ true → Reaches t (opening t)
opening-reaches t h =
    record { bodies = opening-keeps t.system.processes; single = opening-single t.system.processes h }

module _ (t : Task) where
  next-single : (c : Configuration) (p : ℕ) (logged : Option Rational) (x : ProcessState) → silent_of t c p ≡ Did logged x →
      AllSingle c.processes → Singles x.todo
  next-single c p logged x e h = by_place (slice_get c.processes p) refl where
    by_place : (o : Option ProcessState) → slice_get c.processes p ≡ o → Singles x.todo
    by_place None f = let none = sym (ap (silent_by t c.clock p) f) ∙ e in cc
    by_place (Some q) f =
        let did : silent t.seed p c.clock q ≡ Did logged x = sym (ap (silent_by t c.clock p) f) ∙ e in
        subst SingleNext did (silent-single t.seed p c.clock q (single-at c.processes p q h f))

  step-single : (step : Step) (c new : Configuration) → StepTo t c step new → AllSingle c.processes → AllSingle new.processes
  step-single (Silent p logged) c new s h =
      subst (λ (i : Configuration). AllSingle i.processes) (sym s.2)
      (set-single c.processes p s.0 (next-single c p logged s.0 s.1 h) h)
  step-single (Comm channel value) c new s h =
      let m = s.0 in
      let r = received m.channel m.value in
      subst (λ (i : Configuration). AllSingle i.processes) (sym s.5)
      (changed-single (sent m.channel) (sent-single m.channel) (changed r m.receiver c.processes) m.sender
      (changed-single r (received-single m.channel m.value) c.processes m.receiver h))
  step-single (Delay d) c new s h =
      subst (λ (i : Configuration). AllSingle i.processes) (sym s.1) (map-single (moved d) (moved-single d) c.processes h)

  pub step-reaches : (step : Step) (c new : Configuration) → StepTo t c step new → Reaches t c → Reaches t new
  step-reaches step c new s h = record {
    bodies = step-keeps t t.system.processes step c new s h.bodies;
    single = step-single step c new s h.single;
  }

  -- ---- the diamond

  -- the steps s and u, which lead from c to one and two, may be taken in either order
  pub record Joins (c : Configuration) (s u : Step) (one two : Configuration) : Type 0 where
    pub both : Configuration
    pub then_u : StepTo t one u both
    pub then_s : StepTo t two s both
    pub clock_one : one.clock ≡ c.clock
    pub clock_two : two.clock ≡ c.clock
    pub swaps : (ch : ℕ) (hs : List Handed) →
        handed_by ch c.clock s (handed_by ch c.clock u hs) ≡ handed_by ch c.clock u (handed_by ch c.clock s hs)

  abbrev pub Diamond : Configuration → Step → Step → Configuration → Configuration → Type 0
  Diamond c s u one two = ((s ≡ u) × (one ≡ two)) ⊎ Joins c s u one two

  few-at : (c : Configuration) (p : ℕ) (q : Post) → AllSingle c.processes → slice_get (posts c) p ≡ Some q → length q.offers ≤ 1
  few-at c p q h e = by_place (slice_get c.processes p) refl where
    by_place : (o : Option ProcessState) → slice_get c.processes p ≡ o → length q.offers ≤ 1
    by_place None f =
        let none = sym (slice_get-map (post c.clock) c.processes p ∙ ap (option_map (post c.clock)) f) ∙ e in cc
    by_place (Some x) f =
        let some = sym (slice_get-map (post c.clock) c.processes p ∙ ap (option_map (post c.clock)) f) ∙ e in
        let same : post c.clock x ≡ q = cc in
        subst (λ (k : Post). length k.offers ≤ 1) same (few_offers c.clock x (single-at c.processes p x h f))

  -- meetings on different channels have no process in common
  module _ (c : Configuration) (single : AllSingle c.processes) (a b : ℕ) (apart : a ≢ b) where
    gifts-apart : (v w : Rational) (o : Option Post) (p : ℕ) → slice_get (posts c) p ≡ o → SendsAt a v o → SendsAt b w o → ⊥
    gifts-apart v w None p e g h = g
    gifts-apart v w (Some q) p e g h = apart (one_gift_channel a b q.offers v w (few-at c p q single e) g h)

    wishes-apart : (o : Option Post) (p : ℕ) → slice_get (posts c) p ≡ o → ReceivesAt a o → ReceivesAt b o → ⊥
    wishes-apart None p e g h = g
    wishes-apart (Some q) p e g h = apart (one_wish_channel a b q.offers (few-at c p q single e) g h)

    mixed-apart : (v : Rational) (o : Option Post) (p : ℕ) → slice_get (posts c) p ≡ o → SendsAt a v o → ReceivesAt b o → ⊥
    mixed-apart v None p e g h = g
    mixed-apart v (Some q) p e g h = no_gift_and_wish a b q.offers v (few-at c p q single e) g h

  meetings-apart : (c : Configuration) (m n : Meeting) → AllSingle c.processes → m.channel ≢ n.channel → Meets m c → Meets n c →
      Apart m n
  meetings-apart c m n single apart h k = record {
    senders = λ e. gifts-apart c single m.channel n.channel apart m.value n.value _ n.sender refl
        (subst (λ (p : ℕ). SendsAt m.channel m.value (slice_get (posts c) p)) e h.gives) k.gives;
    receivers = λ e. wishes-apart c single m.channel n.channel apart _ n.receiver refl
        (subst (λ (p : ℕ). ReceivesAt m.channel (slice_get (posts c) p)) e h.takes) k.takes;
    from_to = λ e. mixed-apart c single m.channel n.channel apart m.value _ n.receiver refl
        (subst (λ (p : ℕ). SendsAt m.channel m.value (slice_get (posts c) p)) e h.gives) k.takes;
    to_from = λ e. mixed-apart c single n.channel m.channel (λ f. apart (sym f)) n.value _ m.receiver refl
        (subst (λ (p : ℕ). SendsAt n.channel n.value (slice_get (posts c) p)) (sym e) k.gives) h.takes;
  }

  -- ---- two steps

  not_idle : (o : Outcome) (l : Option Rational) (x : ProcessState) → o ≡ Did l x → o ≡ Idle → ⊥
  not_idle o l x e f = cc

  -- no process has a silent step where time passes
  pub rest-silent : (c : Configuration) (p : ℕ) (l : Option Rational) (x : ProcessState) → rests c.processes ≡ true →
      silent_of t c p ≡ Did l x → ⊥
  rest-silent c p l x r e = by_place (slice_get c.processes p) refl where
    by_place : (o : Option ProcessState) → slice_get c.processes p ≡ o → ⊥
    by_place None f = let none = sym (ap (silent_by t c.clock p) f) ∙ e in cc
    by_place (Some q) f =
        let did : silent t.seed p c.clock q ≡ Did l x = sym (ap (silent_by t c.clock p) f) ∙ e in
        true≢false (sym (active-wants t.seed p c.clock q (not_idle (silent t.seed p c.clock q) l x did))
        ∙ resting t c c.processes p q r f)

  took_one : (d e : Rational) (o : Option Passing) → o ≡ Some (Took d) → o ≡ Some (Took e) → d ≡ e
  took_one d e o h k = cc

  swap_if : (x y : Bool) (g h : Handed) (hs : List Handed) → (x ≡ true → y ≡ true → ⊥) →
      (if x then g ∷ (if y then h ∷ hs else hs) else (if y then h ∷ hs else hs))
      ≡ (if y then h ∷ (if x then g ∷ hs else hs) else (if x then g ∷ hs else hs))
  swap_if true true g h hs never = absurd (never refl refl)
  swap_if true false g h hs never = refl
  swap_if false true g h hs never = refl
  swap_if false false g h hs never = refl

  pub equal_is : (a b : ℕ) → (a == b) ≡ true → a ≡ b
  equal_is a b e = grind (arith, nat_tests, e)

  pub differ : (a b : ℕ) → (a == b) ≡ false → a ≢ b
  differ a b e f = true≢false (sym (equal_to a b f) ∙ e) where
    equal_to : (a b : ℕ) → a ≡ b → (a == b) ≡ true
    equal_to a b g = grind (arith, nat_tests, g)

  module _ (c : Configuration) (r : Reaches t c) where
    silent-silent : (p q : ℕ) (l k : Option Rational) (one two : Configuration) → StepTo t c (Silent p l) one →
        StepTo t c (Silent q k) two → (b : Bool) → (p == q) ≡ b → Diamond c (Silent p l) (Silent q k) one two
    silent-silent p q l k one two s u true e =
        let same : p ≡ q = equal_is p q e in
        let there : silent_of t c p ≡ Did k u.0 = ap (silent_of t c) same ∙ u.1 in
        let alike = did_one (silent_of t c p) l k s.0 u.0 s.1 there in
        inl (ap₂ Silent same alike.0, s.2 ∙ ap₂ (replaced c) same alike.1 ∙ sym u.2)
    silent-silent p q l k one two s u false e =
        let j = silent_steps_commute t c one two p q l k (differ p q e) s u in
        inr (record {
          both = j.0;
          then_u = j.1;
          then_s = j.2;
          clock_one = ap (λ (d : Configuration). d.clock) s.2;
          clock_two = ap (λ (d : Configuration). d.clock) u.2;
          swaps = λ ch hs. refl;
        })

    silent-comm : (p a : ℕ) (l : Option Rational) (v : Rational) (one two : Configuration) → StepTo t c (Silent p l) one →
        StepTo t c (Comm a v) two → Joins c (Silent p l) (Comm a v) one two
    silent-comm p a l v one two s u =
        let j = silent_and_comm_commute t c one two p a l v s u in
        record {
          both = j.0;
          then_u = j.1;
          then_s = j.2;
          clock_one = ap (λ (d : Configuration). d.clock) s.2;
          clock_two = ap (λ (d : Configuration). d.clock) u.5;
          swaps = λ ch hs. refl;
        }

    turned : (s u : Step) (one two : Configuration) → Joins c s u one two → Joins c u s two one
    turned s u one two j = record {
      both = j.both;
      then_u = j.then_s;
      then_s = j.then_u;
      clock_one = j.clock_two;
      clock_two = j.clock_one;
      swaps = λ ch hs. sym (j.swaps ch hs);
    }

    comm-comm : (a b : ℕ) (v w : Rational) (one two : Configuration) → StepTo t c (Comm a v) one →
        StepTo t c (Comm b w) two → (x : Bool) → (a == b) ≡ x → Diamond c (Comm a v) (Comm b w) one two
    comm-comm a b v w one two s u true e =
        let m = s.0 in
        let n = u.0 in
        let same : a ≡ b = equal_is a b e in
        let below = subst (λ (i : ℕ). i < length t.system.channels) (sym s.1) s.3 in
        let alike = one_meeting t c r.bodies m n below (u.1 ∙ sym same ∙ sym s.1) s.4 u.4 in
        let values : v ≡ w = sym s.2 ∙ ap (λ (x : Meeting). x.value) alike ∙ u.2 in
        inl (ap₂ Comm same values, s.5 ∙ ap (λ (x : Meeting). met x c) alike ∙ sym u.5)
    comm-comm a b v w one two s u false e =
        let m = s.0 in
        let n = u.0 in
        let unlike : m.channel ≢ n.channel = λ f. differ a b e (sym s.1 ∙ f ∙ u.1) in
        let x = meetings-apart c m n r.single unlike s.4 u.4 in
        let y = apart-back m n x in
        inr (record {
          both = met n (met m c);
          then_u = subst (λ (d : Configuration). StepTo t d (Comm b w) (met n (met m c))) (sym s.5)
              (n, u.1, u.2, u.3, meets-met c m n x u.4, refl);
          then_s = subst (λ (d : Configuration). StepTo t d (Comm a v) (met n (met m c))) (sym u.5)
              (m, s.1, s.2, s.3, meets-met c n m y s.4, sym (met-met c m n x));
          clock_one = ap (λ (d : Configuration). d.clock) s.5;
          clock_two = ap (λ (d : Configuration). d.clock) u.5;
          swaps = λ ch hs. swap_if (a == ch) (b == ch) (record { at = c.clock; value = v }) (record { at = c.clock; value = w }) hs
              (λ i j. differ a b e (equal_is a ch i ∙ sym (equal_is b ch j)));
        })

    no_delay-silent : (d : Rational) (p : ℕ) (l : Option Rational) (one two : Configuration) → StepTo t c (Delay d) one →
        StepTo t c (Silent p l) two → ⊥
    no_delay-silent d p l one two s u = rest-silent c p l u.0 (passing-quiet t c (Took d) s.0).resting u.1

    no_delay-comm : (d : Rational) (a : ℕ) (v : Rational) (one two : Configuration) → StepTo t c (Delay d) one →
        StepTo t c (Comm a v) two → ⊥
    no_delay-comm d a v one two s u =
        meets-ready t c u.0 (subst (λ (i : ℕ). i < length t.system.channels) (sym u.1) u.3) u.4
        (passing-quiet t c (Took d) s.0).quiet

    pub diamond : (s u : Step) (one two : Configuration) → StepTo t c s one → StepTo t c u two → Diamond c s u one two
    diamond (Silent p l) (Silent q k) one two s u = silent-silent p q l k one two s u (p == q) refl
    diamond (Silent p l) (Comm a v) one two s u = inr (silent-comm p a l v one two s u)
    diamond (Silent p l) (Delay d) one two s u = absurd (no_delay-silent d p l two one u s)
    diamond (Comm a v) (Silent p l) one two s u =
        inr (turned (Silent p l) (Comm a v) two one (silent-comm p a l v two one u s))
    diamond (Comm a v) (Comm b w) one two s u = comm-comm a b v w one two s u (a == b) refl
    diamond (Comm a v) (Delay d) one two s u = absurd (no_delay-comm d a v two one u s)
    diamond (Delay d) (Silent p l) one two s u = absurd (no_delay-silent d p l one two s u)
    diamond (Delay d) (Comm a v) one two s u = absurd (no_delay-comm d a v one two s u)
    diamond (Delay d) (Delay e) one two s u =
        let same = took_one d e (passing t c) s.0 u.0 in
        inl (ap Delay same, s.1 ∙ ap (λ (x : Rational). delayed x c) same ∙ sym u.1)

  pub run-reaches : (items : List Item) (c new : Configuration) → Leads t c items new → Reaches t c → Reaches t new
  run-reaches [] c new l h = subst (Reaches t) (sym l) h
  run-reaches (i ∷ is) c new l h = run-reaches is l.1.0 new l.1.2 (step-reaches i.step c l.1.0 l.1.1 h)

pub meetings_commute : MeetingsCommute
meetings_commute c m n a h k =
    (meets-met c m n a k, meets-met c n m (apart-back m n a) h, met-met c m n a)

pub determinate_steps_commute : DeterminateStepsCommute
determinate_steps_commute t items c one two s u h l x y =
    elim (diamond t c (run-reaches t items (opening t) c l (opening-reaches t h)) s u one two x y) [
      | inl e ↦ inl e
      | inr j ↦ inr (j.both, j.then_u, j.then_s)
    ]
