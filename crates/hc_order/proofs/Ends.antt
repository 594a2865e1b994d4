-- In what a run reaches each process keeps to the channels of its body, so a channel has one sender and one receiver.
use Rattle.std.proofs.Common.{◌≡◌, refl, sym, ap, ◌∙◌, subst, ℕ, zero, suc, ◌+◌, ◌≤◌, ◌<◌, Bool, true, false, cond, ◌&&◌, List, [], ◌∷◌, length, map, slice_get, slice_set, Option, Some, None, count_by, arith}
use Rattle.std.specs.List.{list_any}
use Rattle.std.proofs.lemmas.Bool.{true≢false, and_parts, and_from, or_left, or_right}
use Rattle.std.proofs.lemmas.List.Sums.{sum_by-cons}
use Rattle.hc_rational.specs.Words.{Rational}
use Rattle.hc_term.specs.declared.system.Process.{Process}
use Rattle.hc_term.specs.declared.task.Task.{Task}
use Rattle.hc_term.specs.declared.run.Step.{Step}
use Rattle.hc_term.specs.declared.run.Step.TheVariants.{Silent, Comm, Delay}
use Rattle.hc_term.specs.declared.run.Item.{Item}
use Rattle.hc_term.specs.declared.model.ProcessState.{ProcessState}
use Rattle.hc_term.specs.declared.model.Meeting.{Meeting}
use Rattle.hc_term.specs.declared.model.Configuration.{Configuration}
use Rattle.hc_term.specs.Silent.{Did, silent}
use Rattle.hc_term.specs.Offers.{post}
use Rattle.hc_term.specs.Communication.{sent, received, moved}
use Rattle.hc_term.specs.Step.{opening, opening_of, silent_by, silent_of, changed, SendsAt, ReceivesAt, Meets, StepTo, Leads}
use Rattle.hc_term.specs.Rules.{is_user, is_joined, all_below}
use Rattle.hc_term.proofs.Used.{all_below-false}
use Rattle.hc_term.proofs.Bodies.{UsesNoMore, no_more-same, no_more-trans, Keeps, silent-keeps}
use Rattle.hc_term.proofs.Handed.{sent-no_more, received-no_more, moved-no_more, sent_on-offered, offered-used}

-- ---- what is kept in a run

-- each process keeps to the channels of its body
abbrev pub KeepsBodies : List Process → List ProcessState → Type 0
KeepsBodies bodies [] = Unit {0}
KeepsBodies [] (q ∷ qs) = ⊥
KeepsBodies (b ∷ bodies) (q ∷ qs) = UsesNoMore b.body q.todo × KeepsBodies bodies qs

pub opening-keeps : (bodies : List Process) → KeepsBodies bodies (map opening_of bodies)
opening-keeps [] = tt
opening-keeps (b ∷ bodies) = (no_more-same b.body, opening-keeps bodies)

set-keeps : (bodies : List Process) (qs : List ProcessState) (p : ℕ) (x : ProcessState) →
    ((q : ProcessState) → slice_get qs p ≡ Some q → UsesNoMore q.todo x.todo) → KeepsBodies bodies qs →
    KeepsBodies bodies (slice_set qs p x)
set-keeps bodies [] p x h k = k
set-keeps [] (q ∷ qs) p x h k = absurd k
set-keeps (b ∷ bodies) (q ∷ qs) zero x h k = (no_more-trans b.body q.todo x.todo k.0 (h q refl), k.1)
set-keeps (b ∷ bodies) (q ∷ qs) (suc p) x h k = (k.0, set-keeps bodies qs p x h k.1)

module _ (f : ProcessState → ProcessState) (h : (q : ProcessState) → UsesNoMore q.todo (f q).todo) where
  changed-keeps : (bodies : List Process) (qs : List ProcessState) (p : ℕ) → KeepsBodies bodies qs →
      KeepsBodies bodies (changed f p qs)
  changed-keeps bodies [] p k = k
  changed-keeps [] (q ∷ qs) p k = absurd k
  changed-keeps (b ∷ bodies) (q ∷ qs) zero k = (no_more-trans b.body q.todo (f q).todo k.0 (h q), k.1)
  changed-keeps (b ∷ bodies) (q ∷ qs) (suc p) k = (k.0, changed-keeps bodies qs p k.1)

  map-keeps : (bodies : List Process) (qs : List ProcessState) → KeepsBodies bodies qs →
      KeepsBodies bodies (map f qs)
  map-keeps bodies [] k = k
  map-keeps [] (q ∷ qs) k = absurd k
  map-keeps (b ∷ bodies) (q ∷ qs) k = (no_more-trans b.body q.todo (f q).todo k.0 (h q), map-keeps bodies qs k.1)

module _ (t : Task) (bodies : List Process) where
  silent-next : (c : Configuration) (p : ℕ) (logged : Option Rational) (x q : ProcessState) →
      silent_of t c p ≡ Did logged x → slice_get c.processes p ≡ Some q → UsesNoMore q.todo x.todo
  silent-next c p logged x q e at =
      let did : silent t.seed p c.clock q ≡ Did logged x = sym (ap (silent_by t c.clock p) at) ∙ e in
      subst (Keeps q.todo) did (silent-keeps t.seed p c.clock q)

  pub step-keeps : (step : Step) (c new : Configuration) → StepTo t c step new → KeepsBodies bodies c.processes →
      KeepsBodies bodies new.processes
  step-keeps (Silent p logged) c new s k =
      subst (λ (i : Configuration). KeepsBodies bodies i.processes) (sym s.2)
      (set-keeps bodies c.processes p s.0 (λ q at. silent-next c p logged s.0 q s.1 at) k)
  step-keeps (Comm channel value) c new s k =
      let m = s.0 in
      let r = received m.channel m.value in
      let after_r = changed-keeps r (received-no_more m.channel m.value) bodies c.processes m.receiver k in
      subst (λ (i : Configuration). KeepsBodies bodies i.processes) (sym s.5)
      (changed-keeps (sent m.channel) (sent-no_more m.channel) bodies (changed r m.receiver c.processes) m.sender after_r)
  step-keeps (Delay d) c new s k =
      subst (λ (i : Configuration). KeepsBodies bodies i.processes) (sym s.1)
      (map-keeps (moved d) (moved-no_more d) bodies c.processes k)

  pub run-keeps : (items : List Item) (c new : Configuration) → Leads t c items new → KeepsBodies bodies c.processes →
      KeepsBodies bodies new.processes
  run-keeps [] c new h k = subst (λ (i : Configuration). KeepsBodies bodies i.processes) (sym h) k
  run-keeps (i ∷ is) c new h k = run-keeps is h.1.0 new h.1.2 (step-keeps i.step c h.1.0 h.1.1 k)

-- ---- the places of a list at which a test holds

abbrev pub PassesAt : {A : Type 0} → (A → Bool) → Option A → Type 0
PassesAt p None = ⊥
PassesAt p (Some x) = p x ≡ true

module _ {A : Type 0} (p : A → Bool) where
  pub pass_both : (q : A → Bool) (xs : List A) (k : ℕ) → PassesAt p (slice_get xs k) → PassesAt q (slice_get xs k) →
      list_any (λ x. p x && q x) xs ≡ true
  pass_both q [] k h l = absurd h
  pass_both q (x ∷ xs) zero h l = or_left (p x && q x) (list_any (λ x. p x && q x) xs) (and_from (p x) (q x) h l)
  pass_both q (x ∷ xs) (suc k) h l = or_right (p x && q x) (list_any (λ x. p x && q x) xs) (pass_both q xs k h l)

  count-pass : (x : A) (xs : List A) → p x ≡ true → count_by p (x ∷ xs) ≡ 1 + count_by p xs
  count-pass x xs h = sum_by-cons (λ y. cond (p y) 1 0) x xs ∙ ap (λ (b : Bool). cond b 1 0 + count_by p xs) h

  count-rest : (x : A) (xs : List A) → count_by p xs ≤ count_by p (x ∷ xs)
  count-rest x xs = omega (arith, sum_by-cons (λ y. cond (p y) 1 0) x xs)

  counted : (xs : List A) (k : ℕ) → PassesAt p (slice_get xs k) → 1 ≤ count_by p xs
  counted [] k h = absurd h
  counted (x ∷ xs) zero h = omega (arith, count-pass x xs h)
  counted (x ∷ xs) (suc k) h = omega (arith, count-rest x xs, counted xs k h)

  -- where one at most passes, there is one place
  pub pass_once : (xs : List A) (i j : ℕ) → count_by p xs ≤ 1 → PassesAt p (slice_get xs i) →
      PassesAt p (slice_get xs j) → i ≡ j
  pass_once [] i j few h l = absurd h
  pass_once (x ∷ xs) zero zero few h l = refl
  pass_once (x ∷ xs) zero (suc j) few h l = absurd (omega (arith, count-pass x xs h, counted xs j l))
  pass_once (x ∷ xs) (suc i) zero few h l = absurd (omega (arith, count-pass x xs l, counted xs i h))
  pass_once (x ∷ xs) (suc i) (suc j) few h l = ap suc (pass_once xs i j (omega (arith, count-rest x xs)) h l)

-- ---- the ends of a meeting

module _ (clock : Rational) (c : ℕ) where
  pub giver-uses : (v : Rational) (bodies : List Process) (qs : List ProcessState) (k : ℕ) → KeepsBodies bodies qs →
      SendsAt c v (slice_get (map (post clock) qs) k) → PassesAt (is_user true c) (slice_get bodies k)
  giver-uses v bodies [] k h g = absurd g
  giver-uses v [] (q ∷ qs) k h g = absurd h
  giver-uses v (b ∷ bodies) (q ∷ qs) zero h g =
      h.0.kept true c (offered-used true c clock q (sent_on-offered c v (post clock q).offers g))
  giver-uses v (b ∷ bodies) (q ∷ qs) (suc k) h g = giver-uses v bodies qs k h.1 g

  pub wisher-uses : (bodies : List Process) (qs : List ProcessState) (k : ℕ) → KeepsBodies bodies qs →
      ReceivesAt c (slice_get (map (post clock) qs) k) → PassesAt (is_user false c) (slice_get bodies k)
  wisher-uses bodies [] k h w = absurd w
  wisher-uses [] (q ∷ qs) k h w = absurd h
  wisher-uses (b ∷ bodies) (q ∷ qs) zero h w = h.0.kept false c (offered-used false c clock q w)
  wisher-uses (b ∷ bodies) (q ∷ qs) (suc k) h w = wisher-uses bodies qs k h.1 w

all_below-at : (n k : ℕ) (f : ℕ → Bool) → k < n → all_below n f ≡ true → f k ≡ true
all_below-at n k f below e = by_value (f k) refl where
  by_value : (b : Bool) → f k ≡ b → f k ≡ true
  by_value true h = h
  by_value false h = absurd (true≢false (sym e ∙ all_below-false n k f below h))

-- in a system that keeps the rules each channel joins two processes
pub joined : (t : Task) (c : ℕ) → c < length t.system.channels → is_joined t.system.processes c ≡ true
joined t c below =
    all_below-at (length t.system.channels) c (is_joined t.system.processes) below
    (and_parts _ _ (and_parts _ _ t.system.kept).1).1

-- the processes that a meeting joins, in what a run reaches
record Ends (t : Task) (m : Meeting) : Type 0 where
  sends : PassesAt (is_user true m.channel) (slice_get t.system.processes m.sender)
  receives : PassesAt (is_user false m.channel) (slice_get t.system.processes m.receiver)

meeting-ends : (t : Task) (items : List Item) (c : Configuration) (m : Meeting) → Leads t (opening t) items c →
    Meets m c → Ends t m
meeting-ends t items c m run h =
    let bodies = t.system.processes in
    let kept = run-keeps t bodies items (opening t) c run (opening-keeps bodies) in
    record {
      sends = giver-uses c.clock m.channel m.value bodies c.processes m.sender kept h.gives;
      receives = wisher-uses c.clock m.channel bodies c.processes m.receiver kept h.takes;
    }
