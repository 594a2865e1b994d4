-- The line of a log: the process takes its steps up to the log, and there is no other way to follow it.
use Rattle.std.proofs.Common.{◌≡◌, refl, sym, ap, subst, ◌∙◌, ℕ, zero, suc, ◌≤◌, ◌<◌, true, List, [], ◌∷◌, length, slice_get, slice_set, Option, Some, None, arith}
use Rattle.std.specs.Prelude.{◌==◌}
use Rattle.std.proofs.lemmas.Bool.Decides.{nat_tests}
use Rattle.std.proofs.lemmas.Option.{slice_get_within}
use Rattle.hc_rational.specs.Words.{Rational}
use Rattle.hc_term.specs.declared.task.Task.{Task}
use Rattle.hc_term.specs.declared.run.Step.TheVariants.{Silent}
use Rattle.hc_term.specs.declared.run.Item.{Item}
use Rattle.hc_term.specs.declared.run.StretchEnd.{StretchEnd}
use Rattle.hc_term.specs.declared.run.StretchEnd.TheVariants as ends
use Rattle.hc_term.specs.declared.model.ProcessState.{ProcessState}
use Rattle.hc_term.specs.declared.model.Configuration.{Configuration}
use Rattle.hc_term.specs.Silent.{Outcome, Idle, Unfit, Did, silent}
use Rattle.hc_term.specs.Step.{silent_by, silent_of, replaced, opening}
use Rattle.hc_term.specs.Event.{Progress, progress}
use Rattle.hc_step.specs.declared.stretch.Stretch.{Stretch}
use Rattle.hc_order.specs.Demand.{Movers, Strolls, AllStroll, Advances, AreHalted, Follows, OnDemand, asked}
use Rattle.hc_order.specs.Laws.{EndsAfterStroll}
use Rattle.hc_order.proofs.Loop.{stretch_is_stroll}
use Rattle.hc_order.proofs.Advancing.{advances_one, moves_are_needed, halted_moves_are_all}
use Rattle.hc_verify.specs.declared.walk.Walk.{Walk}
use Rattle.hc_verify.specs.Named.{IsThe}
use Rattle.hc_verify.specs.Stands.{Runs}
use Rattle.hc_verify.specs.Following.{IsReached, Followed}

-- ---- lists

module _ {A : Type 0} where
  pub set_there : (xs : List A) (p : ℕ) (x y : A) → slice_get xs p ≡ Some x → slice_get (slice_set xs p y) p ≡ Some y
  set_there [] p x y e = cc
  set_there (z ∷ xs) zero x y e = refl
  set_there (z ∷ xs) (suc p) x y e = set_there xs p x y e

  pub set_again : (xs : List A) (p : ℕ) (x y : A) → slice_set (slice_set xs p x) p y ≡ slice_set xs p y
  set_again [] p x y = refl
  set_again (z ∷ xs) zero x y = refl
  set_again (z ∷ xs) (suc p) x y = ap (λ (l : List A). z ∷ l) (set_again xs p x y)

-- what stands below the length is there
pub is_there : (qs : List ProcessState) (n : ℕ) → n < length qs → (q : ProcessState) × (slice_get qs n ≡ Some q)
is_there [] n h = absurd (omega (arith, h))
is_there (x ∷ xs) zero h = (x, refl)
is_there (x ∷ xs) (suc n) h = is_there xs n (omega (arith, h))

pub same_number : (t : Task) (clock : Rational) (who : Movers) (p n : ℕ) (qs rs : List ProcessState) →
    AllStroll who t clock p n qs rs → length qs ≡ length rs
same_number t clock who p n [] [] h = refl
same_number t clock who p n [] (r ∷ rs) h = absurd h
same_number t clock who p n (q ∷ qs) [] h = absurd h
same_number t clock who p n (q ∷ qs) (r ∷ rs) h = ap suc (same_number t clock who (suc p) h.1 qs rs h.4)

pub own : (p : ℕ) → (p == p) ≡ true
own p = grind (arith, nat_tests)

pub own_only : (p i : ℕ) → (p == i) ≡ true → p ≡ i
own_only p i h = grind (arith, nat_tests, h)

-- ---- the process is there

module _ (t : Task) (p : ℕ) (v : Rational) (room : ℕ) (c : Configuration) (q : ProcessState) (there : slice_get c.processes p ≡ Some q) where
  abbrev line : Item
  line = record { at = c.clock; step = Silent p (Some v) }

  abbrev who : Movers
  who = asked t (Silent p (Some v))

  abbrev g : Progress
  g = progress room t.seed p c.clock q

  next_of : (r : ProcessState) → silent_of t (replaced c p r) p ≡ silent t.seed p c.clock r
  next_of r = ap (silent_by t c.clock p) (set_there c.processes p q r there)

  moves_to : (k : ℕ) (r : ProcessState) → Strolls t c.clock p k q r → Advances who t k c (replaced c p r)
  moves_to k r s = advances_one who t k p c q r (own p) there s

  halted_there : (r : ProcessState) (o : Outcome) → silent t.seed p c.clock r ≡ o → ((x : ProcessState) → o ≡ Did None x → ⊥) →
      AreHalted who t (replaced c p r)
  halted_there r o e n i w x s =
      let here : p ≡ i = own_only p i w in
      n x (sym e ∙ sym (next_of r) ∙ ap (silent_of t (replaced c p r)) here ∙ s)

  followed : EndsAfterStroll room t p c.clock q g (ends.Logged v) → Follows t line (length g.logs) c (replaced c p g.next)
  followed h = record {
    moves = h.0;
    mid = replaced c p h.1;
    counted = h.2;
    at = refl;
    advances = moves_to h.0 h.1 h.3;
    step = (g.next, next_of h.1 ∙ h.4, ap (λ (l : List ProcessState). record c { processes = l }) (sym (set_again c.processes p h.1 g.next)));
  }

  module _ (lines : List Item) (j : ℕ) (before : OnDemand t lines j (opening t) c) (m : ℕ) (new : Configuration) (f : Follows t line m c new) where
    -- where it has no invisible step left, its next one is the log
    logs_next : (k : ℕ) (r : ProcessState) (o : Outcome) → Strolls t c.clock p k q r → silent t.seed p c.clock r ≡ o →
        ((x : ProcessState) → o ≡ Did None x → ⊥) → (x : ProcessState) × (o ≡ Did (Some v) x)
    logs_next k r o s e n =
        let all = halted_moves_are_all t lines line j k m c (replaced c p r) new refl before (moves_to k r s) (halted_there r o e n) f in
        (all.1.0, sym e ∙ sym (next_of r) ∙ all.1.1)

    refused : (e : StretchEnd) → EndsAfterStroll room t p c.clock q g e → (e ≡ ends.Logged v → ⊥) → m ≤ room → ⊥
    refused ends.Waits h other le = let x = logs_next (length g.logs) g.next Idle h.0 h.1 (λ x e. cc) in let wrong = x.1 in cc
    refused ends.Ended h other le = let x = logs_next (length g.logs) g.next Idle h.0 h.1 (λ x e. cc) in let wrong = x.1 in cc
    refused ends.Unfit h other le = let x = logs_next (length g.logs) g.next Unfit h.0 h.1 (λ x e. cc) in let wrong = x.1 in cc
    refused (ends.Logged u) h other le =
        let x = logs_next h.0 h.1 (Did (Some u) g.next) h.3 h.4 (λ x e. cc) in
        let e = x.1 in
        let same : u ≡ v = cc in
        other (ap ends.Logged same)
    refused ends.Spent h other le =
        let more = moves_are_needed t lines line j room m c (replaced c p g.next) new refl before (moves_to room g.next h.0) f in
        omega (arith, more, le)

-- ---- what the walk answers

none_some : (n : ℕ) → None ≡ Some n → ⊥
none_some n e = cc

-- the stretch ended with this log, after so many steps
abbrev pub EndsWith : Stretch → Rational → ℕ → Type 0
EndsWith st v k = (st.end ≡ ends.Logged v) × (st.steps ≡ k)

module _ (t : Task) (p : ℕ) (v : Rational) (room : ℕ) (w : Walk) (c : Configuration) (r : IsReached t w room c) where
  abbrev line_at : Rational → Item
  line_at at = record { at = at; step = Silent p (Some v) }

  -- at another moment
  pub other_moment : (at : Rational) (new : Walk) → (at ≡ w.clock → ⊥) → Followed t (line_at at) room c new None
  other_moment at new other k d f le = other (f.at ∙ sym r.at.clock)

  -- where there is no such process
  pub no_process : (at : Rational) (new : Walk) → length w.members.items ≤ p → Followed t (line_at at) room c new None
  no_process at new past k d f le = by (slice_get f.mid.processes p) refl where
    by : (o : Option ProcessState) → slice_get f.mid.processes p ≡ o → ⊥
    by None e =
        let nothing : silent_of t f.mid p ≡ Idle = ap (silent_by t f.mid.clock p) e in
        let did = f.step.1 in
        cc
    by (Some q) e =
        let low = slice_get_within f.mid.processes p q e in
        let same = same_number t c.clock (asked t (Silent p (Some v))) 0 f.moves c.processes f.mid.processes f.advances.stroll in
        omega (arith, low, same, r.at.members.counted, past)

  module _ (new : Walk) (st : Stretch) (low : p < length w.members.items)
      (runs : (q : ProcessState) → slice_get c.processes p ≡ Some q → Runs t.system p new st c (progress room t.seed p c.clock q))
      (few : st.steps ≤ room) where
    by_answer : (q : ProcessState) → slice_get c.processes p ≡ Some q → (o : Option ℕ) → IsThe (EndsWith st v) o →
        Followed t (line_at c.clock) room c new o
    by_answer q there (Some k) the =
        let is = (the k).0 refl in
        let run = runs q there in
        let g = progress room t.seed p c.clock q in
        let end : g.end ≡ ends.Logged v = sym run.ended ∙ is.0 in
        let f = followed t p v room c q there (subst (EndsAfterStroll room t p c.clock q g) end (stretch_is_stroll room t p c.clock q)) in
        let count : length g.logs ≡ k = sym run.counted ∙ is.1 in
        (omega (arith, few, is.1), (replaced c p g.next, subst (λ (n : ℕ). Follows t (line_at c.clock) n c (replaced c p g.next)) count f, run.at))
    by_answer q there None the =
        λ k d f le. (
        let run = runs q there in
        let g = progress room t.seed p c.clock q in
        let other : g.end ≡ ends.Logged v → ⊥ = λ e. none_some st.steps ((the st.steps).1 (run.ended ∙ e, refl)) in
        refused t p v room c q there r.lines r.steps r.follows k d f g.end (stretch_is_stroll room t p c.clock q) other le)

    pub log_follows : (at : Rational) → at ≡ w.clock → (o : Option ℕ) → IsThe (EndsWith st v) o → Followed t (line_at at) room c new o
    log_follows at here o the =
        let some = is_there c.processes p (omega (arith, low, r.at.members.counted)) in
        subst (λ (x : Rational). Followed t (line_at x) room c new o) (sym (here ∙ r.at.clock)) (by_answer some.0 some.1 o the)
