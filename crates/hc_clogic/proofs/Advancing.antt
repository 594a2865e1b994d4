-- That each thread advances in each state is all that a proof by invariant asks for.
use Rattle.std.specs.Prelude.{◌≡◌, ℕ, zero, suc, ◌+◌, true, false, Some, None, ◌≤◌}
use Rattle.std.proofs.Common.{sym, ap, ◌∙◌, subst, arith}
use Rattle.hc_schedule.specs.Threads.{Act, Goes, Unlocks, Waits, Does, Code}
use Rattle.hc_schedule.specs.Sections.{Step, steps, run}
use Rattle.hc_schedule.specs.Schedule.{State, did, after, next, is_fault, undefined, moves}
use Rattle.hc_schedule.specs.Solo.{Solo, solos, within, begun, gives_up, RunsAlone}
use Rattle.hc_schedule.proofs.Reduction.{Holds}
use Rattle.hc_schedule.proofs.ThreadLaws.{thread_laws, idles}
use Rattle.hc_schedule.proofs.SoloRuns.{not_both, left_unlocking, left_waiting, section_alone}
use Rattle.hc_clogic.specs.Advance.{Advance, Idles, Moves, Enters}
use Rattle.hc_schedule.proofs.SoloRuns.{entered}
use Rattle.hc_clogic.proofs.Inside.{leaves_there, held_at_most, sections_stand_within}

module _ {P S L F : Type 0} (c : Code P S L F) (Inv : State P S L → Type 0) where
  -- what `reaches` and `reaches_calm` ask for at each place of a section
  abbrev pub Fine : State P S L → ℕ → ℕ → Type 0
  Fine a o n =
      ((moves c).undefined (run (moves c) a (steps o n)) (Step o) ≡ false)
      × ((moves c).owner (run (moves c) a (steps o (suc n))) ≡ None → Inv (run (moves c) a (steps o (suc n))))

  -- a step that leaves the mutex free is the only one
  one_step : (a : State P S L) (o n : ℕ) → (next c a (Step o)).world.owner ≡ None → (undefined c a (Step o) ≡ false) → Inv (next c a (Step o)) →
      Holds (moves c) (thread_laws c) o a n → Fine a o n
  one_step a o zero free defined inv h = (defined, λ f. inv)
  one_step a o (suc n) free defined inv h = not_both (next c a (Step o)).world.owner o free h.0

  left : (a : State P S L) (o n : ℕ) (own : P) (y : Solo P S L) (act : Act P S L) → RunsAlone c a o n own y act → (j : ℕ) →
      next c (within a o y j) (Step o) ≡ did (within a o y j) o act
  left a o n own y act h j = by act h.asks h.leaves
    where
      by : (act : Act P S L) → c.turn o y.own (Some y.shared) ≡ Does act → gives_up act ≡ true → next c (within a o y j) (Step o) ≡ did (within a o y j) o act
      by (Unlocks p) e k = left_unlocking c a o y p j (entered c a o own h.takes).there e
      by (Waits i p) e k = left_waiting c a o y i p j (entered c a o own h.takes).there e
      by act e k = absurd cc

  enters : (a : State P S L) (o n most : ℕ) (own : P) (y : Solo P S L) (act : Act P S L) → RunsAlone c a o most own y act →
      Inv (did (within a o y (suc most)) o act) → Holds (moves c) (thread_laws c) o a n → Fine a o n
  enters a o n most own y act r inv h =
      let e = entered c a o own r.takes in
      let s = section_alone c a o (begun a own) y most e.there e.defined e.within_is r.alone (leaves_there c a o most own y act r) n h in
      let same : 1 + most ≡ suc most = omega arith in (
        s.0,
        λ f.
            subst Inv (sym (s.1 f ∙ ap (λ (j : ℕ). next c (within a o y j) (Step o)) same ∙ left a o most own y act r (suc most))) inv,
      )

  pub advances : (a : State P S L) (o n : ℕ) → a.world.owner ≡ None → Inv a → Advance c Inv a o → Holds (moves c) (thread_laws c) o a n → Fine a o n
  advances a o n free inv (Idles e) h =
      let k = idles c a (Step o) e in
      one_step a o n (ap (λ (s : State P S L). s.world.owner) k.1 ∙ free) k.0 (subst Inv (sym k.1) inv) h
  advances a o n free inv (Moves own goes after_it) h =
      let at : next c a (Step o) ≡ did a o (Goes own) = ap (after a o) goes in
      one_step a o n (ap (λ (s : State P S L). s.world.owner) at ∙ free) (ap is_fault goes) (subst Inv (sym at) after_it) h
  advances a o n free inv (Enters most own y act runs after_it) h = enters a o n most own y act runs after_it h

  -- ---- where a thread stands

  -- a thread that owns the mutex is inside a section
  no_owner : (a : State P S L) (o n : ℕ) (Q : State P S L → Type 0) → (next c a (Step o)).world.owner ≡ None → Holds (moves c) (thread_laws c) o a n → Q a →
      Q (run (moves c) a (steps o n))
  no_owner a o zero Q free h q = q
  no_owner a o (suc n) Q free h q = not_both (next c a (Step o)).world.owner o free h.0

  -- So what holds in front of a section and after each step inside holds after so many steps of its thread.
  pub stands_at : (a : State P S L) (o n : ℕ) → a.world.owner ≡ None → Advance c Inv a o → Holds (moves c) (thread_laws c) o a n → (Q : State P S L → Type 0) →
      Q a →
      (
      (m : ℕ) (own : P) (y : Solo P S L) (act : Act P S L) → RunsAlone c a o m own y act → (j : ℕ) → j ≤ m → (z : Solo P S L) →
      solos c o j (begun a own) ≡ Some z → Q (within a o z (suc j))
      ) →
      Q (run (moves c) a (steps o n))
  stands_at a o n free (Idles e) h Q q inside =
      no_owner a o n Q (ap (λ (s : State P S L). s.world.owner) (idles c a (Step o) e).1 ∙ free) h q
  stands_at a o n free (Moves own goes inv) h Q q inside =
      no_owner a o n Q (ap (λ (s : State P S L). s.world.owner) (ap (after a o) goes) ∙ free) h q
  stands_at a o zero free (Enters m own y act runs inv) h Q q inside = q
  stands_at a o (suc j) free (Enters m own y act runs inv) h Q q inside =
      let far : suc j ≤ suc m = held_at_most c a o m own y act runs (suc j) h in
      let less : j ≤ m = omega (arith, far) in
      let k = sections_stand_within c a o m own y act runs j less in
      subst Q (sym k.stands) (inside m own y act runs j less k.at k.alone)
