-- The end line of a process whose next step doesn't fit: it takes its steps, and there is no other way to reach it.
use Rattle.std.proofs.Common.{◌≡◌, refl, sym, ap, subst, ◌∙◌, ℕ, ◌≤◌, ◌<◌, length, slice_get, Option, Some, None, arith}
use Rattle.std.proofs.lemmas.Option.{slice_get_within}
use Rattle.hc_rational.specs.Words.{Rational}
use Rattle.hc_term.specs.declared.task.Task.{Task}
use Rattle.hc_term.specs.declared.run.Stop.{Stop}
use Rattle.hc_term.specs.declared.run.Stop.TheVariants.{Overflow}
use Rattle.hc_term.specs.declared.run.StretchEnd.{StretchEnd}
use Rattle.hc_term.specs.declared.run.StretchEnd.TheVariants as ends
use Rattle.hc_term.specs.declared.model.ProcessState.{ProcessState}
use Rattle.hc_term.specs.declared.model.Configuration.{Configuration}
use Rattle.hc_term.specs.Silent.{Outcome, Idle, Unfit, Did, silent}
use Rattle.hc_term.specs.Step.{silent_by, silent_of, replaced}
use Rattle.hc_term.specs.Event.{Progress, progress}
use Rattle.hc_step.specs.declared.stretch.Stretch.{Stretch}
use Rattle.hc_order.specs.Demand.{Strolls, Advances, AreHalted}
use Rattle.hc_order.specs.Verified.{asked_at_stop}
use Rattle.hc_order.specs.Laws.{EndsAfterStroll}
use Rattle.hc_order.proofs.Loop.{stretch_is_stroll}
use Rattle.hc_order.proofs.Advancing.{advances_one}
use Rattle.hc_order.proofs.Ending.{end_moves_are_needed, halted_end_moves_are_all}
use Rattle.hc_verify.specs.declared.walk.Walk.{Walk}
use Rattle.hc_verify.specs.Stands.{Runs}
use Rattle.hc_verify.specs.Following.{IsReached}
use Rattle.hc_verify.specs.Ending.{Reaches, unfit_steps}
use Rattle.hc_verify.proofs.Logging.{set_there, is_there, same_number, own, own_only}

module _ (t : Task) (p room : ℕ) (c : Configuration) (q : ProcessState) (there : slice_get c.processes p ≡ Some q) where
  abbrev stop : Stop
  stop = Overflow (Some p)

  abbrev g : Progress
  g = progress room t.seed p c.clock q

  next_of : (r : ProcessState) → silent_of t (replaced c p r) p ≡ silent t.seed p c.clock r
  next_of r = ap (silent_by t c.clock p) (set_there c.processes p q r there)

  moves_to : (k : ℕ) (r : ProcessState) → Strolls t c.clock p k q r → Advances (asked_at_stop stop) t k c (replaced c p r)
  moves_to k r s = advances_one (asked_at_stop stop) t k p c q r (own p) there s

  halted_there : (r : ProcessState) (o : Outcome) → silent t.seed p c.clock r ≡ o → ((x : ProcessState) → o ≡ Did None x → ⊥) →
      AreHalted (asked_at_stop stop) t (replaced c p r)
  halted_there r o e n i w x s =
      let here : p ≡ i = own_only p i w in
      n x (sym e ∙ sym (next_of r) ∙ ap (silent_of t (replaced c p r)) here ∙ s)

  module _ (m : ℕ) (last : Configuration) (adv : Advances (asked_at_stop stop) t m c last) (stops : silent_of t last p ≡ Unfit) where
    -- where it has no invisible step left, it has taken all that were needed, and its next step doesn't fit
    pub all_moves : (k : ℕ) (r : ProcessState) (o : Outcome) → Strolls t c.clock p k q r → silent t.seed p c.clock r ≡ o →
        ((x : ProcessState) → o ≡ Did None x → ⊥) → (m ≡ k) × (o ≡ Unfit)
    all_moves k r o s e n =
        let all = halted_end_moves_are_all t stop k m c (replaced c p r) last (moves_to k r s) (halted_there r o e n) adv stops in
        (all.0, sym e ∙ sym (next_of r) ∙ sym (ap (λ (x : Configuration). silent_of t x p) all.1) ∙ stops)

    pub not_unfit : (e : StretchEnd) (n : ℕ) → EndsAfterStroll room t p c.clock q g e → unfit_steps e n ≡ None → m < room → ⊥
    not_unfit ends.Waits n h none le = let x = all_moves (length g.logs) g.next Idle h.0 h.1 (λ x e. cc) in let wrong = x.1 in cc
    not_unfit ends.Ended n h none le = let x = all_moves (length g.logs) g.next Idle h.0 h.1 (λ x e. cc) in let wrong = x.1 in cc
    not_unfit ends.Unfit n h none le = cc
    not_unfit (ends.Logged u) n h none le =
        let x = all_moves h.0 h.1 (Did (Some u) g.next) h.3 h.4 (λ x e. cc) in
        let wrong = x.1 in
        cc
    not_unfit ends.Spent n h none le =
        let more = end_moves_are_needed t stop room m c (replaced c p g.next) last (moves_to room g.next h.0) adv stops in
        omega (arith, more, le)

  -- it ended before a step that doesn't fit
  unfit_end : (e : StretchEnd) (n k : ℕ) → unfit_steps e n ≡ Some k → (e ≡ ends.Unfit) × (n ≡ k)
  unfit_end ends.Waits n k h = cc
  unfit_end ends.Ended n k h = cc
  unfit_end ends.Unfit n k h = (refl, cc)
  unfit_end (ends.Logged u) n k h = cc
  unfit_end ends.Spent n k h = cc

module _ (t : Task) (at : Rational) (p room : ℕ) (w : Walk) (c : Configuration) (r : IsReached t w room c) where
  abbrev this : Stop
  this = Overflow (Some p)

  pub no_process : length w.members.items ≤ p → Reaches t this at room c None
  no_process past m d adv here stops le = by (slice_get d.processes p) refl where
    by : (o : Option ProcessState) → slice_get d.processes p ≡ o → ⊥
    by None e = let nothing : silent_of t d p ≡ Idle = ap (silent_by t d.clock p) e in cc
    by (Some q) e =
        let low = slice_get_within d.processes p q e in
        let same = same_number t c.clock (asked_at_stop this) 0 m c.processes d.processes adv.stroll in
        omega (arith, low, same, r.at.members.counted, past)

  module _ (new : Walk) (st : Stretch) (low : p < length w.members.items)
      (runs : (q : ProcessState) → slice_get c.processes p ≡ Some q → Runs t.system p new st c (progress room t.seed p c.clock q)) where
    state : (q : ProcessState) × (slice_get c.processes p ≡ Some q)
    state = is_there c.processes p (omega (arith, low, r.at.members.counted))

    ends_so : EndsAfterStroll room t p c.clock state.0 (progress room t.seed p c.clock state.0) st.end
    ends_so =
        let g = progress room t.seed p c.clock state.0 in
        subst (λ (e : StretchEnd). EndsAfterStroll room t p c.clock state.0 g e) (sym (runs state.0 state.1).ended)
        (stretch_is_stroll room t p c.clock state.0)

    pub never_unfit : None ≡ unfit_steps st.end st.steps → Reaches t this at room c None
    never_unfit none m d adv here stops le =
        not_unfit t p room c state.0 state.1 m d adv stops st.end st.steps ends_so (sym none) le

    module _ (k : ℕ) (moved : Some k ≡ unfit_steps st.end st.steps) where
      unfit_there : EndsAfterStroll room t p c.clock state.0 (progress room t.seed p c.clock state.0) ends.Unfit
      unfit_there =
          let g = progress room t.seed p c.clock state.0 in
          subst (λ (e : StretchEnd). EndsAfterStroll room t p c.clock state.0 g e)
          (unfit_end t p room c state.0 state.1 st.end st.steps k (sym moved)).0 ends_so

      count : length (progress room t.seed p c.clock state.0).logs ≡ k
      count = sym (runs state.0 state.1).counted ∙ (unfit_end t p room c state.0 state.1 st.end st.steps k (sym moved)).1

      pub too_late : room ≤ k → Reaches t this at room c None
      too_late past m d adv here stops le =
          let g = progress room t.seed p c.clock state.0 in
          let all = all_moves t p room c state.0 state.1 m d adv stops (length g.logs) g.next Unfit unfit_there.0 unfit_there.1 (λ x e. cc) in
          omega (arith, all.0, count, past, le)

      pub overflows : at ≡ w.clock → k < room → Reaches t this at room c (Some k)
      overflows here few =
          let g = progress room t.seed p c.clock state.0 in
          let adv = moves_to t p room c state.0 state.1 (length g.logs) g.next unfit_there.0 in (
            few,
            (
              replaced c p g.next,
              subst (λ (n : ℕ). Advances (asked_at_stop this) t n c (replaced c p g.next)) count adv,
              here ∙ r.at.clock,
              next_of t p room c state.0 state.1 g.next ∙ unfit_there.1,
            ),
          )
