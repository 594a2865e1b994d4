-- A stretch of silent steps of one process is a piece of a run.
use Rattle.std.proofs.Common.{◌≡◌, refl, ap, ◌∙◌, subst, ℕ, zero, suc, ◌≤◌, Bool, true, false, if◌then◌else◌, length, slice_get, set-set, Option, Some, None, arith}
use Rattle.hc_rational.specs.Words.{Rational}
use Rattle.hc_term.specs.declared.task.Task.{Task}
use Rattle.hc_term.specs.declared.run.Step.TheVariants.{Silent}
use Rattle.hc_term.specs.declared.run.StretchEnd.{StretchEnd}
use Rattle.hc_term.specs.declared.run.StretchEnd.TheVariants as ends
use Rattle.hc_term.specs.declared.model.ProcessState.{ProcessState}
use Rattle.hc_term.specs.declared.model.Configuration.{Configuration}
use Rattle.hc_term.specs.Process.{is_done}
use Rattle.hc_term.specs.Silent.{Outcome, Idle, Unfit, Did, silent}
use Rattle.hc_term.specs.Step.{silent_by, silent_of, replaced, StepTo, Leads}
use Rattle.hc_term.specs.Event.{Progress, progress, progress_by, spent_by, stopped, idle_end, with_silent, silent_items}
use Rattle.hc_term.proofs.Places.{get-set_same, set_back}

-- from c process p takes these steps, n at most, and ends as it says
pub record Stretches (t : Task) (c : Configuration) (p n : ℕ) (g : Progress) : Type 0 where
  pub leads : Leads t c (silent_items c.clock p g.logs) (replaced c p g.next)
  pub within : length g.logs ≤ n
  pub unfit : g.end ≡ ends.Unfit → silent_of t (replaced c p g.next) p ≡ Unfit

pub idle_end-unfit : (q : ProcessState) → idle_end q ≡ ends.Unfit → ⊥
idle_end-unfit q e = by_test (is_done q.todo) e where
  by_test : (b : Bool) → (if b then ends.Ended else ends.Waits) ≡ ends.Unfit → ⊥
  by_test true e = cc
  by_test false e = cc

module _ (t : Task) (p : ℕ) where
  pub replaced_back : (c : Configuration) (q : ProcessState) → slice_get c.processes p ≡ Some q → replaced c p q ≡ c
  replaced_back c q at = ap (λ ps. record { clock = c.clock; processes = ps }) (set_back c.processes p q at)

  pub replaced_twice : (c : Configuration) (q r : ProcessState) → replaced (replaced c p q) p r ≡ replaced c p r
  replaced_twice c q r = ap (λ ps. record { clock = c.clock; processes = ps }) (set-set c.processes p q r)

  module _ (c : Configuration) (q : ProcessState) (at : slice_get c.processes p ≡ Some q) where
    did-steps : (logged : Option Rational) (next : ProcessState) → silent t.seed p c.clock q ≡ Did logged next →
        StepTo t c (Silent p logged) (replaced c p next)
    did-steps logged next e = (next, ap (silent_by t c.clock p) at ∙ e, refl)

    stopped-stretches : (n : ℕ) (end : StretchEnd) → (end ≡ ends.Unfit → silent t.seed p c.clock q ≡ Unfit) →
        Stretches t c p n (stopped q end)
    stopped-stretches n end h = record {
      leads = replaced_back c q at;
      within = omega arith;
      unfit = λ e. ap (silent_by t c.clock p) (get-set_same c.processes p q q at) ∙ h e;
    }

    idle-stretches : (n : ℕ) → Stretches t c p n (stopped q (idle_end q))
    idle-stretches n = stopped-stretches n (idle_end q) (λ e. absurd (idle_end-unfit q e))

    spent_by-stretches : (o : Outcome) → silent t.seed p c.clock q ≡ o → Stretches t c p zero (spent_by q o)
    spent_by-stretches Idle e = idle-stretches zero
    spent_by-stretches Unfit e = stopped-stretches zero ends.Unfit (λ f. e)
    spent_by-stretches (Did logged next) e = stopped-stretches zero ends.Spent (λ f. cc)

    -- a step without a log before a stretch
    with_silent-stretches : (n : ℕ) (next : ProcessState) (g : Progress) →
        silent t.seed p c.clock q ≡ Did None next → Stretches t (replaced c p next) p n g →
        Stretches t c p (suc n) (with_silent g)
    with_silent-stretches n next g e h =
        let mid = replaced c p next in
        let twice = replaced_twice c next g.next in
        let rest = subst (Leads t mid (silent_items c.clock p g.logs)) twice h.leads in
        record {
          leads = (refl, (mid, did-steps None next e, rest));
          within = omega (arith, h.within);
          unfit = λ f. subst (λ (k : Configuration). silent_of t k p ≡ Unfit) twice (h.unfit f);
        }

  -- what is to be shown of a stretch of at most n steps, from each configuration
  abbrev AllStretch : ℕ → Type 0
  AllStretch n =
      (c : Configuration) (q : ProcessState) → slice_get c.processes p ≡ Some q →
      Stretches t c p n (progress n t.seed p c.clock q)

  progress_by-stretches : (n : ℕ) → AllStretch n →
      (c : Configuration) (q : ProcessState) (at : slice_get c.processes p ≡ Some q) (o : Outcome) →
      silent t.seed p c.clock q ≡ o → Stretches t c p (suc n) (progress_by q (progress n t.seed p c.clock) o)
  progress_by-stretches n ih c q at Idle e = idle-stretches c q at (suc n)
  progress_by-stretches n ih c q at Unfit e = stopped-stretches c q at (suc n) ends.Unfit (λ f. e)
  progress_by-stretches n ih c q at (Did (Some v) next) e = record {
    leads = (refl, (replaced c p next, did-steps c q at (Some v) next e, refl));
    within = omega arith;
    unfit = λ f. cc;
  }
  progress_by-stretches n ih c q at (Did None next) e =
      with_silent-stretches c q at n next (progress n t.seed p c.clock next) e
      (ih (replaced c p next) next (get-set_same c.processes p q next at))

  pub progress-stretches : (n : ℕ) → AllStretch n
  progress-stretches zero c q at = spent_by-stretches c q at (silent t.seed p c.clock q) refl
  progress-stretches (suc n) c q at =
      progress_by-stretches n (progress-stretches n) c q at (silent t.seed p c.clock q) refl
