-- A line is followed where the item that it names is; it names one at most.
use Rattle.std.proofs.Common.{◌≡◌, refl, sym, ap, subst, ◌∙◌, ℕ, List, Option, Some, None}
use Rattle.hc_rational.specs.Words.{Rational}
use Rattle.hc_term.specs.declared.system.System.{System}
use Rattle.hc_term.specs.declared.task.Task.{Task}
use Rattle.hc_term.specs.declared.run.Step.{Step}
use Rattle.hc_term.specs.declared.run.Step.TheVariants as step
use Rattle.hc_term.specs.declared.run.Item.{Item}
use Rattle.hc_term.specs.declared.model.Configuration.{Configuration}
use Rattle.hc_trace.specs.declared.traces.TraceLine.{TraceLine}
use Rattle.hc_trace.specs.declared.traces.TraceEvent.{TraceEvent}
use Rattle.hc_trace.specs.declared.traces.TraceEvent.TheVariants as event
use Rattle.hc_verify.specs.declared.walk.Walk.{Walk}
use Rattle.hc_verify.specs.Named.{HasName, IsChannelNamed, IsStepOf, IsThe}
use Rattle.hc_verify.specs.Following.{Followed, FollowedLine}

-- ---- the one step that a line names

module _ (sys : System) where
  pub only_delay : (by : Rational) (s : Step) → IsStepOf sys (event.Delay by) s → s ≡ step.Delay by
  only_delay by (step.Delay d) h = ap step.Delay (sym h)
  only_delay by s h = absurd h

  pub only_comm : (channel : List ℕ) (sender receiver : Option (List ℕ)) (value : Rational) (s : Step) →
      IsStepOf sys (event.Comm channel sender receiver value) s →
      (c : ℕ) × IsChannelNamed sys channel sender receiver c × (s ≡ step.Comm c value)
  only_comm channel sender receiver value (step.Comm c v) h = (c, h.0, ap (step.Comm c) (sym h.1))
  only_comm channel sender receiver value s h = absurd h

  pub only_log : (process : List ℕ) (value : Rational) (s : Step) → IsStepOf sys (event.Log process value) s →
      (p : ℕ) × HasName sys p process × (s ≡ step.Silent p (Some value))
  only_log process value (step.Silent p (Some v)) h = (p, h.0, ap (λ (x : Rational). step.Silent p (Some x)) (sym h.1))
  only_log process value s h = absurd h

pub some_is : (p q : ℕ) → Some p ≡ Some q → p ≡ q
some_is p q e = cc

-- ---- lines

same_item : (at at' : Rational) (s s' : Step) → at ≡ at' → s ≡ s' →
    ◌≡◌ {A = Item} (record { at = at; step = s }) (record { at = at'; step = s' })
same_item at at' s s' h k = cc

module _ (t : Task) (line : TraceLine) (room : ℕ) (c : Configuration) (new : Walk) where
  -- where a step is the only one that the line names, the line is followed as that step is
  by_step : (s : Step) → IsStepOf t.system line.event s → ((u : Step) → IsStepOf t.system line.event u → u ≡ s) → (o : Option ℕ) →
      Followed t (record { at = line.at; step = s }) room c new o → FollowedLine t line room c new o
  by_step s is only (Some k) f = (record { at = line.at; step = s }, record { at = refl; step = is }, f)
  by_step s is only None f = λ i named.
      subst (λ (x : Item). Followed t x room c new None) (same_item line.at i.at s i.step named.at (sym (only i.step named.step))) f

  pub delay_line : (by : Rational) → line.event ≡ event.Delay by → (o : Option ℕ) →
      Followed t (record { at = line.at; step = step.Delay by }) room c new o → FollowedLine t line room c new o
  delay_line by e o f =
      by_step (step.Delay by) (subst (λ (x : TraceEvent). IsStepOf t.system x (step.Delay by)) (sym e) refl)
      (λ u is. only_delay t.system by u (subst (λ (x : TraceEvent). IsStepOf t.system x u) e is)) o f

  module _ (channel : List ℕ) (sender receiver : Option (List ℕ)) (value : Rational)
      (e : line.event ≡ event.Comm channel sender receiver value) where
    pub comm_line : (n : ℕ) → IsThe (IsChannelNamed t.system channel sender receiver) (Some n) → (o : Option ℕ) →
        Followed t (record { at = line.at; step = step.Comm n value }) room c new o → FollowedLine t line room c new o
    comm_line n the o f =
        by_step (step.Comm n value) (subst (λ (x : TraceEvent). IsStepOf t.system x (step.Comm n value)) (sym e) ((the n).0 refl, refl))
        (λ u is. only u (subst (λ (x : TraceEvent). IsStepOf t.system x u) e is)) o f where
          only : (u : Step) → IsStepOf t.system (event.Comm channel sender receiver value) u → u ≡ step.Comm n value
          only u is =
              let one = only_comm t.system channel sender receiver value u is in
              one.2 ∙ ap (λ (x : ℕ). step.Comm x value) (sym (some_is n one.0 ((the one.0).1 one.1)))

  module _ (process : List ℕ) (value : Rational) (e : line.event ≡ event.Log process value) where
    pub log_line : (n : ℕ) → IsThe (λ p. HasName t.system p process) (Some n) → (o : Option ℕ) →
        Followed t (record { at = line.at; step = step.Silent n (Some value) }) room c new o → FollowedLine t line room c new o
    log_line n the o f =
        by_step (step.Silent n (Some value)) (subst (λ (x : TraceEvent). IsStepOf t.system x (step.Silent n (Some value))) (sym e) ((the n).0 refl, refl))
        (λ u is. only u (subst (λ (x : TraceEvent). IsStepOf t.system x u) e is)) o f where
          only : (u : Step) → IsStepOf t.system (event.Log process value) u → u ≡ step.Silent n (Some value)
          only u is =
              let one = only_log t.system process value u is in
              one.2 ∙ ap (λ (x : ℕ). step.Silent x (Some value)) (sym (some_is n one.0 ((the one.0).1 one.1)))
