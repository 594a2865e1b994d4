-- A joint with an empty history and no stop has done nothing yet.
use Rattle.std.proofs.Common.{◌≡◌, ℕ, List, [], length, Option, None, ap, subst, ◌∙◌, arith}
use Rattle.hc_rational.specs.Words.{Rational, zero_ℚ}
use Rattle.hc_term.specs.declared.run.Item.{Item}
use Rattle.hc_term.specs.declared.run.Stop.{Stop}
use Rattle.hc_term.specs.declared.model.Configuration.{Configuration}
use Rattle.hc_term.specs.Step.{opening, Leads}
use Rattle.hc_runs.proofs.Visible.{turns_are_few}
use Rattle.hc_joint.specs.Seen.{Seen}
use Rattle.hc_joint.specs.Keeps.{Keeps, opened, seen}

module _ (s : Seen) (k : Keeps s) (empty : s.history ≡ []) (going : s.stop ≡ None) where
  no_turns : s.turns ≡ 0
  no_turns =
      let few = (turns_are_few s.task s.turns s.history k.reached s.stop k.turned).going going in
      let none = ap (λ (items : List Item). length items) empty in
      omega (arith, few, none)

  none_recomputed : s.recomputed ≡ 0
  none_recomputed = let less = k.compared in omega (arith, less, no_turns)

  at_opening : k.reached ≡ opening s.task
  at_opening = subst (λ (items : List Item). Leads s.task (opening s.task) items k.reached) empty k.is_reached.leads

  at_zero : s.clock ≡ zero_ℚ
  at_zero = k.is_reached.clock ∙ ap (λ (c : Configuration). c.clock) at_opening

  pub untouched : s ≡ opened s.task
  untouched =
      ap (λ (clock : Rational). seen s.task clock s.history s.stop s.turns s.recomputed) at_zero
      ∙ (ap (λ (items : List Item). seen s.task zero_ℚ items s.stop s.turns s.recomputed) empty
      ∙ (ap (λ (stop : Option Stop). seen s.task zero_ℚ [] stop s.turns s.recomputed) going
      ∙ (ap (λ (n : ℕ). seen s.task zero_ℚ [] None n s.recomputed) no_turns ∙ ap (λ (n : ℕ). seen s.task zero_ℚ [] None 0 n) none_recomputed)))
