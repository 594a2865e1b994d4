-- What a turn answers, by what its look at the advance found.
use Rattle.std.proofs.Common.{◌≡◌, refl, sym, ◌∙◌, ℕ, Bool, true, false, nat_le, Option, Some, None}
use Rattle.std.specs.Prelude.{◌↔◌, IsTrue}
use Rattle.std.proofs.lemmas.Bool.{leb-true, leb-false}
use Rattle.std.proofs.lemmas.Option.{none-some}
use Rattle.hc_rational.specs.Words.{Rational}
use Rattle.hc_advance.specs.Lead.{Lead, StartsAt, steps_of}
use Rattle.hc_member.specs.Lending.{Kept, HasSteps}
use Rattle.hc_joint.specs.Judging.{by_room, judged}
use Rattle.hc_joint.specs.Handed.{Judges}

module _ (k : Kept) (clock : Rational) (seed left : ℕ) (a : Lead) where
  none_by_start : (steps : ℕ) → (IsTrue false ↔ StartsAt a k.code k.local clock seed) → HasSteps k clock seed a steps → ⊥
  none_by_start steps is h = let wrong : false ≡ true = is.1 h.starts in cc

  none_by_steps : (steps : ℕ) → None ≡ steps_of a.worked → HasSteps k clock seed a steps → ⊥
  none_by_steps steps e h = none-some steps (e ∙ h.steps_are)

  by_steps_left : (steps : ℕ) (b : Bool) → nat_le steps left ≡ b → HasSteps k clock seed a steps → Judges k clock seed left a (by_room b)
  by_steps_left steps true e h = (steps, h, leb-true steps left e)
  by_steps_left steps false e h = (steps, h, leb-false steps left e)

  pub judges : (starts : Bool) (steps : Option ℕ) → (IsTrue starts ↔ StartsAt a k.code k.local clock seed) → steps ≡ steps_of a.worked →
      Judges k clock seed left a (judged starts steps left)
  judges false steps is e = λ n h. none_by_start n is h
  judges true None is e = λ n h. none_by_steps n e h
  judges true (Some n) is e =
      by_steps_left n (nat_le n left) refl (record { starts = is.0 refl; steps_are = sym e })
