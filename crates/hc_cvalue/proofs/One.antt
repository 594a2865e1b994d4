-- The fraction 1, written as numbers.
use Rattle.std.specs.Prelude.{◌≡◌, ℕ, [], ◌∷◌}
use Rattle.std.proofs.Common.{refl}
use Rattle.hc_rational.specs.Rational.{one_ℚ}
use Rattle.hc_cast.specs.declared.primitive.Primitive.TheVariants.{FrSet}
use Rattle.hc_cbuild.specs.Written.{numbers, prim, set_register}

pub sets_one : (p d : ℕ) → prim FrSet (numbers (p ∷ d ∷ 1 ∷ 1 ∷ [])) ≡ set_register p d one_ℚ
unfolding one_ℚ
sets_one p d = refl
