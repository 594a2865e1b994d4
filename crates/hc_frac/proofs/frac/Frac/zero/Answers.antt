use Rattle.std.proofs.Common.{refl, arith}
use Rattle.hc_rational.specs.Gcd.{gcd}
use Rattle.hc_rational.specs.Rational.{quotient, zero_ℚ}
use Rattle.hc_frac.proofs.frac.Frac.zero.Goals as goal

pub invariant_of-result : goal.invariant_of-result
unfolding gcd
invariant_of-result c = record { above = omega arith; lowest = refl; num_fits = omega arith; den_fits = omega arith }

pub returns : goal.returns
unfolding zero_ℚ quotient gcd
returns c = refl
