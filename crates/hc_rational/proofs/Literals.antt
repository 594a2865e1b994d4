-- The words compute on literals.
use Rattle.std.specs.Prelude.{◌≡◌, pos, negsuc, true, false}
use Rattle.std.proofs.Common.{refl}
use Rattle.std.specs.declared.cmp.Ordering.TheVariants.{Less}
use Rattle.hc_rational.specs.Gcd.{gcd}
use Rattle.hc_rational.specs.Rational.{whole, quotient, ratio, zero_ℚ, one_ℚ, ◌+ℚ◌, ◌-ℚ◌, ◌*ℚ◌, ◌/ℚ◌}
use Rattle.hc_rational.specs.Order.{rank, lesser}
use Rattle.hc_rational.specs.Fits.{fits}

half-less-third : quotient (pos 1) 2 +ℚ quotient (negsuc 0) 3 ≡ quotient (pos 5) 30
unfolding ◌+ℚ◌ quotient gcd
half-less-third = refl

signs : ratio (pos 3) (negsuc 5) ≡ quotient (negsuc 0) 2
unfolding ratio gcd
signs = refl

differences : quotient (pos 1) 2 -ℚ quotient (pos 1) 3 *ℚ zero_ℚ ≡ one_ℚ /ℚ whole (pos 2)
unfolding ◌-ℚ◌ ◌*ℚ◌ ◌/ℚ◌ zero_ℚ one_ℚ gcd
differences = refl

ranked : rank (quotient (pos 1) 2) (quotient (pos 2) 3) ≡ Less
unfolding rank quotient gcd
ranked = refl

least : lesser (quotient (pos 1) 2) (quotient (pos 2) 3) ≡ quotient (pos 1) 2
unfolding rank quotient gcd
least = refl

widest : fits (quotient (pos 9223372036854775807) 9223372036854775806) ≡ true
unfolding quotient gcd
widest = refl

too_wide : fits (quotient (negsuc 9223372036854775807) 1) ≡ false
unfolding quotient gcd
too_wide = refl
