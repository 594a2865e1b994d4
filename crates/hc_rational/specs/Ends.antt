-- The moment up to which a fact holds.
use Rattle.hc_rational.specs.Rational.{Rational, zero_ℚ}
use Rattle.hc_rational.specs.Order.{◌≤ℚ◌, ◌<ℚ◌}

-- B holds from 0 up to the moment d, and not right after it: d is the greatest lower bound of the moments from 0 on at which B fails
pub record Ends (B : Rational → Type 0) (d : Rational) : Type 0 where
  pub not_past : zero_ℚ ≤ℚ d
  pub before : (t : Rational) → zero_ℚ ≤ℚ t → t <ℚ d → B t
  pub after : (e : Rational) → d <ℚ e → (t : Rational) × (d ≤ℚ t) × (t <ℚ e) × ¬ (B t)
