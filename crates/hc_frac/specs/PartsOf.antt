-- The two parts of a rational that fits.
use Rattle.std.specs.Prelude.{◌≡◌, ℤ, pos}
use Rattle.hc_rational.specs.Words.{Rational, IsFrac}

-- the rational q fits, and these are its numerator and its denominator
pub record ArePartsOf (q : Rational) (parts : ℤ × ℤ) : Type 0 where
  pub num : parts.0 ≡ q.num
  pub den : parts.1 ≡ pos q.den
  pub fits : IsFrac q
