-- The horizon of 100 time units.
use Rattle.std.proofs.Common.{◌≡◌, refl}
use Rattle.std.specs.Prelude.{pos, IsTrue}
use Rattle.hc_rational.specs.Gcd.{gcd}
use Rattle.hc_rational.specs.Rational.{whole, quotient, ratio}
use Rattle.hc_rational.specs.Words.{IsFrac, is_positive}

pub hundred : ratio (pos 100) (pos 1) ≡ whole (pos 100)
unfolding ratio quotient whole gcd
hundred = refl

pub hundred_fits : IsFrac (ratio (pos 100) (pos 1))
unfolding ratio quotient whole gcd
hundred_fits = refl

pub hundred_positive : IsTrue (is_positive (whole (pos 100)))
unfolding whole
hundred_positive = refl
