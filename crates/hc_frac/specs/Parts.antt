-- The two numbers in which a fraction is kept.
use Rattle.std.specs.Prelude.{◌≡◌, ◌<◌, ◌^◌, unsigned_abs}
use Rattle.std.proofs.Common.{ap₂}
use Rattle.hc_rational.specs.Words.{Rational, quotient, gcd}
use Rattle.hc_rational.specs.Code.{num-quotient, den-quotient}
use Rattle.hc_frac.specs.declared.frac.Frac.TheInside.{Inside}

-- the fraction that they stand for
abbrev pub shown : Inside → Rational
shown f = quotient f.num f.den

-- they are in lowest terms, and the fraction fits
pub record AreLowest (f : Inside) : Type 0 where
  pub above : 0 < f.den
  pub lowest : gcd (unsigned_abs f.num) f.den ≡ 1
  pub num_fits : unsigned_abs f.num < 2 ^ 63
  pub den_fits : f.den < 2 ^ 63

-- the fraction gives them back
pub parts_again : (f : Inside) → AreLowest f → record { num = (shown f).num; den = (shown f).den } ≡ f
parts_again f h =
    ap₂ (λ n d. record { num = n; den = d }) (num-quotient f.num f.den h.above h.lowest) (den-quotient f.num f.den h.above h.lowest)
