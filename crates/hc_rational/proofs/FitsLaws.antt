-- Rationals that fit.
use Rattle.std.specs.Prelude.{ℕ, ◌<◌, ◌^◌, ℤ, neg_ℤ, unsigned_abs, nat_lt, ◌&&◌}
use borrow.Author.Tests.{lt-ltb, ltb-true}
use Rattle.std.proofs.Common.{refl, ap, ap₂, ◌∙◌, arith}
use Rattle.std.proofs.lemmas.Bool.{and_parts}
use Rattle.std.proofs.lemmas.Int.{ints}
use Rattle.std.proofs.Math.Nat.{div-le_self}
use Rattle.hc_rational.specs.Gcd.{gcd}
use Rattle.hc_rational.specs.LowestTerms.{abs-div}
use Rattle.hc_rational.specs.Rational.{Rational, quotient, zero_ℚ, neg_ℚ}
use Rattle.hc_rational.specs.Fits.{IsFrac}
use Rattle.hc_rational.specs.Code.{den-pos, num-quotient_is, den-quotient_is}

pub fits_from_parts : (q : Rational) → unsigned_abs q.num < 2 ^ 63 → q.den < 2 ^ 63 → IsFrac q
fits_from_parts q n d = ap₂ ◌&&◌ (lt-ltb _ _ n) (lt-ltb _ _ d)

pub num_fits : (q : Rational) → IsFrac q → unsigned_abs q.num < 2 ^ 63
num_fits q h = ltb-true _ _ (and_parts _ (nat_lt q.den (2 ^ 63)) h).0

pub den_fits : (q : Rational) → IsFrac q → q.den < 2 ^ 63
den_fits q h = ltb-true _ _ (and_parts (nat_lt (unsigned_abs q.num) (2 ^ 63)) _ h).1

-- a quotient of numbers that fit fits
pub quotient_fits : (z : ℤ) (d : ℕ) → 0 < d → unsigned_abs z < 2 ^ 63 → d < 2 ^ 63 → IsFrac (quotient z d)
quotient_fits z d p top bottom =
    let num = ap unsigned_abs (num-quotient_is z d p) ∙ abs-div z (gcd (unsigned_abs z) d) in
    fits_from_parts (quotient z d)
    (omega (arith, num, div-le_self (unsigned_abs z) (gcd (unsigned_abs z) d)))
    (omega (arith, den-quotient_is z d p, div-le_self d (gcd (unsigned_abs z) d)))

pub zero_fits : IsFrac zero_ℚ
unfolding zero_ℚ
zero_fits = refl

pub neg_fits : (q : Rational) → IsFrac q → IsFrac (neg_ℚ q)
unfolding neg_ℚ
neg_fits q h = quotient_fits (neg_ℤ q.num) q.den (den-pos q) (omega (arith, ints, num_fits q h)) (den_fits q h)
