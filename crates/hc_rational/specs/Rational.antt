-- Rational numbers of any size, in lowest terms, so that two are equal exactly where they are the same number.
use Rattle.std.specs.Prelude.{◌≡◌, ℕ, zero, suc, ◌*◌, ◌/◌, T, ◌==◌, nat_lt, ℤ, pos, ◌+ℤ◌, ◌*ℤ◌, neg_ℤ, unsigned_abs, int_div}
use Rattle.std.specs.Int.{int_signum}
use Rattle.std.proofs.Common.{refl}
use Rattle.hc_rational.specs.Gcd.{gcd}
use Rattle.hc_rational.specs.LowestTerms.{pass_lt, pass_eq, quotient-pos, quotient-lowest, whole-lowest, some-suc}

infixl 6 ◌+ℚ◌ ◌-ℚ◌
infixl 7 ◌*ℚ◌ ◌/ℚ◌
-- the number num / den
pub record Rational : Type 0 where
  pub num : ℤ
  pub den : ℕ
  pub positive : T (nat_lt 0 den)
  pub lowest : T (gcd (unsigned_abs num) den == 1)

-- a whole number
unfoldable pub whole : ℤ → Rational
whole z = record {
  num = z;
  den = 1;
  positive = tt;
  lowest = pass_eq _ _ (whole-lowest z);
}

-- z / d, and 0 where d is 0
unfoldable pub quotient : ℤ → ℕ → Rational
unfolding whole
quotient z zero = whole (pos 0)
quotient z (suc k) = record {
  num = int_div z (pos (gcd (unsigned_abs z) (suc k)));
  den = suc k / gcd (unsigned_abs z) (suc k);
  positive = pass_lt _ _ (quotient-pos (unsigned_abs z) (suc k) (some-suc k));
  lowest = pass_eq _ _ (quotient-lowest z (suc k) (some-suc k));
}

-- n / d with the sign of both, and 0 where d is 0
unfoldable pub ratio : ℤ → ℤ → Rational
unfolding quotient
ratio n d = quotient (n *ℤ int_signum d) (unsigned_abs d)

-- the number 0
unfoldable pub zero_ℚ : Rational
unfolding whole
zero_ℚ = whole (pos 0)

-- the number 1
unfoldable pub one_ℚ : Rational
unfolding whole
one_ℚ = whole (pos 1)

-- the sum
unfoldable pub ◌+ℚ◌ : Rational → Rational → Rational
unfolding quotient
q +ℚ r = quotient (q.num *ℤ pos r.den +ℤ r.num *ℤ pos q.den) (q.den * r.den)

-- the number with the other sign
unfoldable pub neg_ℚ : Rational → Rational
unfolding quotient
neg_ℚ q = quotient (neg_ℤ q.num) q.den

-- the difference
unfoldable pub ◌-ℚ◌ : Rational → Rational → Rational
unfolding ◌+ℚ◌ neg_ℚ
q -ℚ r = q +ℚ neg_ℚ r

pub difference-is : (q r : Rational) → q -ℚ r ≡ q +ℚ neg_ℚ r
unfolding ◌-ℚ◌
difference-is q r = refl

-- the product
unfoldable pub ◌*ℚ◌ : Rational → Rational → Rational
unfolding quotient
q *ℚ r = quotient (q.num *ℤ r.num) (q.den * r.den)

-- q / r, and 0 where r is 0
unfoldable pub ◌/ℚ◌ : Rational → Rational → Rational
unfolding quotient
q /ℚ r = quotient (q.num *ℤ int_signum r.num *ℤ pos r.den) (q.den * unsigned_abs r.num)
