-- What the rational numbers are: quotients of whole numbers, a field, and a total order that goes with sums and products.
use Rattle.std.specs.Prelude.{◌≡◌, ◌≢◌, ◌⊎◌, ℕ, ◌<◌, ℤ, pos, ◌*ℤ◌}
use Rattle.std.specs.Int.{IsGcd}
use Rattle.hc_rational.specs.Gcd.{gcd}
use Rattle.hc_rational.specs.Rational.{Rational, whole, quotient, ratio, zero_ℚ, one_ℚ, ◌+ℚ◌, ◌-ℚ◌, neg_ℚ, ◌*ℚ◌, ◌/ℚ◌}
use Rattle.hc_rational.specs.Order.{◌≤ℚ◌, ◌<ℚ◌, rank, Ranks, lesser, greater, IsLesser, IsGreater}

-- a quotient is the number that its two parts say, and equal numbers are equal rationals
pub record AreQuotients : Type 0 where
  pub divided : (z : ℤ) (d : ℕ) → 0 < d → (quotient z d).num *ℤ pos d ≡ z *ℤ pos (quotient z d).den
  pub turned : (n d : ℤ) → d ≢ pos 0 → (ratio n d).num *ℤ d ≡ n *ℤ pos (ratio n d).den
  pub same : (q r : Rational) → q.num *ℤ pos r.den ≡ r.num *ℤ pos q.den → q ≡ r
  pub own : (q : Rational) → quotient q.num q.den ≡ q
  pub lowest : (a b : ℕ) → IsGcd a b (gcd a b)

-- the laws of sums, products and quotients
pub record AreField : Type 0 where
  pub add_assoc : (q r s : Rational) → (q +ℚ r) +ℚ s ≡ q +ℚ (r +ℚ s)
  pub add_comm : (q r : Rational) → q +ℚ r ≡ r +ℚ q
  pub add_zero : (q : Rational) → q +ℚ zero_ℚ ≡ q
  pub add_neg : (q : Rational) → q +ℚ neg_ℚ q ≡ zero_ℚ
  pub sub : (q r : Rational) → (q -ℚ r) +ℚ r ≡ q
  pub mul_assoc : (q r s : Rational) → (q *ℚ r) *ℚ s ≡ q *ℚ (r *ℚ s)
  pub mul_comm : (q r : Rational) → q *ℚ r ≡ r *ℚ q
  pub mul_one : (q : Rational) → q *ℚ one_ℚ ≡ q
  pub mul_add : (q r s : Rational) → q *ℚ (r +ℚ s) ≡ q *ℚ r +ℚ q *ℚ s
  pub div_mul : (q r : Rational) → r ≢ zero_ℚ → q /ℚ r *ℚ r ≡ q

-- the laws of the order
pub record AreOrdered : Type 0 where
  pub le_refl : (q : Rational) → q ≤ℚ q
  pub le_trans : (q r s : Rational) → q ≤ℚ r → r ≤ℚ s → q ≤ℚ s
  pub le_antisymm : (q r : Rational) → q ≤ℚ r → r ≤ℚ q → q ≡ r
  pub le_or_lt : (q r : Rational) → (q ≤ℚ r) ⊎ (r <ℚ q)
  pub le_not_lt : (q r : Rational) → q ≤ℚ r → ¬ (r <ℚ q)
  pub lt_le : (q r : Rational) → q <ℚ r → q ≤ℚ r
  pub le_add : (q r s : Rational) → q ≤ℚ r → q +ℚ s ≤ℚ r +ℚ s
  pub lt_mul : (q r s : Rational) → zero_ℚ <ℚ s → q <ℚ r → q *ℚ s <ℚ r *ℚ s
  pub between : (q r : Rational) → q <ℚ r → (s : Rational) × (q <ℚ s) × (s <ℚ r)
  pub above : (q : Rational) → (n : ℕ) × (q <ℚ whole (pos n))

-- what the comparisons answer
pub record AreCompared : Type 0 where
  pub ranks : (q r : Rational) → Ranks q r (rank q r)
  pub lesser : (q r : Rational) → IsLesser q r (lesser q r)
  pub greater : (q r : Rational) → IsGreater q r (greater q r)
