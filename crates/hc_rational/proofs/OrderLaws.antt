-- The laws of the order of rationals.
use Rattle.std.specs.Prelude.{◌≡◌, ◌⊎◌, ◌↔◌, ℕ, suc, ◌+◌, ◌-◌, ◌*◌, ◌<◌, ◌≤◌, pos}
use borrow.Author.Differences.{up, down}
use Rattle.std.proofs.Common.{ap, subst, inl, inr, arith}
use Rattle.std.proofs.lemmas.Bool.{cases_lt}
use Rattle.std.proofs.Math.Nat.{mul-pos, mul-le-mul_left, mul-le-mul_right, mul-lt-mul_of_pos_right, le_of_mul-le-mul_right, lt_of_mul-lt-mul_right}
use Rattle.hc_rational.specs.Rational.{Rational, whole, zero_ℚ, one_ℚ, ◌+ℚ◌, ◌-ℚ◌, neg_ℚ, ◌*ℚ◌}
use Rattle.hc_rational.specs.Order.{◌≤ℚ◌, ◌<ℚ◌}
use Rattle.hc_rational.specs.Code.{den-pos}
use Rattle.hc_rational.proofs.Quotients.{IsQuotient, own, rewritten, same_quotients, some_quotient, whole-is, zero-is, one-is, add-is, mul-is, neg-is, sub-is, le-from, le-to, lt-from, lt-to}

pub ≤ℚ_refl : (q : Rational) → q ≤ℚ q
≤ℚ_refl q = le-from (own q) (own q) (omega arith)

pub ≤ℚ_antisymm : (q r : Rational) → q ≤ℚ r → r ≤ℚ q → q ≡ r
≤ℚ_antisymm q r h k = same_quotients (own q) (own r) (omega (arith, le-to (own q) (own r) h, le-to (own r) (own q) k))

pub ≤ℚ-from_<ℚ : (q r : Rational) → q <ℚ r → q ≤ℚ r
≤ℚ-from_<ℚ q r h = le-from (own q) (own r) (omega (arith, lt-to (own q) (own r) h))

pub ≤ℚ-from_≡ : (q r : Rational) → q ≡ r → q ≤ℚ r
≤ℚ-from_≡ q r e = subst (λ s. q ≤ℚ s) e (≤ℚ_refl q)

pub <ℚ_irrefl : (q : Rational) → ¬ (q <ℚ q)
<ℚ_irrefl q h = omega (arith, lt-to (own q) (own q) h)

pub ≤ℚ-not_<ℚ : (q r : Rational) → q ≤ℚ r → ¬ (r <ℚ q)
≤ℚ-not_<ℚ q r h k = omega (arith, le-to (own q) (own r) h, lt-to (own r) (own q) k)

pub ≤ℚ-or-<ℚ : (q r : Rational) → (q ≤ℚ r) ⊎ (r <ℚ q)
≤ℚ-or-<ℚ q r = elim (cases_lt (up r.num * q.den + down q.num * r.den) (up q.num * r.den + down r.num * q.den)) [
  | inl less ↦ inr (lt-from (own r) (own q) less)
  | inr some ↦ inl (le-from (own q) (own r) some)
]

-- ---- chains

le_chained : (u w c u' w' c' u'' w'' c'' : ℕ) → 0 < c' → u * c' + w' * c ≤ u' * c + w * c' →
    u' * c'' + w'' * c' ≤ u'' * c' + w' * c'' → u * c'' + w'' * c ≤ u'' * c + w * c''
le_chained u w c u' w' c' u'' w'' c'' some h k =
    let first = mul-le-mul_right c'' h in
    let second = mul-le-mul_right c k in
    let both : (u * c'' + w'' * c) * c' ≤ (u'' * c + w * c'') * c' = omega (arith, first, second) in
    le_of_mul-le-mul_right both some

lt_le_chained : (u w c u' w' c' u'' w'' c'' : ℕ) → 0 < c'' → u * c' + w' * c < u' * c + w * c' →
    u' * c'' + w'' * c' ≤ u'' * c' + w' * c'' → u * c'' + w'' * c < u'' * c + w * c''
lt_le_chained u w c u' w' c' u'' w'' c'' some h k =
    let first = mul-lt-mul_of_pos_right h some in
    let second = mul-le-mul_right c k in
    let both : (u * c'' + w'' * c) * c' < (u'' * c + w * c'') * c' = omega (arith, first, second) in
    lt_of_mul-lt-mul_right c' both

le_lt_chained : (u w c u' w' c' u'' w'' c'' : ℕ) → 0 < c → u * c' + w' * c ≤ u' * c + w * c' →
    u' * c'' + w'' * c' < u'' * c' + w' * c'' → u * c'' + w'' * c < u'' * c + w * c''
le_lt_chained u w c u' w' c' u'' w'' c'' some h k =
    let first = mul-le-mul_right c'' h in
    let second = mul-lt-mul_of_pos_right k some in
    let both : (u * c'' + w'' * c) * c' < (u'' * c + w * c'') * c' = omega (arith, first, second) in
    lt_of_mul-lt-mul_right c' both

pub ≤ℚ_trans : (q r s : Rational) → q ≤ℚ r → r ≤ℚ s → q ≤ℚ s
≤ℚ_trans q r s h k =
    le-from (own q) (own s)
    (le_chained (up q.num) (down q.num) q.den (up r.num) (down r.num) r.den (up s.num) (down s.num) s.den (den-pos r) (le-to (own q) (own r) h) (le-to (own r) (own s) k))

pub <ℚ-≤ℚ_trans : (q r s : Rational) → q <ℚ r → r ≤ℚ s → q <ℚ s
<ℚ-≤ℚ_trans q r s h k =
    lt-from (own q) (own s)
    (lt_le_chained (up q.num) (down q.num) q.den (up r.num) (down r.num) r.den (up s.num) (down s.num) s.den (den-pos s) (lt-to (own q) (own r) h) (le-to (own r) (own s) k))

pub ≤ℚ-<ℚ_trans : (q r s : Rational) → q ≤ℚ r → r <ℚ s → q <ℚ s
≤ℚ-<ℚ_trans q r s h k =
    lt-from (own q) (own s)
    (le_lt_chained (up q.num) (down q.num) q.den (up r.num) (down r.num) r.den (up s.num) (down s.num) s.den (den-pos q) (le-to (own q) (own r) h) (lt-to (own r) (own s) k))

pub <ℚ_trans : (q r s : Rational) → q <ℚ r → r <ℚ s → q <ℚ s
<ℚ_trans q r s h k = <ℚ-≤ℚ_trans q r s h (≤ℚ-from_<ℚ r s k)

-- ---- sums and differences

pub +ℚ-≤ℚ : (q r s : Rational) → q ≤ℚ r → q +ℚ s ≤ℚ r +ℚ s
+ℚ-≤ℚ q r s h =
    let wide = mul-le-mul_right (s.den * s.den) (le-to (own q) (own r) h) in
    le-from (add-is (own q) (own s)) (add-is (own r) (own s)) (omega (arith, wide))

pub +ℚ-<ℚ : (q r s : Rational) → q <ℚ r → q +ℚ s <ℚ r +ℚ s
+ℚ-<ℚ q r s h =
    let wide = mul-lt-mul_of_pos_right (lt-to (own q) (own r) h) (mul-pos (den-pos s) (den-pos s)) in
    lt-from (add-is (own q) (own s)) (add-is (own r) (own s)) (omega (arith, wide))

pub neg-≤ℚ : (q r : Rational) → q ≤ℚ r → neg_ℚ r ≤ℚ neg_ℚ q
neg-≤ℚ q r h = le-from (neg-is (own r)) (neg-is (own q)) (omega (arith, le-to (own q) (own r) h))

pub neg-<ℚ : (q r : Rational) → q <ℚ r → neg_ℚ r <ℚ neg_ℚ q
neg-<ℚ q r h = lt-from (neg-is (own r)) (neg-is (own q)) (omega (arith, lt-to (own q) (own r) h))

-- a difference is at least 0 where the first is at least the second
pub ≤ℚ--ℚ : (q r : Rational) → (zero_ℚ ≤ℚ r -ℚ q) ↔ (q ≤ℚ r)
≤ℚ--ℚ q r = (
  λ h. le-from (own q) (own r) (omega (arith, le-to zero-is (sub-is (own r) (own q)) h)),
  λ h. le-from zero-is (sub-is (own r) (own q)) (omega (arith, le-to (own q) (own r) h)),
)

pub <ℚ--ℚ : (q r : Rational) → (zero_ℚ <ℚ r -ℚ q) ↔ (q <ℚ r)
<ℚ--ℚ q r = (
  λ h. lt-from (own q) (own r) (omega (arith, lt-to zero-is (sub-is (own r) (own q)) h)),
  λ h. lt-from zero-is (sub-is (own r) (own q)) (omega (arith, lt-to (own q) (own r) h)),
)

-- ---- products

-- a rational that isn't negative has a natural numerator
pub natural_numerator : (q : Rational) → zero_ℚ ≤ℚ q → IsQuotient q (up q.num - down q.num) 0 q.den
natural_numerator q h =
    let low = le-to zero-is (own q) h in
    let split : up q.num - down q.num + down q.num ≡ up q.num = omega (arith, low) in
    rewritten (own q) (den-pos q) (omega (arith, ap (λ x. x * q.den) split))

pub *ℚ-≤ℚ : (q r s : Rational) → zero_ℚ ≤ℚ s → q ≤ℚ r → q *ℚ s ≤ℚ r *ℚ s
*ℚ-≤ℚ q r s some h =
    let factor = natural_numerator s some in
    let wide = mul-le-mul_right ((up s.num - down s.num) * s.den) (le-to (own q) (own r) h) in
    le-from (mul-is (own q) factor) (mul-is (own r) factor) (omega (arith, wide))

pub *ℚ-<ℚ : (q r s : Rational) → zero_ℚ <ℚ s → q <ℚ r → q *ℚ s <ℚ r *ℚ s
*ℚ-<ℚ q r s some h =
    let factor = natural_numerator s (≤ℚ-from_<ℚ zero_ℚ s some) in
    let above : 0 < up s.num - down s.num = omega (arith, lt-to zero-is (own s) some) in
    let wide = mul-lt-mul_of_pos_right (lt-to (own q) (own r) h) (mul-pos above (den-pos s)) in
    lt-from (mul-is (own q) factor) (mul-is (own r) factor) (omega (arith, wide))

-- ---- there is always another

halved : (u w c u' w' c' : ℕ) → 0 < c → u * c' + w' * c < u' * c + w * c' →
    u * (c * c' * 2) + (w * c' + w' * c) * c < (u * c' + u' * c) * c + w * (c * c' * 2)
halved u w c u' w' c' some h = let wide = mul-lt-mul_of_pos_right h some in omega (arith, wide)

halved_again : (u w c u' w' c' : ℕ) → 0 < c' → u * c' + w' * c < u' * c + w * c' →
    (u * c' + u' * c) * c' + w' * (c * c' * 2) < u' * (c * c' * 2) + (w * c' + w' * c) * c'
halved_again u w c u' w' c' some h = let wide = mul-lt-mul_of_pos_right h some in omega (arith, wide)

pub between : (q r : Rational) → q <ℚ r → (s : Rational) × (q <ℚ s) × (s <ℚ r)
between q r h =
    let cross = lt-to (own q) (own r) h in
    let dens : 0 < q.den * r.den * 2 = omega (arith, mul-pos (den-pos q) (den-pos r)) in
    let middle = some_quotient (up q.num * r.den + up r.num * q.den) (down q.num * r.den + down r.num * q.den) (q.den * r.den * 2) dens in (
      middle.0,
      lt-from (own q) middle.1 (halved (up q.num) (down q.num) q.den (up r.num) (down r.num) r.den (den-pos q) cross),
      lt-from middle.1 (own r) (halved_again (up q.num) (down q.num) q.den (up r.num) (down r.num) r.den (den-pos r) cross),
    )

pub whole_above : (q : Rational) → (n : ℕ) × (q <ℚ whole (pos n))
whole_above q =
    let wide = mul-le-mul_left (suc (up q.num)) (den-pos q) in
    (suc (up q.num), lt-from (own q) (whole-is (pos (suc (up q.num)))) (omega (arith, wide)))

pub zero-<ℚ-one : zero_ℚ <ℚ one_ℚ
zero-<ℚ-one = lt-from zero-is one-is (omega arith)
