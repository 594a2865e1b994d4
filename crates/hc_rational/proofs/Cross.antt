-- Products over natural numbers that the laws of rationals come down to. A fraction stands as (u - w) / d.
use Rattle.std.specs.Prelude.{◌≡◌, ℕ, ◌+◌, ◌*◌, ◌<◌, ◌≤◌}
use Rattle.std.proofs.Common.{ap, arith}
use Rattle.std.proofs.Math.Nat.{eq_of_mul-eq-mul_right, mul-le-mul_right, mul-lt-mul_of_pos_right, le_of_mul-le-mul_right, lt_of_mul-lt-mul_right}

-- (u - w) / c is (p - m) / d, and (p - m) / d is (p' - m') / d'
pub chained : (u w c p m d p' m' d' : ℕ) → 0 < d → u * d + m * c ≡ p * c + w * d →
    p * d' + m' * d ≡ p' * d + m * d' → u * d' + m' * c ≡ p' * c + w * d'
chained u w c p m d p' m' d' some e f =
    eq_of_mul-eq-mul_right d some _ _ (omega (arith, ap (λ x. x * d') e, ap (λ x. x * c) f))

pub sums : (u w c p m d u' w' c' p' m' d' s t : ℕ) → u * d + m * c ≡ p * c + w * d →
    u' * d' + m' * c' ≡ p' * c' + w' * d' → s + (w * c' + w' * c) ≡ t + (u * c' + u' * c) →
    s * (d * d') + (m * d' + m' * d) * (c * c') ≡ (p * d' + p' * d) * (c * c') + t * (d * d')
sums u w c p m d u' w' c' p' m' d' s t e f g =
    omega (arith, ap (λ x. x * (c' * d')) e, ap (λ x. x * (c * d)) f, ap (λ x. x * (d * d')) g)

pub products : (u w c p m d u' w' c' p' m' d' : ℕ) → u * d + m * c ≡ p * c + w * d →
    u' * d' + m' * c' ≡ p' * c' + w' * d' →
    (u * u' + w * w') * (d * d') + (p * m' + m * p') * (c * c') ≡ (p * p' + m * m') * (c * c') + (u * w' + w * u') * (d * d')
products u w c p m d u' w' c' p' m' d' e f =
    omega (arith, ap (λ x. x * (u' * d')) e, ap (λ x. x * (w' * d')) e, ap (λ x. x * (p * c)) f, ap (λ x. x * (m * c)) f)

-- (u - w) / c and (u' - w') / c' lie to one another as (p - m) / d and (p' - m') / d' do
pub same_le : (u w c p m d u' w' c' p' m' d' : ℕ) → 0 < d → 0 < d' → u * d + m * c ≡ p * c + w * d →
    u' * d' + m' * c' ≡ p' * c' + w' * d' → p * d' + m' * d ≤ p' * d + m * d' →
    u * c' + w' * c ≤ u' * c + w * c'
same_le u w c p m d u' w' c' p' m' d' some some' e f h =
    let less = mul-le-mul_right (c * c') h in
    let wide : (u * c' + w' * c) * d * d' ≤ (u' * c + w * c') * d * d' = omega (arith, ap (λ x. x * (c' * d')) e, ap (λ x. x * (c * d)) f, less) in
    le_of_mul-le-mul_right (le_of_mul-le-mul_right wide some') some

pub same_lt : (u w c p m d u' w' c' p' m' d' : ℕ) → 0 < c → 0 < c' → u * d + m * c ≡ p * c + w * d →
    u' * d' + m' * c' ≡ p' * c' + w' * d' → p * d' + m' * d < p' * d + m * d' →
    u * c' + w' * c < u' * c + w * c'
same_lt u w c p m d u' w' c' p' m' d' some some' e f h =
    let less = mul-lt-mul_of_pos_right (mul-lt-mul_of_pos_right h some) some' in
    let wide : (u * c' + w' * c) * d * d' < (u' * c + w * c') * d * d' = omega (arith, ap (λ x. x * (c' * d')) e, ap (λ x. x * (c * d)) f, less) in
    lt_of_mul-lt-mul_right d (lt_of_mul-lt-mul_right d' wide)
