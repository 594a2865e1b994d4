-- A rational as a quotient (p - m) / d of natural numbers. A law on rationals then is a law on products of natural numbers, which `omega` proves.
use Rattle.std.specs.Prelude.{◌≡◌, ℕ, suc, ◌+◌, ◌*◌, ◌/◌, ◌<◌, ◌≤◌, ℤ, pos, negsuc, ◌+ℤ◌, ◌*ℤ◌, neg_ℤ, unsigned_abs}
use Rattle.std.specs.Int.{◌∣◌}
use borrow.Author.Differences.{up, down, quot_is, product_is, neg_is}
use Rattle.std.proofs.Common.{refl, ap, ◌∙◌, arith}
use Rattle.std.proofs.lemmas.Int.{ints}
use Rattle.std.proofs.Math.Nat.{div-mul_cancel, dvd-zero, mul-pos}
use Rattle.hc_rational.specs.Gcd.{gcd}
use Rattle.hc_rational.specs.LowestTerms.{gcd-is}
use Rattle.hc_rational.specs.Rational.{Rational, whole, quotient, zero_ℚ, one_ℚ, ◌+ℚ◌, ◌-ℚ◌, neg_ℚ, ◌*ℚ◌, difference-is}
use Rattle.hc_rational.specs.Order.{◌≤ℚ◌, ◌<ℚ◌}
use Rattle.hc_rational.specs.Code.{same_rational, den-pos, gcd-one, num-quotient_is, den-quotient_is}
use Rattle.hc_rational.proofs.Coprime.{same_lowest}
use Rattle.hc_rational.proofs.Cross.{chained, sums, products, same_le, same_lt}

-- q is (p - m) / d
pub record IsQuotient (q : Rational) (p m d : ℕ) : Type 0 where
  pub above : 0 < d
  pub same : up q.num * d + m * q.den ≡ p * q.den + down q.num * d

pub own : (q : Rational) → IsQuotient q (up q.num) (down q.num) q.den
own q = record { above = den-pos q; same = refl }

pub rewritten : {q : Rational} {p m d p' m' d' : ℕ} → IsQuotient q p m d → 0 < d' →
    p * d' + m' * d ≡ p' * d + m * d' → IsQuotient q p' m' d'
rewritten {q} {p} {m} {d} {p'} {m'} {d'} h above e = record {
  above = above;
  same = chained (up q.num) (down q.num) q.den p m d p' m' d' h.above h.same e;
}

-- ---- equal quotients are equal rationals

same_parts : (a b : ℤ) (c d : ℕ) → 0 < c → 0 < d → gcd (unsigned_abs a) c ≡ 1 →
    gcd (unsigned_abs b) d ≡ 1 → up a * d + down b * c ≡ up b * c + down a * d → (a ≡ b) × (c ≡ d)
same_parts (pos a) (pos b) c d p q e f h = let s = same_lowest a c b d p q e f (omega arith) in (ap pos s.0, s.1)
same_parts (pos a) (negsuc b) c d p q e f h = absurd (omega (arith, mul-pos {m = suc b} {n = c} (omega arith) p))
same_parts (negsuc a) (pos b) c d p q e f h = absurd (omega (arith, mul-pos {m = suc a} {n = d} (omega arith) q))
same_parts (negsuc a) (negsuc b) c d p q e f h = let s = same_lowest (suc a) c (suc b) d p q e f (omega arith) in (ap neg_ℤ (ap pos s.0), s.1)

pub same_quotients : {q r : Rational} {p m d p' m' d' : ℕ} → IsQuotient q p m d → IsQuotient r p' m' d' →
    p * d' + m' * d ≡ p' * d + m * d' → q ≡ r
same_quotients {q} {r} {p} {m} {d} {p'} {m'} {d'} h k e =
    let first : IsQuotient q p' m' d' = rewritten h k.above e in
    let cross = chained (up q.num) (down q.num) q.den p' m' d' (up r.num) (down r.num) r.den k.above first.same (omega (arith, k.same)) in
    let parts = same_parts q.num r.num q.den r.den (den-pos q) (den-pos r) (gcd-one q) (gcd-one r) (omega (arith, cross)) in
    same_rational q r parts.0 parts.1

-- ---- each operation

divided : (z : ℤ) (g : ℕ) → g ∣ unsigned_abs z → (up z / g * g ≡ up z) × (down z / g * g ≡ down z)
divided (pos n) g h = (div-mul_cancel g h, div-mul_cancel g (dvd-zero g))
divided (negsuc n) g h = (div-mul_cancel g (dvd-zero g), div-mul_cancel g h)

same_multiples : (u w e g a b d : ℕ) → u * g ≡ a → w * g ≡ b → e * g ≡ d → u * d + b * e ≡ a * e + w * d
same_multiples u w e g a b d p q r = omega (arith, ap (λ x. x * e) p, ap (λ x. x * e) q, ap (λ x. x * u) r, ap (λ x. x * w) r)

pub quotient-is : (z : ℤ) (d : ℕ) → 0 < d → IsQuotient (quotient z d) (up z) (down z) d
quotient-is z d p =
    let num = num-quotient_is z d p in
    let up_is : up (quotient z d).num ≡ up z / gcd (unsigned_abs z) d = ap up num ∙ (quot_is z _).0 in
    let down_is : down (quotient z d).num ≡ down z / gcd (unsigned_abs z) d = ap down num ∙ (quot_is z _).1 in
    let parts = divided z _ (gcd-is (unsigned_abs z) d).0 in
    let multiples = same_multiples (up z / gcd (unsigned_abs z) d) (down z / gcd (unsigned_abs z) d) (d / gcd (unsigned_abs z) d) (gcd (unsigned_abs z) d) (up z) (down z) d parts.0 parts.1 (div-mul_cancel _ (gcd-is (unsigned_abs z) d).1) in
    record { above = p; same = rw (up_is, down_is, den-quotient_is z d p) multiples }

pub whole-is : (z : ℤ) → IsQuotient (whole z) (up z) (down z) 1
unfolding whole
whole-is z = record { above = omega arith; same = refl }

pub zero-is : IsQuotient zero_ℚ 0 0 1
unfolding zero_ℚ
zero-is = whole-is (pos 0)

pub one-is : IsQuotient one_ℚ 1 0 1
unfolding one_ℚ
one-is = whole-is (pos 1)

-- the numerator of a sum, over natural numbers
sum_parts : (a b : ℤ) (d c : ℕ) →
    up (a *ℤ pos d +ℤ b *ℤ pos c) + (down a * d + down b * c) ≡ down (a *ℤ pos d +ℤ b *ℤ pos c) + (up a * d + up b * c)
sum_parts a b d c = omega (arith, ints)

pub add-is : {q r : Rational} {p m d p' m' d' : ℕ} → IsQuotient q p m d → IsQuotient r p' m' d' →
    IsQuotient (q +ℚ r) (p * d' + p' * d) (m * d' + m' * d) (d * d')
unfolding ◌+ℚ◌
add-is {q} {r} {p} {m} {d} {p'} {m'} {d'} h k =
    let made = quotient-is (q.num *ℤ pos r.den +ℤ r.num *ℤ pos q.den) (q.den * r.den) (mul-pos (den-pos q) (den-pos r)) in
    rewritten made (mul-pos h.above k.above)
    (sums (up q.num) (down q.num) q.den p m d (up r.num) (down r.num) r.den p' m' d' _ _ h.same k.same (sum_parts q.num r.num r.den q.den))

pub mul-is : {q r : Rational} {p m d p' m' d' : ℕ} → IsQuotient q p m d → IsQuotient r p' m' d' →
    IsQuotient (q *ℚ r) (p * p' + m * m') (p * m' + m * p') (d * d')
unfolding ◌*ℚ◌
mul-is {q} {r} {p} {m} {d} {p'} {m'} {d'} h k =
    let made = quotient-is (q.num *ℤ r.num) (q.den * r.den) (mul-pos (den-pos q) (den-pos r)) in
    let parts = product_is q.num r.num in
    rewritten made (mul-pos h.above k.above)
    (rw (parts.0, parts.1) (products (up q.num) (down q.num) q.den p m d (up r.num) (down r.num) r.den p' m' d' h.same k.same))

pub neg-is : {q : Rational} {p m d : ℕ} → IsQuotient q p m d → IsQuotient (neg_ℚ q) m p d
unfolding neg_ℚ
neg-is {q} {p} {m} {d} h =
    let made = quotient-is (neg_ℤ q.num) q.den (den-pos q) in
    let parts = neg_is q.num in
    rewritten made h.above (rw (parts.0, parts.1) (omega (arith, h.same)))

pub sub-is : {q r : Rational} {p m d p' m' d' : ℕ} → IsQuotient q p m d → IsQuotient r p' m' d' →
    IsQuotient (q -ℚ r) (p * d' + m' * d) (m * d' + p' * d) (d * d')
sub-is {q} {r} h k = rw (difference-is q r) (add-is h (neg-is k))

pub some_quotient : (p m d : ℕ) → 0 < d → (q : Rational) × IsQuotient q p m d
some_quotient p m d above =
    let parts : up (pos p +ℤ neg_ℤ (pos m)) + m ≡ p + down (pos p +ℤ neg_ℤ (pos m)) = omega (arith, ints) in (
      quotient (pos p +ℤ neg_ℤ (pos m)) d,
      rewritten (quotient-is (pos p +ℤ neg_ℤ (pos m)) d above) above (omega (arith, ap (λ x. x * d) parts)),
    )

-- ---- orders

pub le-from : {q r : Rational} {p m d p' m' d' : ℕ} → IsQuotient q p m d → IsQuotient r p' m' d' →
    p * d' + m' * d ≤ p' * d + m * d' → q ≤ℚ r
le-from {q} {r} {p} {m} {d} {p'} {m'} {d'} h k e =
    let cross = same_le (up q.num) (down q.num) q.den p m d (up r.num) (down r.num) r.den p' m' d' h.above k.above h.same k.same e in
    record { le = omega (arith, ints, cross) }

pub le-to : {q r : Rational} {p m d p' m' d' : ℕ} → IsQuotient q p m d → IsQuotient r p' m' d' → q ≤ℚ r →
    p * d' + m' * d ≤ p' * d + m * d'
le-to {q} {r} {p} {m} {d} {p'} {m'} {d'} h k e =
    let cross : up q.num * r.den + down r.num * q.den ≤ up r.num * q.den + down q.num * r.den = omega (arith, ints, e.le) in
    same_le p m d (up q.num) (down q.num) q.den p' m' d' (up r.num) (down r.num) r.den (den-pos q) (den-pos r) (omega (arith, h.same)) (omega (arith, k.same)) cross

pub lt-from : {q r : Rational} {p m d p' m' d' : ℕ} → IsQuotient q p m d → IsQuotient r p' m' d' →
    p * d' + m' * d < p' * d + m * d' → q <ℚ r
lt-from {q} {r} {p} {m} {d} {p'} {m'} {d'} h k e =
    let cross = same_lt (up q.num) (down q.num) q.den p m d (up r.num) (down r.num) r.den p' m' d' (den-pos q) (den-pos r) h.same k.same e in
    record { lt = omega (arith, ints, cross) }

pub lt-to : {q r : Rational} {p m d p' m' d' : ℕ} → IsQuotient q p m d → IsQuotient r p' m' d' → q <ℚ r →
    p * d' + m' * d < p' * d + m * d'
lt-to {q} {r} {p} {m} {d} {p'} {m'} {d'} h k e =
    let cross : up q.num * r.den + down r.num * q.den < up r.num * q.den + down q.num * r.den = omega (arith, ints, e.lt) in
    same_lt p m d (up q.num) (down q.num) q.den p' m' d' (up r.num) (down r.num) r.den h.above k.above (omega (arith, h.same)) (omega (arith, k.same)) cross
