-- The laws of sums, products and quotients of rationals.
use Rattle.std.specs.Prelude.{◌≡◌, ◌≢◌, ℕ, suc, zero, ◌+◌, ◌*◌, ◌<◌, ℤ, pos, negsuc, ◌*ℤ◌, unsigned_abs}
use Rattle.std.specs.Int.{int_signum}
use borrow.Author.Differences.{up, down, product_is}
use Rattle.std.proofs.Common.{refl, sym, ap, ◌∙◌, arith}
use Rattle.std.proofs.lemmas.Int.{ints}
use Rattle.std.proofs.Math.Nat.{mul-pos}
use Rattle.hc_rational.specs.Rational.{Rational, quotient, ratio, zero_ℚ, one_ℚ, ◌+ℚ◌, ◌-ℚ◌, neg_ℚ, ◌*ℚ◌, ◌/ℚ◌}
use Rattle.hc_rational.specs.Code.{den-pos, quotient-own}
use Rattle.hc_rational.proofs.Quotients.{IsQuotient, own, rewritten, same_quotients, quotient-is, zero-is, one-is, add-is, mul-is, neg-is, sub-is}

pub +ℚ_assoc : (q r s : Rational) → (q +ℚ r) +ℚ s ≡ q +ℚ (r +ℚ s)
+ℚ_assoc q r s = same_quotients (add-is (add-is (own q) (own r)) (own s)) (add-is (own q) (add-is (own r) (own s))) (omega arith)

pub +ℚ_comm : (q r : Rational) → q +ℚ r ≡ r +ℚ q
+ℚ_comm q r = same_quotients (add-is (own q) (own r)) (add-is (own r) (own q)) (omega arith)

pub +ℚ-zero : (q : Rational) → q +ℚ zero_ℚ ≡ q
+ℚ-zero q = same_quotients (add-is (own q) zero-is) (own q) (omega arith)

pub zero-+ℚ : (q : Rational) → zero_ℚ +ℚ q ≡ q
zero-+ℚ q = same_quotients (add-is zero-is (own q)) (own q) (omega arith)

pub +ℚ-neg : (q : Rational) → q +ℚ neg_ℚ q ≡ zero_ℚ
+ℚ-neg q = same_quotients (add-is (own q) (neg-is (own q))) zero-is (omega arith)

pub *ℚ_assoc : (q r s : Rational) → (q *ℚ r) *ℚ s ≡ q *ℚ (r *ℚ s)
*ℚ_assoc q r s = same_quotients (mul-is (mul-is (own q) (own r)) (own s)) (mul-is (own q) (mul-is (own r) (own s))) (omega arith)

pub *ℚ_comm : (q r : Rational) → q *ℚ r ≡ r *ℚ q
*ℚ_comm q r = same_quotients (mul-is (own q) (own r)) (mul-is (own r) (own q)) (omega arith)

pub *ℚ-one : (q : Rational) → q *ℚ one_ℚ ≡ q
*ℚ-one q = same_quotients (mul-is (own q) one-is) (own q) (omega arith)

pub one-*ℚ : (q : Rational) → one_ℚ *ℚ q ≡ q
one-*ℚ q = same_quotients (mul-is one-is (own q)) (own q) (omega arith)

pub *ℚ-zero : (q : Rational) → q *ℚ zero_ℚ ≡ zero_ℚ
*ℚ-zero q = same_quotients (mul-is (own q) zero-is) zero-is (omega arith)

pub zero-*ℚ : (q : Rational) → zero_ℚ *ℚ q ≡ zero_ℚ
zero-*ℚ q = same_quotients (mul-is zero-is (own q)) zero-is (omega arith)

pub *ℚ-+ℚ : (q r s : Rational) → q *ℚ (r +ℚ s) ≡ q *ℚ r +ℚ q *ℚ s
*ℚ-+ℚ q r s = same_quotients (mul-is (own q) (add-is (own r) (own s))) (add-is (mul-is (own q) (own r)) (mul-is (own q) (own s))) (omega arith)

pub +ℚ-*ℚ : (q r s : Rational) → (q +ℚ r) *ℚ s ≡ q *ℚ s +ℚ r *ℚ s
+ℚ-*ℚ q r s = same_quotients (mul-is (add-is (own q) (own r)) (own s)) (add-is (mul-is (own q) (own s)) (mul-is (own r) (own s))) (omega arith)

-- ---- negation and differences

pub neg-neg : (q : Rational) → neg_ℚ (neg_ℚ q) ≡ q
neg-neg q = same_quotients (neg-is (neg-is (own q))) (own q) (omega arith)

pub neg-zero : neg_ℚ zero_ℚ ≡ zero_ℚ
neg-zero = same_quotients (neg-is zero-is) zero-is (omega arith)

pub neg-+ℚ : (q r : Rational) → neg_ℚ (q +ℚ r) ≡ neg_ℚ q +ℚ neg_ℚ r
neg-+ℚ q r = same_quotients (neg-is (add-is (own q) (own r))) (add-is (neg-is (own q)) (neg-is (own r))) (omega arith)

pub neg-*ℚ : (q r : Rational) → neg_ℚ q *ℚ r ≡ neg_ℚ (q *ℚ r)
neg-*ℚ q r = same_quotients (mul-is (neg-is (own q)) (own r)) (neg-is (mul-is (own q) (own r))) (omega arith)

pub *ℚ-neg : (q r : Rational) → q *ℚ neg_ℚ r ≡ neg_ℚ (q *ℚ r)
*ℚ-neg q r = same_quotients (mul-is (own q) (neg-is (own r))) (neg-is (mul-is (own q) (own r))) (omega arith)

pub -ℚ-self : (q : Rational) → q -ℚ q ≡ zero_ℚ
-ℚ-self q = same_quotients (sub-is (own q) (own q)) zero-is (omega arith)

pub -ℚ-+ℚ : (q r : Rational) → (q -ℚ r) +ℚ r ≡ q
-ℚ-+ℚ q r = same_quotients (add-is (sub-is (own q) (own r)) (own r)) (own q) (omega arith)

pub +ℚ--ℚ : (q r : Rational) → (q +ℚ r) -ℚ r ≡ q
+ℚ--ℚ q r = same_quotients (sub-is (add-is (own q) (own r)) (own r)) (own q) (omega arith)

-- ---- quotients

-- (a - b) / e by a whole number of magnitude k and one sign
kept_sign : (z : ℤ) (a b c e k : ℕ) → up z + b * e ≡ down z + a * e →
    up z * (c * (k * k)) + e * (b * k) * (c * k) ≡ e * (a * k) * (c * k) + down z * (c * (k * k))
kept_sign z a b c e k h = omega (arith, ap (λ x. x * (c * (k * k))) h)

scaled : (a : ℤ) (e : ℕ) → up (a *ℤ pos 1 *ℤ pos e) + down a * e ≡ down (a *ℤ pos 1 *ℤ pos e) + up a * e
scaled a e =
    let one = product_is a (pos 1) in
    omega (arith, ints, ap (λ x. x * e) one.0, ap (λ x. x * e) one.1)

turned : (a : ℤ) (e : ℕ) → up (a *ℤ negsuc 0 *ℤ pos e) + up a * e ≡ down (a *ℤ negsuc 0 *ℤ pos e) + down a * e
turned a e =
    let one = product_is a (negsuc 0) in
    omega (arith, ints, ap (λ x. x * e) one.0, ap (λ x. x * e) one.1)

-- q / (n / e), where n isn't 0
divided-is : (q : Rational) (n : ℤ) (e : ℕ) → n ≢ pos 0 →
    IsQuotient (quotient (q.num *ℤ int_signum n *ℤ pos e) (q.den * unsigned_abs n)) (e * (up q.num * up n + down q.num * down n)) (e * (up q.num * down n + down q.num * up n)) (q.den * (up n * up n + down n * down n))
divided-is q (pos zero) e some = absurd (some refl)
divided-is q (pos (suc k)) e some =
    let dens : 0 < q.den * suc k = mul-pos {m = q.den} {n = suc k} (den-pos q) (omega arith) in
    let squares : 0 < q.den * (suc k * suc k) = mul-pos {m = q.den} {n = suc k * suc k} (den-pos q) (omega arith) in
    let sign : int_signum (pos (suc k)) ≡ pos 1 = ap pos (omega arith) in
    rw sign (rewritten (quotient-is (q.num *ℤ pos 1 *ℤ pos e) (q.den * suc k) dens) (omega (arith, squares))
    (omega (arith, kept_sign (q.num *ℤ pos 1 *ℤ pos e) (up q.num) (down q.num) q.den e (suc k) (scaled q.num e))))
divided-is q (negsuc k) e some =
    let dens : 0 < q.den * suc k = mul-pos {m = q.den} {n = suc k} (den-pos q) (omega arith) in
    let squares : 0 < q.den * (suc k * suc k) = mul-pos {m = q.den} {n = suc k * suc k} (den-pos q) (omega arith) in
    rewritten (quotient-is (q.num *ℤ negsuc 0 *ℤ pos e) (q.den * suc k) dens) (omega (arith, squares))
    (omega (arith, kept_sign (q.num *ℤ negsuc 0 *ℤ pos e) (down q.num) (up q.num) q.den e (suc k) (turned q.num e)))

pub ratio-is : (n d : ℤ) → d ≢ pos 0 → (ratio n d).num *ℤ d ≡ n *ℤ pos (ratio n d).den
unfolding ratio
ratio-is n (pos zero) some = absurd (some refl)
ratio-is n (pos (suc k)) some =
    let sign : int_signum (pos (suc k)) ≡ pos 1 = ap pos (omega arith) in
    let made = quotient-is (n *ℤ pos 1) (suc k) (omega arith) in
    let top = product_is n (pos 1) in
    let scale : ℕ → ℕ = λ x. x * (quotient (n *ℤ pos 1) (suc k)).den in
    rw sign (omega (arith, ints, made.same, ap scale top.0, ap scale top.1))
ratio-is n (negsuc k) some =
    let made = quotient-is (n *ℤ negsuc 0) (suc k) (omega arith) in
    let top = product_is n (negsuc 0) in
    let scale : ℕ → ℕ = λ x. x * (quotient (n *ℤ negsuc 0) (suc k)).den in
    omega (arith, ints, made.same, ap scale top.0, ap scale top.1)

one_sign : (z : ℤ) → up z * down z ≡ 0
one_sign (pos n) = omega arith
one_sign (negsuc n) = omega arith

multiplied_back : (u w c U W e : ℕ) → U * W ≡ 0 →
    (e * (u * U + w * W) * U + e * (u * W + w * U) * W) * c + w * (c * (U * U + W * W) * e) ≡ u * (c * (U * U + W * W) * e) + (e * (u * U + w * W) * W + e * (u * W + w * U) * U) * c
multiplied_back u w c U W e h = omega (arith, ap (λ x. x * (e * u * c)) h, ap (λ x. x * (e * w * c)) h)

pub zero-from_num : (q : Rational) → q.num ≡ pos 0 → q ≡ zero_ℚ
zero-from_num q e = same_quotients (own q) zero-is (omega (arith, ap up e, ap down e))

pub /ℚ-*ℚ : (q r : Rational) → r ≢ zero_ℚ → q /ℚ r *ℚ r ≡ q
unfolding ◌/ℚ◌
/ℚ-*ℚ q r some =
    same_quotients (mul-is (divided-is q r.num r.den (λ e. some (zero-from_num r e))) (own r)) (own q)
    (multiplied_back (up q.num) (down q.num) q.den (up r.num) (down r.num) r.den (one_sign r.num))

pub *ℚ_cancel : (q r s : Rational) → s ≢ zero_ℚ → q *ℚ s ≡ r *ℚ s → q ≡ r
*ℚ_cancel q r s some e =
    let back : (x : Rational) → (x *ℚ s) *ℚ (one_ℚ /ℚ s) ≡ x = λ x.
    *ℚ_assoc x s (one_ℚ /ℚ s) ∙ ap (λ y. x *ℚ y) (*ℚ_comm s (one_ℚ /ℚ s) ∙ /ℚ-*ℚ one_ℚ s some) ∙ *ℚ-one x in
    sym (back q) ∙ ap (λ y. y *ℚ (one_ℚ /ℚ s)) e ∙ back r

pub *ℚ-/ℚ : (q r : Rational) → r ≢ zero_ℚ → q *ℚ r /ℚ r ≡ q
*ℚ-/ℚ q r some = *ℚ_cancel (q *ℚ r /ℚ r) q r some (/ℚ-*ℚ (q *ℚ r) r some)

pub zero-/ℚ : (q : Rational) → q ≢ zero_ℚ → zero_ℚ /ℚ q ≡ zero_ℚ
zero-/ℚ q some = *ℚ_cancel (zero_ℚ /ℚ q) zero_ℚ q some (/ℚ-*ℚ zero_ℚ q some ∙ sym (zero-*ℚ q))

-- a rational is the ratio of its own parts
pub ratio-own : (q : Rational) → ratio q.num (pos q.den) ≡ q
unfolding ratio
ratio-own q =
    let sign : int_signum (pos q.den) ≡ pos 1 = ap pos (omega (arith, den-pos q)) in
    let top : q.num *ℤ int_signum (pos q.den) ≡ q.num = rw sign (omega (arith, ints)) in
    ap (λ n. quotient n q.den) top ∙ quotient-own q
