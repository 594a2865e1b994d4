-- What 128 bits hold: products of two parts of fractions, and sums of two such products.
use Rattle.std.proofs.Common.{to_z, of_z, ◌≡◌, ℕ, refl, ◌-◌, ◌*◌, ◌<◌, ◌≤◌, ◌^◌, ℤ, pos, negsuc, ◌+ℤ◌, ◌*ℤ◌, ap, ap₂, ◌∙◌, arith}
use Rattle.std.specs.Prelude.{◌≢◌, zero, suc, unsigned_abs, FitsSigned}
use Rattle.std.specs.Int.{w64, w128, int_signum}
use Rattle.std.proofs.lemmas.Int.{ints, to_z-of_z, unsigned_abs-mul, fits_signed_from_abs}
use Rattle.std.proofs.lemmas.Nat.{mul-lt, mul-le}
use Rattle.std.proofs.Math.Nat.{mul-pos}
use Rattle.hc_rational.specs.Words.{Rational}
use Rattle.hc_rational.specs.Code.{den-pos}
use Rattle.hc_rational.proofs.FitsLaws.{den_fits, num_fits}
use Rattle.hc_frac.specs.PartsOf.{ArePartsOf}

-- a number that goes to 128 bits and is read again
abbrev pub read : ℤ → ℤ
read z = to_z w128 (of_z w128 z)

pub small_read : (z : ℤ) → unsigned_abs z < 2 ^ 127 → read z ≡ z
small_read z h = to_z-of_z w128 z (fits_signed_from_abs w128 z h)

pub num_read : {q : Rational} {p : ℤ × ℤ} → ArePartsOf q p → read p.0 ≡ q.num
num_read {q} h = ap read h.num ∙ small_read q.num (omega (arith, num_fits q h.fits))

pub den_read : {q : Rational} {p : ℤ × ℤ} → ArePartsOf q p → read p.1 ≡ pos q.den
den_read {q} h = ap read h.den ∙ small_read (pos q.den) (omega (arith, den_fits q h.fits))

product_below : (x y : ℤ) → unsigned_abs x < 2 ^ 63 → unsigned_abs y < 2 ^ 63 →
    unsigned_abs (x *ℤ y) < 2 ^ 126
product_below x y p q = rw (unsigned_abs-mul x y) (mul-lt (unsigned_abs x) (unsigned_abs y) (2 ^ 63) (2 ^ 63) p q)

product_read : (x y x' y' : ℤ) → read x' ≡ x → read y' ≡ y → unsigned_abs x < 2 ^ 63 →
    unsigned_abs y < 2 ^ 63 → read (read x' *ℤ read y') ≡ x *ℤ y
product_read x y x' y' e f p q = ap read (ap₂ ◌*ℤ◌ e f) ∙ small_read (x *ℤ y) (omega (arith, product_below x y p q))

-- one's numerator by the other's denominator
pub cross_below : {q r : Rational} {p s : ℤ × ℤ} → ArePartsOf q p → ArePartsOf r s →
    unsigned_abs (q.num *ℤ pos r.den) < 2 ^ 126
cross_below {q} {r} h k = product_below q.num (pos r.den) (num_fits q h.fits) (den_fits r k.fits)

pub cross_read : {q r : Rational} {p s : ℤ × ℤ} → ArePartsOf q p → ArePartsOf r s →
    read (read p.0 *ℤ read s.1) ≡ q.num *ℤ pos r.den
cross_read {q} {r} {p} {s} h k = product_read q.num (pos r.den) p.0 s.1 (num_read h) (den_read k) (num_fits q h.fits) (den_fits r k.fits)

-- the product of the numerators
pub nums_read : {q r : Rational} {p s : ℤ × ℤ} → ArePartsOf q p → ArePartsOf r s →
    read (read p.0 *ℤ read s.0) ≡ q.num *ℤ r.num
nums_read {q} {r} {p} {s} h k = product_read q.num r.num p.0 s.0 (num_read h) (num_read k) (num_fits q h.fits) (num_fits r k.fits)

-- the product of the denominators
pub dens_read : {q r : Rational} {p s : ℤ × ℤ} → ArePartsOf q p → ArePartsOf r s →
    read (read p.1 *ℤ read s.1) ≡ pos (q.den * r.den)
dens_read {q} {r} {p} {s} h k = product_read (pos q.den) (pos r.den) p.1 s.1 (den_read h) (den_read k) (den_fits q h.fits) (den_fits r k.fits)

pub dens_pos : (q r : Rational) → 0 < q.den * r.den
dens_pos q r = grind (arith, den-pos q, den-pos r)

-- the sum of two such products
sum_below : (x y : ℤ) → unsigned_abs x < 2 ^ 126 → unsigned_abs y < 2 ^ 126 → unsigned_abs (x +ℤ y) < 2 ^ 127
sum_below x y p q = omega (arith, ints)

cross_sum_below : {q r : Rational} {p s : ℤ × ℤ} → ArePartsOf q p → ArePartsOf r s →
    unsigned_abs (q.num *ℤ pos r.den +ℤ r.num *ℤ pos q.den) < 2 ^ 127
cross_sum_below {q} {r} h k = sum_below (q.num *ℤ pos r.den) (r.num *ℤ pos q.den) (cross_below h k) (cross_below k h)

pub sum_fits : {q r : Rational} {p s : ℤ × ℤ} → ArePartsOf q p → ArePartsOf r s →
    FitsSigned w128 (read (read p.0 *ℤ read s.1) +ℤ read (read s.0 *ℤ read p.1))
sum_fits h k = rw (cross_read h k, cross_read k h) (fits_signed_from_abs w128 _ (cross_sum_below h k))

pub sum_read : {q r : Rational} {p s : ℤ × ℤ} → ArePartsOf q p → ArePartsOf r s →
    read (read (read p.0 *ℤ read s.1) +ℤ read (read s.0 *ℤ read p.1)) ≡ q.num *ℤ pos r.den +ℤ r.num *ℤ pos q.den
sum_read h k = ap read (ap₂ ◌+ℤ◌ (cross_read h k) (cross_read k h)) ∙ small_read _ (cross_sum_below h k)

-- a number of 64 bits that goes to 128
pub wide_read : (n m : ℤ) → FitsSigned w64 n → m ≡ to_z w64 (of_z w64 n) → read m ≡ n
wide_read n m f e = omega (arith, ints)

sign_small : (d : ℤ) → unsigned_abs (int_signum d) ≤ 1
sign_small (pos n) = omega arith
sign_small (negsuc n) = omega arith

-- a numerator that takes the sign of a denominator
turned_below : (n d : ℤ) (m : ℕ) → unsigned_abs n ≤ m → unsigned_abs (n *ℤ int_signum d) ≤ m
turned_below n d m h =
    omega (arith, unsigned_abs-mul n (int_signum d), mul-le (unsigned_abs n) (unsigned_abs (int_signum d)) m 1 h (sign_small d))

pub turned_read : (n d n' s : ℤ) → unsigned_abs n ≤ 2 ^ 63 → read n' ≡ n → s ≡ int_signum d →
    read (read n' *ℤ read s) ≡ n *ℤ int_signum d
turned_read n d n' s h e g =
    let whole_sign : read s ≡ int_signum d = ap read g ∙ small_read (int_signum d) (omega (arith, sign_small d)) in
    ap read (ap₂ ◌*ℤ◌ e whole_sign) ∙ small_read (n *ℤ int_signum d) (omega (arith, turned_below n d (2 ^ 63) h))

-- ---- a quotient of two fractions

pub sign_read : {r : Rational} {p : ℤ × ℤ} {s : ℤ} → ArePartsOf r p → s ≡ int_signum (read p.0) →
    s ≡ int_signum r.num
sign_read h e = e ∙ ap int_signum (num_read h)

over_below : {q r : Rational} {p s : ℤ × ℤ} → ArePartsOf q p → ArePartsOf r s →
    unsigned_abs (q.num *ℤ int_signum r.num) < 2 ^ 63
over_below {q} {r} h k = omega (arith, turned_below q.num r.num (2 ^ 63 - 1) (omega (arith, num_fits q h.fits)))

over_read : {q r : Rational} {p s : ℤ × ℤ} (t : ℤ) → ArePartsOf q p → ArePartsOf r s →
    t ≡ int_signum r.num → read (read p.0 *ℤ read t) ≡ q.num *ℤ int_signum r.num
over_read {q} {r} {p} t h k e = turned_read q.num r.num p.0 t (omega (arith, num_fits q h.fits)) (num_read h) e

pub over_fits : {q r : Rational} {p s : ℤ × ℤ} (t : ℤ) → ArePartsOf q p → ArePartsOf r s →
    t ≡ int_signum r.num → FitsSigned w128 (read (read p.0 *ℤ read t) *ℤ read s.1)
over_fits {q} {r} t h k e =
    let below = product_below (q.num *ℤ int_signum r.num) (pos r.den) (over_below h k) (den_fits r k.fits) in
    rw (over_read t h k e, den_read k) (fits_signed_from_abs w128 _ (omega (arith, below)))

pub quotient_read : {q r : Rational} {p s : ℤ × ℤ} (t : ℤ) → ArePartsOf q p → ArePartsOf r s →
    t ≡ int_signum r.num →
    read (read (read p.0 *ℤ read t) *ℤ read s.1) ≡ q.num *ℤ int_signum r.num *ℤ pos r.den
quotient_read {q} {r} {p} {s} t h k e =
    product_read (q.num *ℤ int_signum r.num) (pos r.den) (read p.0 *ℤ read t) s.1 (over_read t h k e) (den_read k) (over_below h k) (den_fits r k.fits)

pub under_read : {q r : Rational} {p s : ℤ × ℤ} → ArePartsOf q p → ArePartsOf r s →
    unsigned_abs (read (read p.1 *ℤ read s.0)) ≡ q.den * unsigned_abs r.num
under_read {q} {r} {p} {s} h k =
    ap unsigned_abs (product_read (pos q.den) r.num p.1 s.0 (den_read h) (num_read k) (den_fits q h.fits) (num_fits r k.fits))
    ∙ unsigned_abs-mul (pos q.den) r.num

abs_pos : (z : ℤ) → z ≢ pos 0 → 0 < unsigned_abs z
abs_pos (pos zero) some = absurd (some refl)
abs_pos (pos (suc n)) some = omega arith
abs_pos (negsuc n) some = omega arith

pub under_pos : (q r : Rational) → r.num ≢ pos 0 → 0 < q.den * unsigned_abs r.num
under_pos q r some = mul-pos (den-pos q) (abs_pos r.num some)
