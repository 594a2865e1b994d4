-- What makes the two parts of a rational lowest terms: lemmas that the definition of a rational needs.
use Rattle.std.specs.Prelude.{◌≡◌, ℕ, zero, suc, ◌+◌, ◌*◌, ◌/◌, ◌%◌, ◌<◌, T, ◌==◌, nat_lt, ℤ, pos, negsuc, neg_ℤ, unsigned_abs, int_div}
use Rattle.std.specs.Int.{IsGcd}
use Rattle.std.proofs.Common.{refl, sym, ap, ap₂, ◌∙◌, subst, arith}
use Rattle.std.proofs.Math.Dec.{lt→ltb, eqb_refl}
use Rattle.std.proofs.Math.Nat.{mod-one, div-mul_cancel, eq_of_mul-eq-mul_right, pos_of_dvd_of_pos}
use Rattle.std.proofs.lemmas.Nat.{mod-mul-add, div-add-mod', mod_below}
use Rattle.std.proofs.lemmas.Nat.Gcd.{IsGcd-from_zero, IsGcd-from_mod, same_from_IsGcd}
use Rattle.hc_rational.specs.Gcd.{gcd, gcd_within}

pub pass_lt : (a b : ℕ) → a < b → T (nat_lt a b)
pass_lt a b h = lt→ltb a b h

pub pass_eq : (a b : ℕ) → a ≡ b → T (a == b)
pass_eq a b e = subst (λ (c : ℕ). T (a == c)) e (eqb_refl a)

-- ---- the greatest common divisor of multiples

pub mod-mul : (a b k : ℕ) → 0 < b → 0 < k → (a * k) % (b * k) ≡ (a % b) * k
mod-mul a b k p q =
    let below : a % b * k < b * k = grind (arith, mod_below a b p) in
    let whole : a * k ≡ a / b * (b * k) + a % b * k = omega (arith, ap (λ x. x * k) (div-add-mod' a b)) in
    ap (λ x. x % (b * k)) whole ∙ mod-mul-add (a / b) (b * k) (a % b * k) below

pub within-mul : (steps a b k : ℕ) → b < steps → 0 < k → IsGcd (a * k) (b * k) (gcd_within steps a b * k)
unfolding gcd_within
within-mul zero a b k h q = absurd (omega arith)
within-mul (suc steps) a zero k h q = IsGcd-from_zero (a * k) (0 * k) (omega arith)
within-mul (suc steps) a (suc b) k h q =
    let below : a % suc b < suc b = omega arith in
    let rest : IsGcd (suc b * k) (a % suc b * k) (gcd_within steps (suc b) (a % suc b) * k) = within-mul steps (suc b) (a % suc b) k (omega arith) q in
    IsGcd-from_mod (a * k) (suc b * k) _ (subst (λ x. IsGcd (suc b * k) x (gcd_within steps (suc b) (a % suc b) * k)) (sym (mod-mul a (suc b) k (omega arith) q)) rest)

pub gcd-mul_is : (a b k : ℕ) → 0 < k → IsGcd (a * k) (b * k) (gcd a b * k)
unfolding gcd
gcd-mul_is a b k q = within-mul (suc b) a b k (omega arith) q

-- it divides both, and each number that divides both divides it
pub gcd-is : (a b : ℕ) → IsGcd a b (gcd a b)
gcd-is a b =
    let by_one : IsGcd (a * 1) (b * 1) (gcd a b * 1) = gcd-mul_is a b 1 (omega arith) in
    let same : (x : ℕ) → x * 1 ≡ x = λ x. omega arith in
    rw (same a, same b, same (gcd a b)) at by_one

pub gcd-mul : (a b k : ℕ) → 0 < k → gcd (a * k) (b * k) ≡ gcd a b * k
gcd-mul a b k q = same_from_IsGcd (a * k) (b * k) _ _ (gcd-is (a * k) (b * k)) (gcd-mul_is a b k q)

pub gcd-pos : (a b : ℕ) → 0 < b → 0 < gcd a b
gcd-pos a b p = pos_of_dvd_of_pos (gcd-is a b).1 p

-- ---- the two parts

-- a and b divided by their greatest common divisor have none but 1
pub gcd-lowest : (a b : ℕ) → 0 < b → gcd (a / gcd a b) (b / gcd a b) ≡ 1
gcd-lowest a b p =
    let g : ℕ = gcd a b in
    let some : 0 < g = gcd-pos a b p in
    let first : a / g * g ≡ a = div-mul_cancel g (gcd-is a b).0 in
    let second : b / g * g ≡ b = div-mul_cancel g (gcd-is a b).1 in
    let same : gcd (a / g) (b / g) * g ≡ gcd a b = sym (gcd-mul (a / g) (b / g) g some) ∙ ap₂ gcd first second in
    eq_of_mul-eq-mul_right g some _ 1 (same ∙ omega arith)

factor-pos : (a b n : ℕ) → a * b ≡ n → 0 < n → 0 < a
factor-pos zero b n e p = absurd (omega arith)
factor-pos (suc a) b n e p = omega arith

pub quotient-pos : (a b : ℕ) → 0 < b → 0 < b / gcd a b
quotient-pos a b p = factor-pos (b / gcd a b) (gcd a b) b (div-mul_cancel (gcd a b) (gcd-is a b).1) p

abs-neg : (n : ℕ) → unsigned_abs (neg_ℤ (pos n)) ≡ n
abs-neg zero = refl
abs-neg (suc n) = refl

pub abs-div : (z : ℤ) (g : ℕ) → unsigned_abs (int_div z (pos g)) ≡ unsigned_abs z / g
abs-div (pos n) g = refl
abs-div (negsuc n) g = abs-neg (suc n / g)

pub quotient-lowest : (z : ℤ) (d : ℕ) → 0 < d →
    gcd (unsigned_abs (int_div z (pos (gcd (unsigned_abs z) d)))) (d / gcd (unsigned_abs z) d) ≡ 1
quotient-lowest z d p = ap (λ n. gcd n (d / gcd (unsigned_abs z) d)) (abs-div z (gcd (unsigned_abs z) d)) ∙ gcd-lowest (unsigned_abs z) d p

pub whole-lowest : (z : ℤ) → gcd (unsigned_abs z) 1 ≡ 1
unfolding gcd gcd_within
whole-lowest z = ap (λ n. gcd_within 1 1 n) (mod-one (unsigned_abs z))

pub some-suc : (k : ℕ) → 0 < suc k
some-suc k = omega arith
