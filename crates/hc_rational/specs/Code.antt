-- A rational is known by its two parts, and so it can be what a contract sees of a value.
use Rattle.std.specs.Prelude.{◌≡◌, ℕ, zero, suc, ◌/◌, ◌<◌, T, ◌==◌, nat_lt, ℤ, pos, negsuc, neg_ℤ, unsigned_abs, int_div}
use Rattle.std.specs.Coded.{Coded, code_by, coded×, coded_ℤ, coded_ℕ}
use Rattle.std.proofs.Common.{refl, ap, ◌∙◌, subst, arith}
use Rattle.std.proofs.Math.Dec.{T_prop, ltb→lt, eqb→eq}
use Rattle.std.proofs.Math.Nat.{div-one}
use Rattle.hc_rational.specs.Gcd.{gcd}
use Rattle.hc_rational.specs.Rational.{Rational, quotient}

made : (n : ℤ) (d : ℕ) → T (nat_lt 0 d) → T (gcd (unsigned_abs n) d == 1) → Rational
made n d p l = record { num = n; den = d; positive = p; lowest = l }

same_made : (n : ℤ) (d : ℕ) (p p' : T (nat_lt 0 d)) (l l' : T (gcd (unsigned_abs n) d == 1)) →
    made n d p l ≡ made n d p' l'
same_made n d p p' l l' = ap (λ x. made n d x l) (T_prop _ p p') ∙ ap (made n d p') (T_prop _ l l')

-- rationals with equal parts are equal
pub same_rational : (q r : Rational) → q.num ≡ r.num → q.den ≡ r.den → q ≡ r
unfolding made
same_rational q r same_num same_den =
    let P : ℕ → Type 0 = λ d. (p : T (nat_lt 0 d)) (l : T (gcd (unsigned_abs q.num) d == 1)) → q ≡ made q.num d p l in
    let Q : ℤ → Type 0 = λ n. (p : T (nat_lt 0 r.den)) (l : T (gcd (unsigned_abs n) r.den == 1)) → q ≡ made n r.den p l in
    subst Q same_num (subst P same_den (λ p l. same_made q.num q.den q.positive p q.lowest l)) r.positive r.lowest

pub den-pos : (q : Rational) → 0 < q.den
den-pos q = ltb→lt 0 q.den q.positive

pub gcd-one : (q : Rational) → gcd (unsigned_abs q.num) q.den ≡ 1
gcd-one q = eqb→eq _ 1 q.lowest

by_one : (z : ℤ) → int_div z (pos 1) ≡ z
by_one (pos n) = ap pos (div-one n)
by_one (negsuc n) = ap (λ m. neg_ℤ (pos m)) (div-one (suc n))

-- parts in lowest terms stay as they are
pub num-quotient : (z : ℤ) (d : ℕ) → 0 < d → gcd (unsigned_abs z) d ≡ 1 → (quotient z d).num ≡ z
unfolding quotient
num-quotient z zero p e = absurd (omega arith)
num-quotient z (suc k) p e = ap (λ g. int_div z (pos g)) e ∙ by_one z

pub den-quotient : (z : ℤ) (d : ℕ) → 0 < d → gcd (unsigned_abs z) d ≡ 1 → (quotient z d).den ≡ d
unfolding quotient
den-quotient z zero p e = absurd (omega arith)
den-quotient z (suc k) p e = ap (λ g. suc k / g) e ∙ div-one (suc k)

-- the quotient of a rational's own parts is the rational
pub quotient-own : (q : Rational) → quotient q.num q.den ≡ q
quotient-own q = same_rational _ q (num-quotient q.num q.den (den-pos q) (gcd-one q)) (den-quotient q.num q.den (den-pos q) (gcd-one q))

-- a rational is stored as its numerator and denominator
abbrev pub rational_code : Coded Rational
rational_code = code_by (ℤ × ℕ) (coded× coded_ℤ coded_ℕ) (λ q. (q.num, q.den)) (λ p. quotient p.0 p.1) quotient-own

-- the parts of a quotient
pub num-quotient_is : (z : ℤ) (d : ℕ) → 0 < d → (quotient z d).num ≡ int_div z (pos (gcd (unsigned_abs z) d))
unfolding quotient
num-quotient_is z zero p = absurd (omega arith)
num-quotient_is z (suc k) p = refl

pub den-quotient_is : (z : ℤ) (d : ℕ) → 0 < d → (quotient z d).den ≡ d / gcd (unsigned_abs z) d
unfolding quotient
den-quotient_is z zero p = absurd (omega arith)
den-quotient_is z (suc k) p = refl
