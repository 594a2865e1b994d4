-- A fraction that is written in lowest terms has the numbers with which it is written.
use Rattle.std.proofs.Common.{◌≡◌, ◌≢◌, refl, sym, ap, ap₂, ◌∙◌, subst, ℕ, zero, suc, Bool, true, false, ◌&&◌, Option, Some, None, arith}
use Rattle.std.specs.Prelude.{ℤ, pos, negsuc, unsigned_abs, if◌then◌else◌, ◌==◌, ◌*ℤ◌, int_lt, min, SomeIff}
use Rattle.std.proofs.lemmas.Int.{ints}
use Rattle.std.proofs.lemmas.Bool.{eqb-true, eq-eqb, and_parts}
use Rattle.hc_rational.specs.Rational.{Rational, ratio, quotient}
use Rattle.hc_rational.specs.Gcd.{gcd}
use Rattle.hc_rational.specs.Code.{gcd-one, num-quotient, den-quotient}
use Rattle.hc_rational.specs.Fits.{IsFrac}
use Rattle.hc_rational.proofs.FitsLaws.{quotient_fits}
use Rattle.hc_cmach.specs.Primitive.{is_literal}
use Rattle.hc_cprim.specs.Deeds.{lowest, IsSmall}

ratio_is : (n : ℤ) (k : ℕ) → ratio n (pos (suc k)) ≡ quotient n (suc k)
unfolding ratio
ratio_is n k =
    let one : min (suc k) 1 ≡ 1 = omega arith in
    let e : n *ℤ pos 1 ≡ n = omega (arith, ints) in
    ap (λ (s : ℕ). quotient (n *ℤ pos s) (suc k)) one ∙ ap (λ (z : ℤ). quotient z (suc k)) e

pos_same : (a b : ℕ) → pos a ≡ pos b → a ≡ b
pos_same a b e = cc

module _ (n : ℤ) (k : ℕ) where
  abbrev v : Rational
  v = ratio n (pos (suc k))

  written : gcd (unsigned_abs n) (suc k) ≡ 1 → (v.num ≡ n) × (pos v.den ≡ pos (suc k))
  written e =
      let r = ratio_is n k in (
        ap (λ (q : Rational). q.num) r ∙ num-quotient n (suc k) (omega arith) e,
        ap (λ (q : Rational). pos q.den) r ∙ ap pos (den-quotient n (suc k) (omega arith) e),
      )

  coprime : v.num ≡ n → pos v.den ≡ pos (suc k) → gcd (unsigned_abs n) (suc k) ≡ 1
  coprime e h = ap₂ (λ (z : ℤ) (d : ℕ). gcd (unsigned_abs z) d) (sym e) (sym (pos_same v.den (suc k) h)) ∙ gcd-one v

  by_test : (b : Bool) → (b ≡ true → gcd (unsigned_abs n) (suc k) ≡ 1) → (gcd (unsigned_abs n) (suc k) ≡ 1 → b ≡ true) →
      (o : Option Rational) → SomeIff o ((v.num ≡ n) × (pos v.den ≡ pos (suc k))) v → o ≡ (if b then Some v else None)
  by_test true to from (Some x) h = ap Some h.1
  by_test true to from None h = absurd (h (written (to refl)))
  by_test false to from (Some x) h = absurd (let e : false ≡ true = from (coprime h.0.0 h.0.1) in cc)
  by_test false to from None h = refl

  fits : IsSmall n (pos (suc k)) → IsFrac v
  fits small = subst IsFrac (sym (ratio_is n k)) (quotient_fits n (suc k) (omega arith) small.first small.second)

pub lowest_some : (n m : ℤ) (w : Rational) (o : Option Rational) → int_lt (pos 0) m ≡ true → w ≡ ratio n m →
    SomeIff o ((w.num ≡ n) × (pos w.den ≡ m)) w → o ≡ lowest n m
lowest_some n (pos zero) w o p e h = absurd (cc)
lowest_some n (pos (suc k)) w o p e h =
    by_test n k (is_literal n (pos (suc k)))
    (λ t. eqb-true (gcd (unsigned_abs n) (suc k)) 1 (and_parts (int_lt (pos 0) (pos (suc k))) (gcd (unsigned_abs n) (suc k) == 1) t).1)
    (λ t. ap₂ (λ (a b : Bool). a && b) p (eq-eqb (gcd (unsigned_abs n) (suc k)) 1 t)) o
    (subst (λ (q : Rational). SomeIff o ((q.num ≡ n) × (pos q.den ≡ pos (suc k))) q) e h)
lowest_some n (negsuc k) w o p e h = absurd (cc)

pub lowest_none : (n m : ℤ) → int_lt (pos 0) m ≡ true → IsSmall n m → (((m ≢ pos 0) × IsFrac (ratio n m)) → ⊥) → None ≡ lowest n m
lowest_none n (pos zero) p small h = absurd (cc)
lowest_none n (pos (suc k)) p small h = absurd (h ((λ e. cc), fits n k small))
lowest_none n (negsuc k) p small h = absurd (cc)
