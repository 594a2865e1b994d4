-- A quotient in lowest terms, from any greatest common divisor of its parts.
use Rattle.std.proofs.Common.{to_z, of_z, ◌≡◌, ℕ, ◌<◌, ◌/◌, ℤ, pos, negsuc, neg_ℤ, ◌≤ℤ◌, ◌<ℤ◌, refl, ap, ap₂, ◌∙◌, arith}
use Rattle.std.specs.Prelude.{unsigned_abs, int_div, FitsSigned}
use Rattle.std.specs.Int.{IsGcd, w128}
use Rattle.std.proofs.lemmas.Int.{ints, to_z-of_z}
use Rattle.std.proofs.lemmas.Nat.Gcd.{same_from_IsGcd}
use Rattle.std.proofs.Math.Nat.{pos_of_dvd_of_pos}
use Rattle.hc_rational.specs.Words.{Rational, quotient, gcd, IsFrac}
use Rattle.hc_rational.specs.LowestTerms.{gcd-is, abs-div}
use Rattle.hc_rational.specs.Code.{den-pos, gcd-one, num-quotient_is, den-quotient_is, quotient-own}
use Rattle.hc_frac.specs.declared.frac.Frac.TheInside.{Inside}
use Rattle.hc_rational.proofs.FitsLaws.{den_fits, num_fits}
use Rattle.hc_frac.specs.Parts.{shown, AreLowest}

pub divisor-pos : (a d g : ℕ) → IsGcd a d g → 0 < d → 0 < g
divisor-pos a d g h p = pos_of_dvd_of_pos h.1 p

same_gcd : (a d g : ℕ) → IsGcd a d g → gcd a d ≡ g
same_gcd a d g h = same_from_IsGcd a d _ g (gcd-is a d) h

pub top_is : (n : ℤ) (d g : ℕ) → IsGcd (unsigned_abs n) d g → 0 < d → (quotient n d).num ≡ int_div n (pos g)
top_is n d g h p = num-quotient_is n d p ∙ ap (λ k. int_div n (pos k)) (same_gcd (unsigned_abs n) d g h)

pub bottom_is : (n : ℤ) (d g : ℕ) → IsGcd (unsigned_abs n) d g → 0 < d → (quotient n d).den ≡ d / g
bottom_is n d g h p = den-quotient_is n d p ∙ ap (λ k. d / k) (same_gcd (unsigned_abs n) d g h)

pub magnitude_is : (n : ℤ) (d g : ℕ) → IsGcd (unsigned_abs n) d g → 0 < d →
    unsigned_abs (quotient n d).num ≡ unsigned_abs n / g
magnitude_is n d g h p = ap unsigned_abs (top_is n d g h p) ∙ abs-div n g

-- the sign goes back before the quotient of the magnitudes
pub below_zero : (n : ℤ) (g : ℕ) → n <ℤ pos 0 → neg_ℤ (pos (unsigned_abs n / g)) ≡ int_div n (pos g)
below_zero (pos a) g h = absurd (omega (arith, ints))
below_zero (negsuc a) g h = refl

pub from_zero : (n : ℤ) (g : ℕ) → pos 0 ≤ℤ n → pos (unsigned_abs n / g) ≡ int_div n (pos g)
from_zero (pos a) g h = refl
from_zero (negsuc a) g h = absurd (omega (arith, ints))

-- numbers that are the parts of a rational that fits may be kept, and are seen as that rational
pub lowest_from : (q : Rational) (f : Inside) → f.num ≡ q.num → f.den ≡ q.den → IsFrac q → AreLowest f
lowest_from q f n d h = record {
  above = rw d (den-pos q);
  lowest = rw (n, d) (gcd-one q);
  num_fits = rw n (num_fits q h);
  den_fits = rw d (den_fits q h);
}

pub shown_from : (q : Rational) (f : Inside) → f.num ≡ q.num → f.den ≡ q.den → shown f ≡ q
shown_from q f n d = ap₂ quotient n d ∙ quotient-own q

-- the magnitude of a number of 128 bits that is read again
pub magnitude_of : (n : ℤ) (m : ℕ) → FitsSigned w128 n → m ≡ unsigned_abs (to_z w128 (of_z w128 n)) →
    m ≡ unsigned_abs n
magnitude_of n m f e = e ∙ ap unsigned_abs (to_z-of_z w128 n f)
