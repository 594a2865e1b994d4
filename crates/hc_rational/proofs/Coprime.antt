-- Lowest terms are unique.
use Rattle.std.specs.Prelude.{◌≡◌, ℕ, ◌*◌, ◌<◌}
use Rattle.std.specs.Int.{◌∣◌}
use Rattle.std.proofs.Common.{sym, ap, ◌∙◌, subst, arith}
use Rattle.std.proofs.Math.Nat.{dvd-mul_left, dvd-mul_right, dvd_antisymm, eq_of_mul-eq-mul_right}
use Rattle.hc_rational.specs.Gcd.{gcd}
use Rattle.hc_rational.specs.LowestTerms.{gcd-mul_is}

-- Euclid's lemma
coprime-dvd : (a b k : ℕ) → 0 < k → gcd a b ≡ 1 → b ∣ a * k → b ∣ k
coprime-dvd a b k p e h =
    let whole : gcd a b * k ≡ k = ap (λ g. g * k) e ∙ omega arith in
    subst (λ g. b ∣ g) whole ((gcd-mul_is a b k p).2 b h (dvd-mul_right b k))

pub same_lowest : (a b c d : ℕ) → 0 < b → 0 < d → gcd a b ≡ 1 → gcd c d ≡ 1 → a * d ≡ c * b →
    (a ≡ c) × (b ≡ d)
same_lowest a b c d p q e f h =
    let first : b ∣ d = coprime-dvd a b d q e (subst (λ n. b ∣ n) (sym h) (dvd-mul_left b c)) in
    let second : d ∣ b = coprime-dvd c d b p f (subst (λ n. d ∣ n) h (dvd-mul_left d a)) in
    let dens : b ≡ d = dvd_antisymm first second in
    (eq_of_mul-eq-mul_right d q a c (h ∙ ap (λ n. c * n) dens), dens)
