-- What the two kept numbers tell of the fraction that is seen.
use Rattle.std.proofs.Common.{◌≡◌, ℕ, ◌<◌, ◌^◌, ℤ, pos, w64, to_z, of_z, sym, ap, ◌∙◌, arith}
use Rattle.std.specs.Prelude.{Option, Some, None, SomeIff, unsigned_abs}
use Rattle.std.proofs.lemmas.Int.{to_z-of_z, fits_signed_from_abs, ints}
use Rattle.hc_rational.specs.Words.{Rational, IsFrac}
use Rattle.hc_rational.specs.Code.{num-quotient, den-quotient}
use Rattle.hc_frac.specs.declared.frac.Frac.TheInside.{Inside}
use Rattle.hc_rational.proofs.FitsLaws.{fits_from_parts}
use Rattle.hc_frac.specs.Parts.{shown, AreLowest}

pub num_seen : (f : Inside) (q : Rational) → shown f ≡ q → AreLowest f → f.num ≡ q.num
num_seen f q e h = sym (num-quotient f.num f.den h.above h.lowest) ∙ ap (λ r. r.num) e

pub den_seen : (f : Inside) (q : Rational) → shown f ≡ q → AreLowest f → f.den ≡ q.den
den_seen f q e h = sym (den-quotient f.num f.den h.above h.lowest) ∙ ap (λ r. r.den) e

pub fits_seen : (f : Inside) (q : Rational) → shown f ≡ q → AreLowest f → IsFrac q
fits_seen f q e h = fits_from_parts q (rw (← num_seen f q e h) h.num_fits) (rw (← den_seen f q e h) h.den_fits)

-- a signed number of 64 bits that is read again
pub read_num : (n : ℤ) → unsigned_abs n < 2 ^ 63 → to_z w64 (of_z w64 n) ≡ n
read_num n h = to_z-of_z w64 n (fits_signed_from_abs w64 n h)

pub read_den : (d : ℕ) → d < 2 ^ 63 → to_z w64 d ≡ pos d
read_den d h = omega (arith, ints)

-- an answer under one condition is an answer under that and a second that holds
pub also : {A : Type 0} (P Q : Type 0) (r : Option A) (v : A) → Q → SomeIff r P v → SomeIff r (Q × P) v
also P Q None v q never = λ both. never both.1
also P Q (Some x) v q some = ((q, some.0), some.1)
