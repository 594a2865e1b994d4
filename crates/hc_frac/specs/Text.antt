-- The text of a fraction.
use Rattle.std.specs.Prelude.{ℕ, List, ◌∷◌, ◌++◌, ◌==◌, if◌then◌else◌, decimal}
use Rattle.std.specs.Fmt.{signed_decimal}
use Rattle.hc_rational.specs.Words.{Rational}

-- the numerator, with '-' in front where it is negative, and '/' and the denominator where that is not 1
abbrev pub text_of : Rational → List ℕ
text_of q = if q.den == 1 then signed_decimal q.num else (signed_decimal q.num ++ 47 ∷ decimal q.den)
