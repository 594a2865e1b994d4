-- Which rational numbers fit a fraction of 128 bits: a sign and two numbers of 63 bits.
use Rattle.std.specs.Prelude.{Bool, ◌&&◌, nat_lt, ◌^◌, unsigned_abs, IsTrue}
use Rattle.hc_rational.specs.Rational.{Rational}

-- the magnitude of the numerator and the denominator are at most 2 ^ 63 - 1
abbrev pub fits : Rational → Bool
fits q = nat_lt (unsigned_abs q.num) (2 ^ 63) && nat_lt q.den (2 ^ 63)

-- q is a fraction that fits
abbrev pub IsFrac : Rational → Type 0
IsFrac q = IsTrue (fits q)
