-- How a number is written: its digits as a number, with so many of them behind the point and at least one before it.
use Rattle.std.specs.Prelude.{ℕ, zero, suc, ◌+◌, ◌/◌, ◌%◌, ◌^◌, List, ◌∷◌, ◌++◌, decimal}

-- the last digits of n, so many of them, the first of these first, in front of z
abbrev pub last_digits : ℕ → ℕ → List ℕ → List ℕ
last_digits zero n z = z
last_digits (suc k) n z = (48 + n / 10 ^ k % 10) ∷ last_digits k n z

-- a point and the last digits of n, so many of them, or nothing where there are none, in front of z
abbrev pub behind_point : ℕ → ℕ → List ℕ → List ℕ
behind_point zero n z = z
behind_point (suc k) n z = 46 ∷ last_digits (suc k) n z

-- the number whose digits are n, with so many places, in front of z
abbrev pub numeral : ℕ → ℕ → List ℕ → List ℕ
numeral n places z = decimal (n / 10 ^ places) ++ behind_point places n z
