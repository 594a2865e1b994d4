-- The greatest common divisor, as Euclid finds it.
use Rattle.std.specs.Prelude.{ℕ, zero, suc, ◌%◌}

-- what Euclid's divisions of a by b end with, after so many steps at most
unfoldable pub gcd_within : ℕ → ℕ → ℕ → ℕ
gcd_within zero a b = a
gcd_within (suc steps) a zero = a
gcd_within (suc steps) a (suc b) = gcd_within steps (suc b) (a % suc b)

-- the greatest common divisor of a and b; of 0 and b it is b
unfoldable pub gcd : ℕ → ℕ → ℕ
unfolding gcd_within
gcd a b = gcd_within (suc b) a b
