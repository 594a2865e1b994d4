-- Sets of numbers as the bits of words.
use Rattle.std.specs.Prelude.{◌≡◌, ℕ, ◌/◌, ◌%◌, ◌<◌, Bool, true, false, ◌==◌, List, slice_index}
use Rattle.std.specs.Int.{bit_at}

-- whether bit i of a word is set
abbrev pub has : ℕ → ℕ → Bool
has word i = bit_at word i == 1

-- whether i is in the set: bit i mod 64 of word i / 64
abbrev pub is_in : List ℕ → ℕ → Bool
is_in words i = has (slice_index words (i / 64)) (i % 64)

-- k is the least number below n of which this is true
pub record IsLeast (n : ℕ) (f : ℕ → Bool) (k : ℕ) : Type 0 where
  pub there : k < n
  pub member : f k ≡ true
  pub first : (i : ℕ) → i < k → f i ≡ false
