-- What came of a source in a call, where the source tells the bytes that it has left.
use Rattle.std.specs.Prelude.{◌≡◌, ℕ, ◌<◌, ◌≤◌, List, length, Option, None, Some, ⊤}
use Rattle.std.specs.Io.KnownBytes.{Consumes, IsAtEnd}

-- the told bytes are these, all of them
abbrev pub IsAll : Option (List ℕ) → List ℕ → Type 0
IsAll None bytes = ⊤
IsAll (Some told) bytes = told ≡ bytes

-- these bytes came, and then the end
pub record ReadsAll (before after : Option (List ℕ)) (bytes : List ℕ) : Type 0 where
  pub came : Consumes before after bytes
  pub ended : IsAtEnd after

-- more than `most` bytes came
pub record ReadsPast (before after : Option (List ℕ)) (most : ℕ) : Type 0 where
  pub bytes : List ℕ
  pub came : Consumes before after bytes
  pub past : most < length bytes

-- no more than `most` bytes came
pub record ReadsWithin (before after : Option (List ℕ)) (most : ℕ) : Type 0 where
  pub bytes : List ℕ
  pub came : Consumes before after bytes
  pub within : length bytes ≤ most
