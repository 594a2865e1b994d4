-- Words, as a source text has them.
use Rattle.std.specs.Prelude.{◌≤◌, ℕ, Bool, ◌||◌, ◌==◌, List, length, slice_index, IsTrue}
use Rattle.std.specs.List.{list_all}
use Rattle.std.specs.Char.{is_ascii_alphabetic, is_ascii_alphanumeric}
use Rattle.hc_limits.specs.Limits.{most_word_bytes}

-- a letter, a digit or an underline
abbrev pub word_byte : ℕ → Bool
word_byte b = is_ascii_alphanumeric b || b == 95

-- a letter, and then letters, digits and underlines, within the limit of a word
pub record IsWord (bs : List ℕ) : Type 0 where
  pub letter_first : IsTrue (is_ascii_alphabetic (slice_index bs 0))
  pub all : IsTrue (list_all word_byte bs)
  pub short : length bs ≤ most_word_bytes
