-- What a token can say: a lexeme that is read as it is spelled.
use Rattle.std.specs.Prelude.{◌≡◌, ◌⊎◌, ◌≤◌, ℕ, ℤ, pos, true, List, [], ◌∷◌, slice_index}
use Rattle.std.specs.List.{list_all}
use Rattle.std.specs.Char.{is_ascii_alphabetic}
use Rattle.hc_frac.specs.Word.{word_byte}
use Rattle.hc_ctoken.specs.declared.token.Lexeme.{Lexeme}
use Rattle.hc_ctoken.specs.declared.token.Lexeme.TheVariants as lex
use Rattle.hc_ctoken.specs.declared.token.Token.{Token}
use Rattle.hc_ctoken.specs.Numbers.{greatest_number}
use Rattle.hc_ctoken.specs.Strings.{quoted}
use Rattle.hc_ctoken.specs.Words.{word}

-- bytes that are a word, and read as this
pub record IsReadAs (w : List ℕ) (l : Lexeme) : Type 0 where
  pub letter_first : is_ascii_alphabetic (slice_index w 0) ≡ true
  pub all : list_all word_byte w ≡ true
  pub reads : word w ≡ l

-- bytes that are a name between quotes
pub record IsQuoted (w : List ℕ) : Type 0 where
  pub letter_first : is_ascii_alphabetic (slice_index w 0) ≡ true
  pub all : list_all word_byte w ≡ true
  pub reads : quoted w ≡ lex.Text w

-- a number that isn't too large
abbrev pub IsInRange : ℤ → Type 0
IsInRange n = (k : ℕ) × (n ≡ pos k) × (k ≤ greatest_number)

-- names are read as they are written, numbers and threads are in range; what no unit has isn't said
abbrev pub IsSayable : Lexeme → Type 0
IsSayable (lex.Fixed one) = Unit {0}
IsSayable (lex.Array w) = IsReadAs w (lex.Array w)
IsSayable (lex.Function w) = IsReadAs w (lex.Function w)
IsSayable (lex.Local w) = IsReadAs w (lex.Local w)
IsSayable (lex.Thread n) = n ≤ 18446744073709551615
IsSayable (lex.Primitive p) = Unit {0}
IsSayable (lex.Number n) = IsInRange n
IsSayable lex.EmptyText = Unit {0}
IsSayable (lex.Text w) = IsQuoted w
IsSayable lex.End = ⊥
IsSayable lex.LongWord = ⊥
IsSayable lex.LargeNumber = ⊥
IsSayable (lex.Padded n) = ⊥
IsSayable lex.Other = ⊥

-- tokens of which each can say what it says, or is the end of a text
abbrev pub AreSayable : List Token → Type 0
AreSayable [] = Unit {0}
AreSayable (t ∷ ts) = ((t.lexeme ≡ lex.End) ⊎ IsSayable t.lexeme) × AreSayable ts
