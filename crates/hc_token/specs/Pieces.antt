-- What a text begins with: a blank, a comment or a token, as long as possible.
use Rattle.std.specs.Prelude.{ℕ, ◌+◌, Bool, not, ◌||◌, if◌then◌else◌, ◌==◌, List, length, drop, slice_index, take_while, Option, Some, None}
use Rattle.std.specs.List.{prefix_len}
use Rattle.std.specs.Char.{is_ascii_alphabetic, is_ascii_digit}
use Rattle.hc_frac.specs.Word.{word_byte}
use Rattle.hc_scan.specs.declared.piece.Piece.{Piece}
use Rattle.hc_token.specs.declared.fixed.Fixed.{Fixed}
use Rattle.hc_token.specs.declared.token.Lexeme.{Lexeme}
use Rattle.hc_token.specs.declared.token.Lexeme.TheVariants as lex
use Rattle.hc_token.specs.Kinds.{sign}
use Rattle.hc_token.specs.Words.{word}
use Rattle.hc_token.specs.Numbers.{number, number_len}

-- a space, a tab, a carriage return or a newline
abbrev pub is_blank : ℕ → Bool
is_blank b = b == 32 || b == 9 || b == 13 || b == 10

-- a byte of a comment: any but a newline
abbrev pub in_comment : ℕ → Bool
in_comment b = not (b == 10)

-- blanks and comments are no token
abbrev pub gap : ℕ → Piece Lexeme
gap len = record { len = len; lexeme = None }

-- a word
abbrev pub word_piece : List ℕ → Piece Lexeme
word_piece w = record { len = length w; lexeme = Some (word w) }

-- the number at the front of a text
abbrev pub number_piece : List ℕ → Piece Lexeme
number_piece z = record { len = number_len z; lexeme = Some (number z) }

-- a sign, or else one byte that begins no token
abbrev pub sign_piece : Option (Fixed × ℕ) → Piece Lexeme
sign_piece (Some s) = record { len = s.1; lexeme = Some (lex.Fixed s.0) }
sign_piece None = record { len = 1; lexeme = Some lex.Other }

-- what stands at the front of a text, as long as possible
unfoldable pub piece : List ℕ → Piece Lexeme
piece z =
    let b = slice_index z 0 in
    if is_blank b then gap 1
    else (if b == 35 then gap (1 + prefix_len in_comment (drop 1 z))
    else (if is_ascii_alphabetic b then word_piece (take_while word_byte z)
    else (if is_ascii_digit b then number_piece z
    else sign_piece (sign z))))
