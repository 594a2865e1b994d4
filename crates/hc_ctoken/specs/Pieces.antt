-- What a text begins with: a blank or a token, as long as possible. There are no comments.
use Rattle.std.specs.Prelude.{ℕ, if◌then◌else◌, ◌==◌, List, length, drop, slice_index, take_while, Option, Some, None}
use Rattle.std.specs.Char.{is_ascii_alphabetic, is_ascii_digit}
use Rattle.hc_frac.specs.Word.{word_byte}
use Rattle.hc_scan.specs.declared.piece.Piece.{Piece}
use Rattle.hc_token.specs.Pieces.{is_blank}
use Rattle.hc_ctoken.specs.declared.fixed.Fixed.{Fixed}
use Rattle.hc_ctoken.specs.declared.token.Lexeme.{Lexeme}
use Rattle.hc_ctoken.specs.declared.token.Lexeme.TheVariants as lex
use Rattle.hc_ctoken.specs.Kinds.{sign}
use Rattle.hc_ctoken.specs.Words.{word}
use Rattle.hc_ctoken.specs.Numbers.{number}
use Rattle.hc_ctoken.specs.Strings.{other, string_piece}

-- a blank is no token
abbrev pub gap : Piece Lexeme
gap = record { len = 1; lexeme = None }

abbrev pub word_piece : List ℕ → Piece Lexeme
word_piece w = record { len = length w; lexeme = Some (word w) }

abbrev pub number_piece : List ℕ → Piece Lexeme
number_piece ds = record { len = length ds; lexeme = Some (number ds) }

-- a sign, or else one byte that begins no token
abbrev pub sign_piece : Option (Fixed × ℕ) → Piece Lexeme
sign_piece (Some s) = record { len = s.1; lexeme = Some (lex.Fixed s.0) }
sign_piece None = other

-- what stands at the front of a text, as long as possible
unfoldable pub piece : List ℕ → Piece Lexeme
piece z =
    let b = slice_index z 0 in
    if is_blank b then gap
    else (if is_ascii_alphabetic b then word_piece (take_while word_byte z)
    else (if is_ascii_digit b then number_piece (take_while is_ascii_digit z)
    else (if b == 34 then string_piece (drop 1 z)
    else sign_piece (sign z))))
