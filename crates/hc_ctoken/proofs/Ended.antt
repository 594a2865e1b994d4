-- The tokens of a text end once.
use Rattle.std.proofs.Common.{◌≡◌, ℕ, true, false, Bool, cond, List, [], ◌∷◌, length, drop, Option, None, Some, refl, codes, nat_eq, ℤ, pos, zero}
use Rattle.std.specs.Prelude.{IfSome, ◌&&◌, ◌==◌, nat_lt, take_while, slice_index}
use Rattle.std.specs.Char.{is_ascii_alphabetic, is_ascii_digit}
use Rattle.std.specs.List.{starts_with}
use Rattle.std.specs.Cmp.Lexicographic.{pointwise}
use Rattle.std.specs.Str.Parse.{digits_value}
use Rattle.hc_frac.specs.declared.place.Place.{Place}
use Rattle.hc_frac.specs.Word.{word_byte}
use Rattle.hc_scan.specs.declared.piece.Piece.{Piece}
use Rattle.hc_scan.specs.Tokens.{TellsEnd}
use Rattle.hc_token.proofs.Either.{either}
use Rattle.hc_token.specs.declared.token.Lexeme as source
use Rattle.hc_token.specs.declared.token.Lexeme.TheVariants as src
use Rattle.hc_token.specs.Pieces.{is_blank}
use Rattle.hc_token.specs.Words as source_words
use Rattle.hc_cast.specs.declared.primitive.Primitive.{Primitive}
use Rattle.hc_cast.specs.Primitives.{primitive_named}
use Rattle.hc_ctoken.specs.declared.fixed.Fixed.{Fixed}
use Rattle.hc_ctoken.specs.declared.kind.Kind.TheVariants as k
use Rattle.hc_ctoken.specs.declared.token.Lexeme.{Lexeme}
use Rattle.hc_ctoken.specs.declared.token.Lexeme.TheVariants as lex
use Rattle.hc_ctoken.specs.Kinds.{sign, keyword}
use Rattle.hc_ctoken.specs.Lexemes.{number_kind, kind_of}
use Rattle.hc_ctoken.specs.Numbers.{greatest_number, is_padded, in_range, number_of}
use Rattle.hc_ctoken.specs.Words.{is_numeral, thread_number, thread, named, primitive_or_name, short_word, word}
use Rattle.hc_ctoken.specs.Strings.{said, quoted, other, is_word_or_none, in_quote, string_piece}
use Rattle.hc_ctoken.specs.Pieces.{gap, word_piece, number_piece, sign_piece, piece}
use Rattle.hc_ctoken.specs.Tokens.{token_at, is_end_kind, is_end}

-- a token is no end
abbrev IsOn : Lexeme → Type 0
IsOn l = is_end_kind (kind_of l) ≡ false

abbrev GoesOn : Option Lexeme → Type 0
GoesOn o = IfSome o IsOn

local_goes_on : (b : Bool) → is_end_kind (cond b k.Unused k.Local) ≡ false
local_goes_on true = refl
local_goes_on false = refl

number_kind_goes_on : (n : ℤ) → is_end_kind (number_kind n) ≡ false
number_kind_goes_on (pos zero) = refl
number_kind_goes_on _ = refl

thread_goes_on : (w : List ℕ) → IsOn (thread w)
thread_goes_on w =
    either IsOn (starts_with nat_eq w (codes "t") && is_numeral (drop 1 w)) (lex.Thread (thread_number (drop 1 w))) lex.Other refl refl

named_goes_on : (w : List ℕ) → IsOn (named w)
named_goes_on w =
    either IsOn (starts_with nat_eq w (codes "a_")) (lex.Array w) _ refl
    (either IsOn (starts_with nat_eq w (codes "f_")) (lex.Function w) _ refl
    (either IsOn (starts_with nat_eq w (codes "v_")) (lex.Local w) (thread w) (local_goes_on (pointwise nat_eq w (codes "v_u")))
    (thread_goes_on w)))

primitive_goes_on : (o : Option Primitive) (w : List ℕ) → IsOn (primitive_or_name o w)
primitive_goes_on (Some p) w = refl
primitive_goes_on None w = named_goes_on w

short_goes_on : (o : Option Fixed) (w : List ℕ) → IsOn (short_word o w)
short_goes_on (Some one) w = refl
short_goes_on None w = primitive_goes_on (primitive_named w) w

word_goes_on : (w : List ℕ) → IsOn (word w)
unfolding word
word_goes_on w =
    either IsOn (nat_lt 64 (length w)) lex.LongWord (short_word (keyword w) w) refl (short_goes_on (keyword w) w)

in_range_goes_on : (padded : Bool) (n : ℕ) → IsOn (in_range padded n)
in_range_goes_on padded n = either IsOn padded (lex.Padded (pos n)) (lex.Number (pos n)) refl (number_kind_goes_on (pos n))

number_goes_on : (padded : Bool) (n : ℕ) → IsOn (number_of padded n)
unfolding number_of
number_goes_on padded n =
    either IsOn (nat_lt greatest_number n) lex.LargeNumber (in_range padded n) refl (in_range_goes_on padded n)

said_goes_on : (l : source.Lexeme) → IsOn (said l)
said_goes_on (src.Name w) = refl
said_goes_on src.LongWord = refl
said_goes_on _ = refl

quoted_goes_on : (w : List ℕ) → IsOn (quoted w)
quoted_goes_on [] = refl
quoted_goes_on (b ∷ w) = said_goes_on (source_words.word (b ∷ w))

abbrev PieceGoesOn : Piece Lexeme → Type 0
PieceGoesOn q = GoesOn q.lexeme

string_goes_on : (z : List ℕ) → PieceGoesOn (string_piece z)
string_goes_on z =
    let w = take_while word_byte z in
    either PieceGoesOn (is_word_or_none w && in_quote (drop (length w) z)) _ other (quoted_goes_on w) refl

sign_goes_on : (o : Option (Fixed × ℕ)) → PieceGoesOn (sign_piece o)
sign_goes_on None = refl
sign_goes_on (Some s) = refl

piece_goes_on : (z : List ℕ) → PieceGoesOn (piece z)
unfolding piece
piece_goes_on z =
    let b = slice_index z 0 in
    let w = take_while word_byte z in
    let ds = take_while is_ascii_digit z in
    either PieceGoesOn (is_blank b) gap _ tt
    (either PieceGoesOn (is_ascii_alphabetic b) (word_piece w) _ (word_goes_on w)
    (either PieceGoesOn (is_ascii_digit b) (number_piece ds) _ (number_goes_on (is_padded ds) (digits_value 10 ds))
    (either PieceGoesOn (b == 34) (string_piece (drop 1 z)) (sign_piece (sign z)) (string_goes_on (drop 1 z)) (sign_goes_on (sign z)))))

before_end : (o : Option Lexeme) (p : Place) → GoesOn o → IfSome o (λ l. is_end (token_at p l) ≡ false)
before_end None p h = tt
before_end (Some l) p h = h

pub tells_end : TellsEnd piece token_at lex.End is_end
tells_end = record { at_end = λ p. refl; before = λ z p. before_end (piece z).lexeme p (piece_goes_on z) }
