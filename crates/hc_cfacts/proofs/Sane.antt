-- What each token of a text is: no number is above 2^63 - 1, and no function has the name of a primitive.
use Rattle.std.proofs.Common.{◌≡◌, ℕ, zero, suc, ◌-◌, ◌^◌, refl, true, false, Bool, cond, List, [], ◌∷◌, length, drop, Option, None, Some, codes, nat_eq, ℤ, pos, arith}
use Rattle.std.specs.Prelude.{IfSome, ◌&&◌, ◌==◌, nat_lt, take_while, slice_index}
use Rattle.std.specs.Char.{is_ascii_alphabetic, is_ascii_digit}
use Rattle.std.specs.List.{starts_with}
use Rattle.std.specs.Str.Parse.{digits_value}
use Rattle.std.proofs.lemmas.Bool.Decides.{nat_tests}
use Rattle.hc_frac.specs.declared.place.Place.{Place}
use Rattle.hc_frac.specs.Word.{word_byte}
use Rattle.hc_scan.specs.declared.piece.Piece.{Piece}
use Rattle.hc_scan.specs.Places.{after}
use Rattle.hc_scan.specs.Tokens as scan
use Rattle.hc_token.proofs.Either.{either}
use Rattle.hc_token.specs.declared.token.Lexeme as source
use Rattle.hc_token.specs.declared.token.Lexeme.TheVariants as src
use Rattle.hc_token.specs.Pieces.{is_blank}
use Rattle.hc_token.specs.Words as source_words
use Rattle.hc_cast.specs.declared.primitive.Primitive.{Primitive}
use Rattle.hc_cast.specs.Primitives.{primitive_named}
use Rattle.hc_ctoken.specs.declared.fixed.Fixed.{Fixed}
use Rattle.hc_ctoken.specs.declared.token.Lexeme.{Lexeme}
use Rattle.hc_ctoken.specs.declared.token.Lexeme.TheVariants as lex
use Rattle.hc_ctoken.specs.declared.token.Token.{Token}
use Rattle.hc_ctoken.specs.Kinds.{sign, keyword}
use Rattle.hc_ctoken.specs.Numbers.{greatest_number, is_padded, in_range, number_of}
use Rattle.hc_ctoken.specs.Words.{is_numeral, thread_number, thread, named, primitive_or_name, short_word, word}
use Rattle.hc_ctoken.specs.Strings.{said, quoted, other, is_word_or_none, in_quote, string_piece}
use Rattle.hc_ctoken.specs.Pieces.{gap, word_piece, number_piece, sign_piece, piece}
use Rattle.hc_ctoken.specs.Tokens.{token_at, tokens_from}

-- a number from 0 to 2^63 - 1
abbrev pub IsSmall : ℤ → Type 0
IsSmall n = (k : ℕ) × (n ≡ pos k) × (nat_lt k (2 ^ 63) ≡ true)

abbrev pub IsSane : Lexeme → Type 0
IsSane (lex.Number n) = IsSmall n
IsSane (lex.Function w) = primitive_named w ≡ None
IsSane _ = Unit {0}

abbrev pub AreSane : List Token → Type 0
AreSane [] = Unit {0}
AreSane (t ∷ ts) = IsSane t.lexeme × AreSane ts

-- ---- words

thread_sane : (w : List ℕ) → IsSane (thread w)
thread_sane w = either IsSane (starts_with nat_eq w (codes "t") && is_numeral (drop 1 w)) (lex.Thread (thread_number (drop 1 w))) lex.Other tt tt

named_sane : (w : List ℕ) → primitive_named w ≡ None → IsSane (named w)
named_sane w e =
    either IsSane (starts_with nat_eq w (codes "a_")) (lex.Array w) _ tt
    (either IsSane (starts_with nat_eq w (codes "f_")) (lex.Function w) _ e
    (either IsSane (starts_with nat_eq w (codes "v_")) (lex.Local w) (thread w) tt (thread_sane w)))

primitive_sane : (o : Option Primitive) (w : List ℕ) → primitive_named w ≡ o → IsSane (primitive_or_name o w)
primitive_sane (Some p) w e = tt
primitive_sane None w e = named_sane w e

short_sane : (o : Option Fixed) (w : List ℕ) → IsSane (short_word o w)
short_sane (Some one) w = tt
short_sane None w = primitive_sane (primitive_named w) w refl

word_sane : (w : List ℕ) → IsSane (word w)
unfolding word
word_sane w = either IsSane (nat_lt 64 (length w)) lex.LongWord (short_word (keyword w) w) tt (short_sane (keyword w) w)

-- ---- numbers

below : (n : ℕ) → nat_lt greatest_number n ≡ false → nat_lt n (2 ^ 63) ≡ true
below n e = grind (arith, nat_tests)

in_range_sane : (padded : Bool) (n : ℕ) → nat_lt greatest_number n ≡ false → IsSane (in_range padded n)
in_range_sane true n e = tt
in_range_sane false n e = (n, refl, below n e)

number_by : (padded : Bool) (n : ℕ) (b : Bool) → nat_lt greatest_number n ≡ b → IsSane (cond b lex.LargeNumber (in_range padded n))
number_by padded n true e = tt
number_by padded n false e = in_range_sane padded n e

number_sane : (padded : Bool) (n : ℕ) → IsSane (number_of padded n)
unfolding number_of
number_sane padded n = number_by padded n (nat_lt greatest_number n) refl

-- ---- pieces

said_sane : (l : source.Lexeme) → IsSane (said l)
said_sane (src.Name w) = tt
said_sane src.LongWord = tt
said_sane _ = tt

quoted_sane : (w : List ℕ) → IsSane (quoted w)
quoted_sane [] = tt
quoted_sane (b ∷ w) = said_sane (source_words.word (b ∷ w))

abbrev IsSanePiece : Piece Lexeme → Type 0
IsSanePiece q = IfSome q.lexeme IsSane

string_sane : (z : List ℕ) → IsSanePiece (string_piece z)
string_sane z =
    let w = take_while word_byte z in
    either IsSanePiece (is_word_or_none w && in_quote (drop (length w) z)) _ other (quoted_sane w) tt

sign_sane : (o : Option (Fixed × ℕ)) → IsSanePiece (sign_piece o)
sign_sane None = tt
sign_sane (Some s) = tt

piece_sane : (z : List ℕ) → IsSanePiece (piece z)
unfolding piece
piece_sane z =
    let b = slice_index z 0 in
    let w = take_while word_byte z in
    let ds = take_while is_ascii_digit z in
    either IsSanePiece (is_blank b) gap _ tt
    (either IsSanePiece (is_ascii_alphabetic b) (word_piece w) _ (word_sane w)
    (either IsSanePiece (is_ascii_digit b) (number_piece ds) _ (number_sane (is_padded ds) (digits_value 10 ds))
    (either IsSanePiece (b == 34) (string_piece (drop 1 z)) (sign_piece (sign z)) (string_sane (drop 1 z)) (sign_sane (sign z)))))

-- ---- texts

with_sane : (p : Place) (o : Option Lexeme) (ts : List Token) → IfSome o IsSane → AreSane ts
    → AreSane (scan.with_piece piece token_at lex.End p o ts)
with_sane p None ts h g = g
with_sane p (Some l) ts h g = (h, g)

scanned : (z : List ℕ) (before : ℕ) (p : Place) → AreSane (scan.tokens_from piece token_at lex.End before p z)
scanned [] before p = (tt, tt)
scanned (b ∷ z) (suc before) p = scanned z before (after p b)
scanned (b ∷ z) zero p = with_sane p (piece (b ∷ z)).lexeme _ (piece_sane (b ∷ z)) (scanned z ((piece (b ∷ z)).len - 1) (after p b))

pub tokens_sane : (p : Place) (z : List ℕ) → AreSane (tokens_from p z)
tokens_sane p z = scanned z 0 p
