-- The tokens of a text end once.
use Rattle.std.proofs.Common.{◌≡◌, ◌≢◌, ℕ, ◌+◌, true, false, Bool, List, [], ◌∷◌, ◌++◌, length, drop, Option, None, Some, refl, sym, ap, ◌∙◌, nat_eq}
use Rattle.std.specs.Prelude.{IfSome, not, ◌==◌, nat_lt, take_while, slice_index, find}
use Rattle.std.specs.Char.{is_ascii_alphabetic, is_ascii_digit}
use Rattle.std.specs.List.{starts_with, prefix_len}
use Rattle.std.specs.Cmp.Lexicographic.{pointwise}
use Rattle.std.specs.Str.Parse.{digits_value}
use Rattle.std.proofs.lemmas.Bool.{false≢true}
use Rattle.hc_frac.specs.declared.place.Place.{Place}
use Rattle.hc_frac.specs.Word.{word_byte}
use Rattle.hc_grammar.specs.Ends.{Ends}
use Rattle.hc_scan.specs.declared.piece.Piece.{Piece}
use Rattle.hc_scan.specs.Tokens.{TellsEnd}
use Rattle.hc_scan.proofs.Passing as scan
use Rattle.hc_token.specs.declared.fixed.Fixed.{Fixed}
use Rattle.hc_token.specs.declared.kind.Kind.{Kind}
use Rattle.hc_token.specs.declared.kind.Kind.TheVariants as k
use Rattle.hc_token.specs.declared.token.Lexeme.{Lexeme}
use Rattle.hc_token.specs.declared.token.Lexeme.TheVariants as lex
use Rattle.hc_token.specs.declared.token.Token.{Token}
use Rattle.hc_token.specs.Kinds.{sign, keyword}
use Rattle.hc_token.specs.Lexemes.{kind_of}
use Rattle.hc_token.specs.Words.{word, short_word, before_dot, is_name, ends_in_dot, front_of}
use Rattle.hc_token.specs.Decimals.{Ranged, fits, unfit}
use Rattle.hc_token.specs.Numbers.{front_digits, places_digits, said, number_of}
use Rattle.hc_token.specs.Pieces.{is_blank, in_comment, gap, word_piece, number_piece, sign_piece, piece}
use Rattle.hc_token.specs.Tokens.{token_at, tokens_from, AreEnded}
use Rattle.hc_token.specs.Ranged.{ranged}
use Rattle.hc_token.proofs.Either.{either}

-- whether a kind isn't that of the end
abbrev pub goes_on : Kind → Bool
goes_on k.End = false
goes_on kind = true

-- a token is no end
abbrev pub IsOn : Lexeme → Type 0
IsOn l = goes_on (kind_of l) ≡ true

abbrev pub GoesOn : Option Lexeme → Type 0
GoesOn o = IfSome o IsOn

short_goes_on : (o : Option Fixed) (w : List ℕ) → IsOn (short_word o w)
short_goes_on (Some one) w = refl
short_goes_on None w =
    let front = front_of w in
    either IsOn (ends_in_dot w) (before_dot front) (lex.Name w)
    (either IsOn (is_name front) (lex.Rate front) lex.Other refl refl) refl

word_goes_on : (w : List ℕ) → IsOn (word w)
unfolding word
word_goes_on w =
    either IsOn (nat_lt 64 (length w)) lex.LongWord (short_word (keyword w) w) refl (short_goes_on (keyword w) w)

said_goes_on : {digits places : ℕ} (r : Ranged digits places) → IsOn (said r)
said_goes_on (fits e d f g) = refl
said_goes_on (unfit e) = refl

number_goes_on : (digits places : ℕ) → IsOn (number_of digits places)
unfolding number_of
number_goes_on digits places = said_goes_on (ranged digits places)

sign_goes_on : (o : Option (Fixed × ℕ)) → GoesOn (sign_piece o).lexeme
sign_goes_on None = refl
sign_goes_on (Some s) = refl

pub piece_goes_on : (z : List ℕ) → GoesOn (piece z).lexeme
unfolding piece
piece_goes_on z =
    let P : Piece Lexeme → Type 0 = λ q. GoesOn q.lexeme in
    let b = slice_index z 0 in
    let w = take_while word_byte z in
    let number = number_goes_on (digits_value 10 (front_digits z ++ places_digits z)) (length (places_digits z)) in
    either P (is_blank b) (gap 1) _ tt
    (either P (b == 35) (gap (1 + prefix_len in_comment (drop 1 z))) _ tt
    (either P (is_ascii_alphabetic b) (word_piece w) _ (word_goes_on w)
    (either P (is_ascii_digit b) (number_piece z) (sign_piece (sign z)) number (sign_goes_on (sign z)))))

-- whether a token is the end of a text
is_end : Token → Bool
is_end t = not (goes_on (kind_of t.lexeme))

before_end : (o : Option Lexeme) (p : Place) → GoesOn o → IfSome o (λ l. is_end (token_at p l) ≡ false)
unfolding is_end
before_end None p h = tt
before_end (Some l) p h = ap not h

tells_end : TellsEnd piece token_at lex.End is_end
unfolding is_end
tells_end = record { at_end = λ p. refl; before = λ z p. before_end (piece z).lexeme p (piece_goes_on z) }

is_last : (kind : Kind) → not (goes_on kind) ≡ true → kind ≡ k.End
is_last k.End e = refl
is_last kind e = absurd (false≢true e)

is_other : (kind : Kind) → not (goes_on kind) ≡ false → kind ≢ k.End
is_other kind h e = false≢true (sym h ∙ ap (λ x. not (goes_on x)) e)

are_ended : (ts : List Token) → Ends is_end ts → AreEnded ts
unfolding is_end
are_ended [] e = e
are_ended (t ∷ []) e = is_last (kind_of t.lexeme) e
are_ended (t ∷ u ∷ ts) e = (is_other (kind_of t.lexeme) e.0, are_ended (u ∷ ts) e.1)

pub tokens_end : (n : ℕ) (p : Place) (z : List ℕ) → AreEnded (tokens_from n p z)
tokens_end n p z = are_ended (tokens_from n p z) (scan.tokens_end piece token_at lex.End is_end tells_end n p z)
