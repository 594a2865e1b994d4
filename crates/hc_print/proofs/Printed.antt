-- The tokens of what is written are what was written.
use Rattle.std.proofs.Common.{◌≡◌, ◌<◌, ℕ, List, ◌∷◌, ◌++◌, length, take, drop, fold, Some, refl, ap, ◌∙◌, arith, length-append}
use Rattle.std.proofs.Math.Seq.{drop-append_seam}
use Rattle.hc_frac.specs.declared.place.Place.{Place}
use Rattle.hc_token.specs.declared.fixed.Fixed.{Fixed}
use Rattle.hc_token.specs.declared.fixed.Fixed.TheVariants as fix
use Rattle.hc_token.specs.declared.token.Lexeme.{Lexeme as Said}
use Rattle.hc_token.specs.declared.token.Lexeme.TheVariants as lex
use Rattle.hc_token.specs.declared.token.Token.{Token}
use Rattle.hc_token.specs.Kinds.{keyword, keywords, sign, signs}
use Rattle.hc_token.specs.Words as words
use Rattle.hc_token.specs.Pieces.{piece}
use Rattle.hc_token.specs.Tokens.{after, token_at, with_piece, tokens_from}
use Rattle.hc_scan.proofs.Passing.{piece_passed}
use Rattle.hc_print.specs.Lexemes.{Lexeme, fixed}
use Rattle.hc_print.specs.Written.{token_text}
use Rattle.hc_print.proofs.Saying.{Is}

-- the tokens of a text are one that says a lexeme, and then those of z
pub record Reads (l : Lexeme) (z : List ℕ) (ts : List Token) : Type 0 where
  pub first : Token
  pub place : Place
  pub is : Is l first
  pub all : ts ≡ first ∷ tokens_from 0 place z

-- a blank is passed
pub space_passed : (p : Place) (z : List ℕ) → tokens_from 0 p (32 ∷ z) ≡ tokens_from 0 (after p 32) z
unfolding piece
space_passed p z = refl

-- a text that is one token up to its blank
pub one_token : (x z : List ℕ) (l : Said) (p : Place) → 0 < length x
    → (piece (x ++ 32 ∷ z)).len ≡ length x → (piece (x ++ 32 ∷ z)).lexeme ≡ Some l
    → tokens_from 0 p (x ++ 32 ∷ z) ≡ token_at p l ∷ tokens_from 0 (after (fold after p (take (length x) (x ++ 32 ∷ z))) 32) z
one_token x z l p some n is =
    let whole = x ++ 32 ∷ z in
    let has : 0 < length whole = simp length-append (omega arith) in
    piece_passed piece token_at lex.End p whole has (rw n (omega arith))
    ∙ ap (λ o. with_piece p o (tokens_from 0 (fold after p (take (piece whole).len whole)) (drop (piece whole).len whole))) is
    ∙ ap (λ k. token_at p l ∷ tokens_from 0 (fold after p (take k whole)) (drop k whole)) n
    ∙ ap (λ y. token_at p l ∷ tokens_from 0 (fold after p (take (length x) whole)) y) (drop-append_seam x (32 ∷ z))
    ∙ ap (λ ts. token_at p l ∷ ts) (space_passed (fold after p (take (length x) whole)) z)

-- a keyword or a sign
pub fixed_read : (one : Fixed) (p : Place) (z : List ℕ) → Reads (fixed one) z (tokens_from 0 p (token_text (fixed one) z))
unfolding piece keyword keywords sign signs words.word
fixed_read fix.Module p z = record { first = token_at p (lex.Fixed fix.Module); place = _; is = refl; all = refl }
fixed_read one p z = record { first = token_at p (lex.Fixed one); place = _; is = refl; all = refl }
