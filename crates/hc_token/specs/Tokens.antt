-- The tokens of a text, each with its place.
use Rattle.std.specs.Prelude.{◌≡◌, ◌≢◌, ℕ, List, [], ◌∷◌, Option}
use Rattle.hc_frac.specs.declared.place.Place.{Place}
use Rattle.hc_scan.specs.Tokens as scan
use Rattle.hc_token.specs.declared.kind.Kind.TheVariants as k
use Rattle.hc_token.specs.declared.token.Lexeme.{Lexeme}
use Rattle.hc_token.specs.declared.token.Lexeme.TheVariants as lex
use Rattle.hc_token.specs.declared.token.Token.{Token}
use Rattle.hc_token.specs.Lexemes.{kind_of}
use Rattle.hc_token.specs.Pieces.{piece}
pub use Rattle.hc_scan.specs.Places.{after, first_place}

-- a token that begins here
abbrev pub token_at : Place → Lexeme → Token
token_at p l = record { place = p; lexeme = l }

-- what stands behind the last byte of a text
abbrev pub end_at : Place → Token
end_at p = token_at p lex.End

-- a piece that begins here, if it is a token, in front of those that follow
abbrev pub with_piece : Place → Option Lexeme → List Token → List Token
with_piece = scan.with_piece piece token_at lex.End

-- the tokens of a text that begins here, of which the first bytes may belong to what began before it
abbrev pub tokens_from : ℕ → Place → List ℕ → List Token
tokens_from = scan.tokens_from piece token_at lex.End

-- the tokens of a text
abbrev pub tokens_of : List ℕ → List Token
tokens_of z = tokens_from 0 first_place z

-- the last token is the end of the text, and no other is
abbrev pub AreEnded : List Token → Type 0
AreEnded [] = ⊥
AreEnded (t ∷ []) = kind_of t.lexeme ≡ k.End
AreEnded (t ∷ u ∷ ts) = (kind_of t.lexeme ≢ k.End) × AreEnded (u ∷ ts)
