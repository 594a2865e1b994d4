-- The tokens of a text that begins at a place, as a unit does behind the prelude.
use Rattle.std.specs.Prelude.{ℕ, Bool, true, false, List}
use Rattle.hc_frac.specs.declared.place.Place.{Place}
use Rattle.hc_scan.specs.Tokens as scan
use Rattle.hc_ctoken.specs.declared.kind.Kind.{Kind}
use Rattle.hc_ctoken.specs.declared.kind.Kind.TheVariants as k
use Rattle.hc_ctoken.specs.declared.token.Lexeme.{Lexeme}
use Rattle.hc_ctoken.specs.declared.token.Lexeme.TheVariants as lex
use Rattle.hc_ctoken.specs.declared.token.Token.{Token}
use Rattle.hc_ctoken.specs.Lexemes as lexemes
use Rattle.hc_ctoken.specs.Pieces.{piece}

-- a token that begins here
abbrev pub token_at : Place → Lexeme → Token
token_at p l = record { place = p; lexeme = l }

-- the kind of a token
abbrev pub kind_of : Token → Kind
kind_of t = lexemes.kind_of t.lexeme

-- the tokens of a text that begins here; the last is the end of the text, and no other is
abbrev pub tokens_from : Place → List ℕ → List Token
tokens_from = scan.tokens_from piece token_at lex.End 0

-- whether a token is the end of a text
abbrev pub is_end_kind : Kind → Bool
is_end_kind k.End = true
is_end_kind _ = false

abbrev pub is_end : Token → Bool
is_end t = is_end_kind (kind_of t)
