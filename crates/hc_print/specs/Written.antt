-- How tokens are written: each with one blank behind it.
use Rattle.std.specs.Prelude.{ℕ, List, [], ◌∷◌, ◌++◌, codes, unsigned_abs}
use Rattle.hc_token.specs.declared.fixed.Fixed.{Fixed}
use Rattle.hc_token.specs.declared.fixed.Fixed.TheVariants as fix
use Rattle.hc_token.specs.Kinds.{text_of}
use Rattle.hc_print.specs.Lexemes.{Lexeme, Lexemes, fixed, named, rated, numbered}
use Rattle.hc_print.specs.Numerals.{numeral}

-- what stands behind a token: a newline behind these six, and a space behind all others
abbrev pub blank_behind : Fixed → ℕ
blank_behind fix.Begin = 10
blank_behind fix.Semicolon = 10
blank_behind fix.EndBody = 10
blank_behind fix.EndModule = 10
blank_behind fix.System = 10
blank_behind fix.EndSystem = 10
blank_behind _ = 32

-- a token and the blank behind it, in front of z
abbrev pub token_text : Lexeme → List ℕ → List ℕ
token_text (fixed one) z = text_of one ++ blank_behind one ∷ z
token_text (named w) z = w ++ 32 ∷ z
token_text (rated w) z = w ++ codes "_dot " ++ z
token_text (numbered digits places) z = numeral (unsigned_abs digits) places (32 ∷ z)

-- the bytes of all tokens
unfoldable pub written : Lexemes → List ℕ
written [] = []
written (l ∷ w) = token_text l (written w)
