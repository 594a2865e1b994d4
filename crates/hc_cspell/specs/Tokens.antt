-- How tokens are written: each with one blank behind it.
use Rattle.std.specs.Prelude.{ℕ, pos, Bool, true, false, List, [], ◌∷◌, ◌++◌, decimal, unsigned_abs}
use Rattle.hc_cast.specs.Primitives as primitives
use Rattle.hc_ctoken.specs.declared.fixed.Fixed.{Fixed}
use Rattle.hc_ctoken.specs.declared.fixed.Fixed.TheVariants as fix
use Rattle.hc_ctoken.specs.declared.token.Lexeme.{Lexeme}
use Rattle.hc_ctoken.specs.declared.token.Lexeme.TheVariants as lex
use Rattle.hc_ctoken.specs.Kinds.{text_of}

-- tokens without their places, one after another
abbrev pub Lexemes : Type 0
Lexemes = List Lexeme

-- a keyword or a sign; a number
abbrev pub fixed : Fixed → Lexeme
fixed one = lex.Fixed one

abbrev pub numbered : ℕ → Lexeme
numbered n = lex.Number (pos n)

-- a keyword or a sign where it is needed, in front of w
abbrev pub only_if : Bool → Fixed → Lexemes → Lexemes
only_if true one w = fixed one ∷ w
only_if false one w = w

-- what stands behind a keyword or a sign: a newline behind these three, and a space behind all others
abbrev pub blank_behind : Fixed → ℕ
blank_behind fix.Semicolon = 10
blank_behind fix.OpenCurly = 10
blank_behind fix.CloseCurly = 10
blank_behind _ = 32

-- a token and the blank behind it, in front of z; what no unit has isn't written
abbrev pub token_text : Lexeme → List ℕ → List ℕ
token_text (lex.Fixed one) z = text_of one ++ blank_behind one ∷ z
token_text (lex.Array w) z = w ++ 32 ∷ z
token_text (lex.Function w) z = w ++ 32 ∷ z
token_text (lex.Local w) z = w ++ 32 ∷ z
token_text (lex.Thread n) z = 116 ∷ (decimal n ++ 32 ∷ z)
token_text (lex.Primitive p) z = primitives.text_of p ++ 32 ∷ z
token_text (lex.Number n) z = decimal (unsigned_abs n) ++ 32 ∷ z
token_text lex.EmptyText z = 34 ∷ 34 ∷ 32 ∷ z
token_text (lex.Text w) z = 34 ∷ (w ++ 34 ∷ 32 ∷ z)
token_text lex.End z = z
token_text lex.LongWord z = z
token_text lex.LargeNumber z = z
token_text (lex.Padded n) z = z
token_text lex.Other z = z

-- the bytes of all tokens
unfoldable pub written : Lexemes → List ℕ
written [] = []
written (l ∷ w) = token_text l (written w)
