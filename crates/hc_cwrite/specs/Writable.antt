-- The programs that can be written: those that some tokens of texts say.
use Rattle.std.specs.Prelude.{◌≡◌, ◌⊎◌, ℕ, List, [], ◌∷◌, Some}
use Rattle.hc_cast.specs.declared.program.CProgram.{CProgram}
use Rattle.hc_ctoken.specs.declared.token.Lexeme.TheVariants as lex
use Rattle.hc_ctoken.specs.declared.token.Token.{Token}
use Rattle.hc_ctoken.specs.Pieces.{piece}
use Rattle.hc_cgrammar.specs.Unit.{IsProgramOf}

-- a token that some text begins with, or the end of a text
abbrev pub IsOfText : Token → Type 0
IsOfText t = (t.lexeme ≡ lex.End) ⊎ ((b : ℕ) × (z : List ℕ) × ((piece (b ∷ z)).lexeme ≡ Some t.lexeme))

abbrev pub AreOfTexts : List Token → Type 0
AreOfTexts [] = Unit {0}
AreOfTexts (t ∷ ts) = IsOfText t × AreOfTexts ts

-- the grammar has the program: some tokens, at any places, are those of a unit that keeps the limits and the rules on names, and it
-- is their program
pub record IsWritable (p : CProgram) : Type 0 where
  pub tokens : List Token
  pub of_texts : AreOfTexts tokens
  pub is_program : IsProgramOf tokens p
