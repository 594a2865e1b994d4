-- What a text is made of when it is printed: tokens by what they say.
use Rattle.std.specs.Prelude.{ℕ, ℤ, Bool, true, false, List, ◌∷◌}
use Rattle.hc_token.specs.declared.fixed.Fixed.{Fixed}
use Rattle.hc_ast.specs.Bare.{Word}

-- a keyword or a sign, a name, a rate by its variable, or a number by its digits and places
pub data Lexeme : Type 0 where
  fixed : Fixed → Lexeme
  named : Word → Lexeme
  rated : Word → Lexeme
  numbered : ℤ → ℕ → Lexeme

-- one after another
abbrev pub Lexemes : Type 0
Lexemes = List Lexeme

-- a keyword or a sign where it is needed, in front of w
abbrev pub only_if : Bool → Fixed → Lexemes → Lexemes
only_if true one w = fixed one ∷ w
only_if false one w = w
