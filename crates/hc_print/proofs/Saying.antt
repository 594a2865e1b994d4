-- Tokens that say what is printed.
use Rattle.std.proofs.Common.{◌≡◌, List, [], ◌∷◌}
use Rattle.hc_frac.specs.declared.decimal.Decimal.{Decimal}
use Rattle.hc_token.specs.declared.kind.Kind.TheVariants as k
use Rattle.hc_token.specs.declared.token.Lexeme.TheVariants as lex
use Rattle.hc_token.specs.declared.token.Token.{Token}
use Rattle.hc_token.specs.Lexemes.{kind_of}
use Rattle.hc_print.specs.Lexemes.{Lexeme, Lexemes, fixed, named, rated, numbered}

-- a token says a lexeme
abbrev pub Is : Lexeme → Token → Type 0
Is (fixed one) t = kind_of t.lexeme ≡ k.Fixed one
Is (named w) t = t.lexeme ≡ lex.Name w
Is (rated w) t = t.lexeme ≡ lex.Rate w
Is (numbered digits places) t = (d : Decimal) × (t.lexeme ≡ lex.Number d) × (d.digits ≡ digits) × (d.places ≡ places)

-- the first of the tokens says a lexeme, and the others are as they are to be
pub record Next (l : Lexeme) (Rest : List Token → Type 0) (ts : List Token) : Type 0 where
  pub first : Token
  pub others : List Token
  pub all : ts ≡ first ∷ others
  pub is : Is l first
  pub rest : Rest others

-- nothing is left but the end of the text
pub record AtEnd (ts : List Token) : Type 0 where
  pub last : Token
  pub is_end : kind_of last.lexeme ≡ k.End
  pub alone : ts ≡ last ∷ []

-- tokens say the lexemes one by one, and the end of the text follows
abbrev pub Says : Lexemes → List Token → Type 0
Says [] ts = AtEnd ts
Says (l ∷ w) ts = Next l (Says w) ts
