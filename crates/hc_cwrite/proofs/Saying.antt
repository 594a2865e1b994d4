-- Tokens that say what is written.
use Rattle.std.proofs.Common.{◌≡◌, List, [], ◌∷◌, ap, sym, ◌∙◌}
use Rattle.hc_ctoken.specs.declared.token.Lexeme.{Lexeme}
use Rattle.hc_ctoken.specs.declared.token.Lexeme.TheVariants as lex
use Rattle.hc_ctoken.specs.declared.token.Token.{Token}
use Rattle.hc_cspell.specs.Tokens.{Lexemes}

-- the first of the tokens says a lexeme, and the others are as they are to be
pub record Next (l : Lexeme) (Rest : List Token → Type 0) (ts : List Token) : Type 0 where
  pub first : Token
  pub others : List Token
  pub all : ts ≡ first ∷ others
  pub is : first.lexeme ≡ l
  pub rest : Rest others

-- nothing is left but the end of the text
pub record AtEnd (ts : List Token) : Type 0 where
  pub last : Token
  pub is_end : last.lexeme ≡ lex.End
  pub alone : ts ≡ last ∷ []

-- tokens say the lexemes one by one, and the end of the text follows
abbrev pub Says : Lexemes → List Token → Type 0
Says [] ts = AtEnd ts
Says (l ∷ w) ts = Next l (Says w) ts

-- one token more in front
pub front : {l : Lexeme} {R : List Token → Type 0} {ts vs : List Token} (h : Next l R ts) → vs ≡ h.others → h.first ∷ vs ≡ ts
front h e = ap (λ us. h.first ∷ us) e ∙ sym h.all
