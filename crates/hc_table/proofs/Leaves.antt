-- What tokens of a kind say: from the kind to what is said, and back.
use Rattle.std.proofs.Common.{◌≡◌, ℕ, List, refl, ap}
use Rattle.hc_frac.specs.declared.decimal.Decimal.{Decimal}
use Rattle.hc_token.specs.declared.fixed.Fixed.{Fixed}
use Rattle.hc_token.specs.declared.kind.Kind.TheVariants as k
use Rattle.hc_token.specs.declared.token.Lexeme.{Lexeme}
use Rattle.hc_token.specs.declared.token.Lexeme.TheVariants as lex
use Rattle.hc_token.specs.declared.token.Token.{Token}
use Rattle.hc_token.specs.Lexemes.{kind_of}
use Rattle.hc_ast.specs.Leaves.{OfName, OfRate, OfNumber}

pub name_kind : (x : OfName) → kind_of x.0.lexeme ≡ k.Name
name_kind x = ap kind_of x.2

pub rate_kind : (x : OfRate) → kind_of x.0.lexeme ≡ k.Rate
rate_kind x = ap kind_of x.2

pub number_kind : (x : OfNumber) → kind_of x.0.lexeme ≡ k.Number
number_kind x = ap kind_of x.2

pub name_said : (l : Lexeme) → kind_of l ≡ k.Name → (w : List ℕ) × (l ≡ lex.Name w)
name_said (lex.Name w) i = (w, refl)
name_said _ i = absurd (cc)

pub rate_said : (l : Lexeme) → kind_of l ≡ k.Rate → (w : List ℕ) × (l ≡ lex.Rate w)
rate_said (lex.Rate w) i = (w, refl)
rate_said _ i = absurd (cc)

pub number_said : (l : Lexeme) → kind_of l ≡ k.Number → (d : Decimal) × (l ≡ lex.Number d)
number_said (lex.Number d) i = (d, refl)
number_said _ i = absurd (cc)

pub fixed_said : (one : Fixed) (l : Lexeme) → kind_of l ≡ k.Fixed one → l ≡ lex.Fixed one
fixed_said one (lex.Fixed other) i = cc
fixed_said one _ i = absurd (cc)

-- a token of the kind, with what it says
abbrev pub a_name : (t : Token) → kind_of t.lexeme ≡ k.Name → OfName
a_name t i = let said = name_said t.lexeme i in (t, said.0, said.1)

abbrev pub a_rate : (t : Token) → kind_of t.lexeme ≡ k.Rate → OfRate
a_rate t i = let said = rate_said t.lexeme i in (t, said.0, said.1)

abbrev pub a_number : (t : Token) → kind_of t.lexeme ≡ k.Number → OfNumber
a_number t i = let said = number_said t.lexeme i in (t, said.0, said.1)
