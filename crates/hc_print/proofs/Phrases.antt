-- A phrase at the front of tokens that say a canonical spelling.
use Rattle.std.proofs.Common.{◌≡◌, ℕ, ◌+◌, ◌≤◌, List, Option, None}
use Rattle.hc_grammar.specs.Texts as texts
use Rattle.hc_token.specs.declared.token.Lexeme.{Lexeme}
use Rattle.hc_token.specs.declared.token.Token.{Token}
use Rattle.hc_token.specs.Lexemes.{kind_of}
use Rattle.hc_ast.specs.Leaves.{Spelled}
use Rattle.hc_ast.specs.declared.flaw.Flaw.{Flaw}
use Rattle.hc_ast.specs.Counts.{unfit}
use Rattle.hc_print.specs.Lexemes.{Lexemes}
use Rattle.hc_print.proofs.Saying.{Says}
use Rattle.hc_print.proofs.Walking.{Walks}

-- what is wrong with a token as it stands
abbrev pub flaw_of : Lexeme → Option Flaw
flaw_of l = unfit (kind_of l)

-- nothing is
abbrev pub IsFit : Token → Type 0
IsFit t = flaw_of t.lexeme ≡ None

-- some tokens are those of a phrase that is b but for places, and then others that say w
pub record Phrase {X B : Type 0} (spell : X → Spelled → Spelled) (bare_of : X → B) (Goes : (Spelled → Spelled) → Type 0)
    (b : B) (w : Lexemes) (ts : List Token) : Type 0 where
  pub phrase : X
  pub others : List Token
  pub rest : Says w others
  pub tokens : (v : Spelled) → texts.tokens_of v ≡ others → texts.tokens_of (spell phrase v) ≡ ts
  pub bare : bare_of phrase ≡ b
  pub goes : Goes (spell phrase)

-- the limits are kept along it where there is room for so many open items and nodes
abbrev pub Counted : ℕ → ℕ → (Spelled → Spelled) → Type 0
Counted deep many f =
    (v : Spelled) (d n : ℕ) → d + deep ≤ 64 → n + many ≤ 200 → Walks IsFit v d (n + many) → Walks IsFit (f v) d n
