-- What is a unit, which program it is, and where a text that is none is refused.
use Rattle.std.specs.Prelude.{◌≡◌, ℕ, List}
use Rattle.hc_frac.specs.declared.place.Place.{Place}
use Rattle.hc_grammar.specs.Texts as texts
use Rattle.hc_grammar.specs.Reader.{Within}
use Rattle.hc_grammar.specs.Refusals.{IsRefusedAt}
use Rattle.hc_cast.specs.declared.program.CProgram.{CProgram}
use Rattle.hc_ctoken.specs.declared.token.Token.{Token}
use Rattle.hc_ctoken.specs.Tokens.{tokens_from}
use Rattle.hc_cgrammar.specs.declared.flaw.Flaw.{Flaw}
use Rattle.hc_cgrammar.specs.Leaves.{Spelled}
use Rattle.hc_cgrammar.specs.Units.{Whole}
use Rattle.hc_cgrammar.specs.UnitRoles.{whole}
use Rattle.hc_cgrammar.specs.UnitTrees.{whole_tree}
use Rattle.hc_cgrammar.specs.State.{opening}
use Rattle.hc_cgrammar.specs.Rules.{reader}

-- w is how some unit is spelled
abbrev pub IsSpelling : Spelled → Type 0
IsSpelling w = (x : Whole) × (w ≡ whole x)

-- the tokens are those of a unit that keeps the limits and the rules on names, and this is its program
pub record IsProgramOf (ts : List Token) (p : CProgram) : Type 0 where
  pub written : Whole
  pub tokens : texts.tokens_of (whole written) ≡ ts
  pub within : Within reader (whole written) opening
  pub program : whole_tree written ≡ p

-- the bytes that begin at a place are a unit, and this is its program
abbrev pub IsUnit : Place → List ℕ → CProgram → Type 0
IsUnit from bytes p = IsProgramOf (tokens_from from bytes) p

-- the bytes that begin at a place are refused at this place: there is the first token with which something is wrong, and this is
-- wrong first
abbrev pub IsRefused : Place → List ℕ → Flaw → Place → Type 0
IsRefused from bytes flaw place = IsRefusedAt reader IsSpelling opening (λ t. t.place) (tokens_from from bytes) (flaw, place)
