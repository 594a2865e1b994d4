-- What is a source, which tree it is, and where a text that is none is refused.
use Rattle.std.specs.Prelude.{◌≡◌, ℕ, List}
use Rattle.hc_frac.specs.declared.place.Place.{Place}
use Rattle.hc_grammar.specs.Texts as texts
use Rattle.hc_grammar.specs.Reader.{Within}
use Rattle.hc_grammar.specs.Refusals.{IsRefusedAt}
use Rattle.hc_token.specs.declared.token.Token.{Token}
use Rattle.hc_token.specs.Tokens.{tokens_of}
use Rattle.hc_ast.specs.declared.flaw.Flaw.{Flaw}
use Rattle.hc_ast.specs.declared.tree.Tree.{Tree}
use Rattle.hc_ast.specs.Leaves.{Spelled}
use Rattle.hc_ast.specs.Sources.{Whole}
use Rattle.hc_ast.specs.SourceRoles.{whole}
use Rattle.hc_ast.specs.SourceTrees.{whole_tree}
use Rattle.hc_ast.specs.Counts.{opening, reader}

-- w is how some source is spelled
abbrev pub IsSpelling : Spelled → Type 0
IsSpelling w = (x : Whole) × (w ≡ whole x)

-- the tokens are those of a source that keeps the limits, and this is its tree
pub record IsTreeOf (ts : List Token) (t : Tree) : Type 0 where
  pub written : Whole
  pub tokens : texts.tokens_of (whole written) ≡ ts
  pub within : Within reader (whole written) opening
  pub tree : whole_tree written ≡ t

-- the bytes are a source, and this is its tree
abbrev pub IsSource : List ℕ → Tree → Type 0
IsSource bytes t = IsTreeOf (tokens_of bytes) t

-- the bytes are refused at this place: there is the first token with which something is wrong, and this is wrong first
abbrev pub IsRefused : List ℕ → Flaw → Place → Type 0
IsRefused bytes flaw place = IsRefusedAt reader IsSpelling opening (λ t. t.place) (tokens_of bytes) (flaw, place)
