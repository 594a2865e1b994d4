-- Which texts are accepted, and what their systems are.
use Rattle.std.specs.Prelude.{ℕ, ◌≤◌, List, length}
use Rattle.hc_limits.specs.Limits.{most_source_bytes}
use Rattle.hc_ast.specs.declared.tree.Tree.{Tree}
use Rattle.hc_ast.specs.Source.{IsSource}
use Rattle.hc_modules.specs.declared.flat.Flat.{Flat}
use Rattle.hc_modules.specs.Refusals.{IsExpansion}
use Rattle.hc_term.specs.declared.system.System.{System}
use Rattle.hc_check.specs.Checked.{IsChecked}

-- the text is accepted, and this is its system: it is short enough, a source, expanded and checked
pub record IsAccepted (bytes : List ℕ) (sys : System) : Type 0 where
  pub tree : Tree
  pub flat : Flat
  pub short : length bytes ≤ most_source_bytes
  pub source : IsSource bytes tree
  pub expanded : IsExpansion tree flat
  pub checked : IsChecked flat sys
