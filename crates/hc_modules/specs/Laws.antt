-- What holds of all trees.
use Rattle.std.specs.Prelude.{◌≡◌, ◌⊎◌}
use Rattle.hc_ast.specs.declared.tree.Tree.{Tree}
use Rattle.hc_modules.specs.declared.flat.Flat.{Flat}
use Rattle.hc_modules.specs.declared.flat.ModuleStop.{ModuleStop}
use Rattle.hc_modules.specs.Refusals.{IsExpansion, IsRefused}

-- a tree has at most one expansion
abbrev pub OneExpansion : Type 0
OneExpansion = (t : Tree) (f g : Flat) → IsExpansion t f → IsExpansion t g → f ≡ g

-- it is refused for one thing at most
abbrev pub OneRefusal : Type 0
OneRefusal = (t : Tree) (r s : ModuleStop) → IsRefused t r → IsRefused t s → r ≡ s

-- a tree with an expansion isn't refused
abbrev pub ExpandedIsNotRefused : Type 0
ExpandedIsNotRefused = (t : Tree) (f : Flat) (s : ModuleStop) → IsExpansion t f → IsRefused t s → ⊥

-- each tree has an expansion or is refused; with the three laws above, exactly one of the two, and in one way
abbrev pub EveryTreeIsOne : Type 0
EveryTreeIsOne = (t : Tree) → ((f : Flat) × IsExpansion t f) ⊎ ((s : ModuleStop) × IsRefused t s)
