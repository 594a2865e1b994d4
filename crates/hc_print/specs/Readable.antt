-- What reading gives, and that a tree which is printed is read back.
use Rattle.std.specs.Prelude.{◌≡◌, ℕ, List}
use Rattle.hc_ast.specs.declared.tree.Tree.{Tree}
use Rattle.hc_ast.specs.Unplaced.{bare}
use Rattle.hc_ast.specs.Source.{IsSource}
use Rattle.hc_print.specs.Canonical.{canonical}

-- the tree is that of some source
abbrev pub IsOfSource : Tree → Type 0
IsOfSource t = (bytes : List ℕ) × IsSource bytes t

-- the bytes are a source, whose tree is equal to t in all but places
abbrev pub ReadsBackAs : List ℕ → Tree → Type 0
ReadsBackAs bytes t = (u : Tree) × IsSource bytes u × (bare u ≡ bare t)

-- the canonical spelling of each tree of a source reads back as that tree
abbrev pub CanonicalReadsBack : Type 0
CanonicalReadsBack = (t : Tree) → IsOfSource t → ReadsBackAs (canonical t) t

-- trees that are equal in all but places have one canonical spelling
abbrev pub CanonicalForgetsPlaces : Type 0
CanonicalForgetsPlaces = (t u : Tree) → bare u ≡ bare t → canonical u ≡ canonical t
