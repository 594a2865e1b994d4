-- What holds of all texts.
use Rattle.std.specs.Prelude.{◌≡◌, ◌⊎◌, ℕ, List}
use Rattle.hc_frac.specs.declared.place.Place.{Place}
use Rattle.hc_ast.specs.declared.tree.Tree.{Tree}
use Rattle.hc_ast.specs.declared.flaw.Flaw.{Flaw}
use Rattle.hc_ast.specs.Source.{IsSource, IsRefused}

-- bytes have at most one tree
abbrev pub OneTree : Type 0
OneTree = (bytes : List ℕ) (t u : Tree) → IsSource bytes t → IsSource bytes u → t ≡ u

-- bytes are refused for one flaw at most, at one place
abbrev pub OneRefusal : Type 0
OneRefusal = (bytes : List ℕ) (f g : Flaw) (p q : Place) → IsRefused bytes f p → IsRefused bytes g q → (f ≡ g) × (p ≡ q)

-- bytes with a tree aren't refused
abbrev pub SourcesAreNotRefused : Type 0
SourcesAreNotRefused = (bytes : List ℕ) (t : Tree) (flaw : Flaw) (place : Place) → IsSource bytes t → IsRefused bytes flaw place → ⊥

-- each text is a source or is refused; with the three laws above, exactly one of the two, and in one way
abbrev pub EveryTextIsOne : Type 0
EveryTextIsOne = (bytes : List ℕ) → ((t : Tree) × IsSource bytes t) ⊎ ((flaw : Flaw) × (place : Place) × IsRefused bytes flaw place)
