-- What holds of all bytes that begin at any place.
use Rattle.std.specs.Prelude.{◌≡◌, ◌⊎◌, ℕ, List}
use Rattle.hc_frac.specs.declared.place.Place.{Place}
use Rattle.hc_cast.specs.declared.program.CProgram.{CProgram}
use Rattle.hc_cgrammar.specs.declared.flaw.Flaw.{Flaw}
use Rattle.hc_cgrammar.specs.Unit.{IsUnit, IsRefused}

-- they are the unit of at most one program
abbrev pub OneProgram : Type 0
OneProgram = (from : Place) (bytes : List ℕ) (x y : CProgram) → IsUnit from bytes x → IsUnit from bytes y → x ≡ y

-- they are refused for one flaw at most, at one place
abbrev pub OneRefusal : Type 0
OneRefusal = (from : Place) (bytes : List ℕ) (f g : Flaw) (p q : Place) → IsRefused from bytes f p → IsRefused from bytes g q → (f ≡ g) × (p ≡ q)

-- a unit isn't refused
abbrev pub UnitsAreNotRefused : Type 0
UnitsAreNotRefused = (from : Place) (bytes : List ℕ) (x : CProgram) (flaw : Flaw) (place : Place) → IsUnit from bytes x → IsRefused from bytes flaw place → ⊥

-- they are a unit or are refused; with the three laws above, exactly one of the two, and in one way
abbrev pub EveryUnitIsOne : Type 0
EveryUnitIsOne = (from : Place) (bytes : List ℕ)
    → ((x : CProgram) × IsUnit from bytes x) ⊎ ((flaw : Flaw) × (place : Place) × IsRefused from bytes flaw place)
