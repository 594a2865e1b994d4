-- What holds of the canonical spelling.
use Rattle.std.specs.Prelude.{ℕ, List}
use Rattle.hc_frac.specs.declared.place.Place.{Place}
use Rattle.hc_grammar.specs.Texts.{tokens_of}
use Rattle.hc_grammar.specs.Reader.{Within}
use Rattle.hc_cast.specs.declared.program.CProgram.{CProgram}
use Rattle.hc_cgrammar.specs.Units.{Whole}
use Rattle.hc_cgrammar.specs.UnitRoles.{whole}
use Rattle.hc_cgrammar.specs.UnitTrees.{whole_tree}
use Rattle.hc_cgrammar.specs.State.{opening}
use Rattle.hc_cgrammar.specs.Rules.{reader}
use Rattle.hc_cgrammar.specs.Unit.{IsUnit}
use Rattle.hc_cspell.specs.Units.{canonical}
use Rattle.hc_cwrite.specs.Sayable.{AreSayable}
use Rattle.hc_cwrite.specs.Writable.{IsWritable}

-- the program of each unit, wherever that begins, can be written
abbrev pub UnitsAreWritable : Type 0
UnitsAreWritable = (from : Place) (bytes : List ℕ) (p : CProgram) → IsUnit from bytes p → IsWritable p

-- the canonical spelling of a program that can be written is a unit of that very program, wherever it begins: with the fewest
-- brackets it is within the limits too
abbrev pub CanonicalIsUnit : Type 0
CanonicalIsUnit = (p : CProgram) → IsWritable p → (from : Place) → IsUnit from (canonical p) p

-- and so can the program of each unit, within the limits and the rules on names, whose tokens can say what they say: no text need be
-- given, nor any places
abbrev pub SayableUnitsAreWritable : Type 0
SayableUnitsAreWritable =
    (x : Whole) → AreSayable (tokens_of (whole x)) → Within reader (whole x) opening → IsWritable (whole_tree x)
