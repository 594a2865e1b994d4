-- What the programs of units keep.
use Rattle.std.specs.Prelude.{ℕ, List}
use Rattle.hc_frac.specs.declared.place.Place.{Place}
use Rattle.hc_cast.specs.declared.program.CProgram.{CProgram}
use Rattle.hc_cgrammar.specs.Unit.{IsUnit}
use Rattle.hc_cmach.specs.Calls.{CallsGoBack}
use Rattle.hc_cfacts.specs.Limits.{IsWithinLimits}

-- each call goes to a primitive, or to a function that in a function's body stands before it, with as many arguments as that has
abbrev pub ProgramsCallBack : Type 0
ProgramsCallBack = (from : Place) (bytes : List ℕ) (p : CProgram) → IsUnit from bytes p → CallsGoBack p

-- arrays, functions, threads and names are within their limits
abbrev pub ProgramsKeepLimits : Type 0
ProgramsKeepLimits = (from : Place) (bytes : List ℕ) (p : CProgram) → IsUnit from bytes p → IsWithinLimits p
