-- What the answers of reading a unit say.
use Rattle.std.specs.Prelude.{ℕ, List, Option, Some, None, Result}
use Rattle.hc_frac.specs.declared.place.Place.{Place}
use Rattle.hc_grammar.specs.Exact as grammar
use Rattle.hc_grammar.specs.declared.whole.Stop.{Stop}
use Rattle.hc_grammar.specs.declared.whole.Stop.TheVariants as is
use Rattle.hc_cast.specs.declared.program.CProgram.{CProgram}
use Rattle.hc_cgrammar.specs.declared.flaw.Flaw.{Flaw}
use Rattle.hc_cgrammar.specs.Unit.{IsUnit, IsRefused}
use Rattle.hc_cread.specs.declared.reading.UnitStop.{UnitStop}
use Rattle.hc_cread.specs.declared.reading.UnitStop.TheVariants.{Refused, Memory}

-- what is wrong, and where; nothing where memory ran out
abbrev pub told : UnitStop → Option (Flaw × Place)
told (Refused f p) = Some (f, p)
told Memory = None

-- the answer for what reading stops with
abbrev pub stop_of : Stop Flaw → UnitStop
stop_of (is.Refused f p) = Refused f p
stop_of is.Memory = Memory

-- the answer to bytes that begin at a place is the program of a unit, or the first refusal, and both are answered unless memory
-- runs out
abbrev pub IsExact : Place → List ℕ → Result CProgram UnitStop → Type 0
IsExact from bytes = grammar.IsExact (λ p. p) told (IsUnit from bytes) (λ f. IsRefused from bytes f.0 f.1)
