-- What the answers of reading a whole text say.
use Rattle.std.specs.Prelude.{ℕ, List, Option, Some, None, Result}
use Rattle.hc_grammar.specs.Exact as grammar
use Rattle.hc_cast.specs.declared.program.CProgram.{CProgram}
use Rattle.hc_cgrammar.specs.declared.flaw.Refusal as refusal
use Rattle.hc_cgrammar.specs.declared.flaw.Refusal.TheVariants as why
use Rattle.hc_cgrammar.specs.Text.{IsCText, IsCTextRefused}
use Rattle.hc_cread.specs.declared.reading.UnitStop.{UnitStop}
use Rattle.hc_cread.specs.declared.reading.UnitStop.TheVariants as unit
use Rattle.hc_cread.specs.declared.whole.CStop.{CStop}
use Rattle.hc_cread.specs.declared.whole.CStop.TheVariants.{Refused, Memory}

-- why the text is refused; nothing where memory ran out
abbrev pub told : CStop → Option refusal.Refusal
told (Refused r) = Some r
told Memory = None

-- the answer for what reading its unit stops with
abbrev pub stop_of : UnitStop → CStop
stop_of (unit.Refused f p) = Refused (why.Unit f p)
stop_of unit.Memory = Memory

-- the answer to bytes is the program of a C text, or why they are none, and both are answered unless memory runs out
abbrev pub IsExact : List ℕ → Result CProgram CStop → Type 0
IsExact bytes = grammar.IsExact (λ p. p) told (IsCText bytes) (IsCTextRefused bytes)
