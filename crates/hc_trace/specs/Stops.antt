-- What the answers of reading a trace say.
use Rattle.std.specs.Prelude.{ℕ, List, Option, Some, None, IfSome, Result}
use Rattle.hc_grammar.specs.Exact as exact
use Rattle.hc_trace.specs.declared.reading.TraceStop.{TraceStop}
use Rattle.hc_trace.specs.declared.reading.TraceStop.TheVariants.{Line, Memory}
use Rattle.hc_trace.specs.declared.traces.Trace.{Trace}
use Rattle.hc_trace.specs.Reading.{IsRefusedAt}
use Rattle.hc_trace.specs.Traces.{IsTraceText}

-- the line that is refused; none where memory ran out
abbrev pub told : TraceStop → Option ℕ
told (Line n) = Some n
told Memory = None

-- the bytes are refused there
abbrev pub IsStop : List ℕ → TraceStop → Type 0
IsStop bytes s = IfSome (told s) (IsRefusedAt bytes)

-- the answer to bytes is the trace whose text they are, or the first line that can't stand there, and both are answered
-- unless memory runs out
abbrev pub IsExact : List ℕ → Result Trace TraceStop → Type 0
IsExact bytes = exact.IsExact (λ t. t) told (IsTraceText bytes) (IsRefusedAt bytes)
