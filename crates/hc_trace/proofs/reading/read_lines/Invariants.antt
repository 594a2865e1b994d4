use Rattle.std.proofs.Common.{length}
use Rattle.hc_trace.proofs.UnderWay.{IsUnderWay}
use Rattle.hc_trace.proofs.reading.read_lines.Given as goal

abbrev pub invariant-loop-rest : goal.invariant-loop-rest
invariant-loop-rest l = IsUnderWay l.version l.bytes l.lines l.rest l.number

abbrev pub decreases-loop-rest : goal.decreases-loop-rest
decreases-loop-rest l = length l.rest
