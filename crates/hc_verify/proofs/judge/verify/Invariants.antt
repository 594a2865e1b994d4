use Rattle.std.proofs.Common.{◌≡◌, ◌+◌}
use Rattle.hc_verify.proofs.Along.{Along}
use Rattle.hc_verify.proofs.judge.verify.Given as goal

abbrev pub invariant-loop-line : goal.invariant-loop-line
invariant-loop-line l = record {
  numbered : l.number ≡ l.line-index + 2;
  along : Along l.task l.line-items l.trace.end l.walk l.room l.line-index;
  whole : l.line-items ≡ l.trace.lines;
}
