use Rattle.std.proofs.Common.{◌≡◌, ◌++◌, drop}
use Rattle.hc_cmd.specs.Running.{recomputed_line, worker_lines}
use Rattle.hc_cmd.proofs.report.report_of.Given as goal

abbrev pub invariant-loop-worker : goal.invariant-loop-worker
invariant-loop-worker l = recomputed_line l.recomputed ++ worker_lines 0 l.turns ≡ l.text.items ++ worker_lines l.worker (drop l.worker l.turns)
