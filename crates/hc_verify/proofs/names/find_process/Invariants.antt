use Rattle.std.proofs.Common.{◌≡◌, drop}
use Rattle.hc_verify.specs.Places.{process_from}
use Rattle.hc_verify.proofs.names.find_process.Given as goal

abbrev pub invariant-loop-process : goal.invariant-loop-process
invariant-loop-process l = record {
  counted : l.number ≡ l.process-index;
  same : process_from l.name 0 l.processes ≡ process_from l.name l.number (drop l.process-index l.processes);
}
