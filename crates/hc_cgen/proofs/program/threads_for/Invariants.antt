use Rattle.std.proofs.Common.{◌≡◌, take, length}
use Rattle.hc_cgen.specs.Made.{AreThreadsFor}
use Rattle.hc_cgen.proofs.program.threads_for.Given as goal

abbrev pub invariant-loop-process : goal.invariant-loop-process
invariant-loop-process l = record {
  counted : length l.threads ≡ l.process-index;
  threads : AreThreadsFor l.task 0 (take l.process-index l.processes) l.threads;
}
