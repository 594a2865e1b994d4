use Rattle.std.proofs.Common.{◌≡◌, take}
use Rattle.hc_term.proofs.system.copy_processes.Given as goal

abbrev pub invariant-loop-process : goal.invariant-loop-process
invariant-loop-process l = l.found ≡ take l.process-index l.processes
