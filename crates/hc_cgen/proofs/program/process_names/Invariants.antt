use Rattle.std.proofs.Common.{◌≡◌, take, map}
use Rattle.hc_cgen.proofs.program.process_names.Given as goal

abbrev pub invariant-loop-process : goal.invariant-loop-process
invariant-loop-process l = l.names ≡ map (λ p. p.name) (take l.process-index l.processes)
