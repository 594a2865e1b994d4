use Rattle.std.proofs.Common.{◌≡◌, map, take}
use Rattle.hc_modules.specs.Expansion as spec
use Rattle.hc_modules.proofs.expanding.flat_processes.Given as goal

abbrev pub invariant-loop-process : goal.invariant-loop-process
invariant-loop-process l = l.found ≡ map (spec.flat_process l.modules) (take l.process-index l.processes)
