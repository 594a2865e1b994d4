use Rattle.std.proofs.Common.{IsTrue, take}
use Rattle.std.specs.List.{list_all}
use Rattle.hc_runs.specs.Fractions.{all_numbers}
use Rattle.hc_runs.proofs.numbers.read_processes.Given as goal

abbrev pub invariant-loop-process : goal.invariant-loop-process
invariant-loop-process l = IsTrue (list_all (λ p. all_numbers p.body) (take l.process-index l.processes))
