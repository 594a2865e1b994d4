use Rattle.std.proofs.Common.{take}
use Rattle.std.specs.List.{AllByRecursion}
use Rattle.hc_frac.specs.Word.{IsWord}
use Rattle.hc_verify.proofs.words.read_processes.Given as goal

abbrev pub invariant-loop-process : goal.invariant-loop-process
invariant-loop-process l = AllByRecursion (λ p. IsWord p.name) (take l.process-index l.processes)
