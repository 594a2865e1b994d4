use Rattle.std.proofs.Common.{◌≡◌, length, map, take}
use Rattle.hc_finds.specs.Limits.{channels_of}
use Rattle.hc_check.specs.Numbered.{process_over}
use Rattle.hc_check.proofs.checking.number_processes.Given as goal

abbrev pub invariant-loop-variables : goal.invariant-loop-variables
invariant-loop-variables l = l.found ≡ map (process_over (channels_of l.processes)) (take (length l.yielded) l.processes)
