use Rattle.std.proofs.Common.{◌≡◌, drop}
use Rattle.hc_modules.specs.Finds.{unknown_modules}
use Rattle.hc_modules.specs.Found.{first_of}
use Rattle.hc_modules.proofs.arguments.no_unknown_module.Given as goal

abbrev pub invariant-loop-process : goal.invariant-loop-process
invariant-loop-process l = first_of (unknown_modules l.modules l.processes) ≡ first_of (unknown_modules l.modules (drop l.process-index l.processes))
