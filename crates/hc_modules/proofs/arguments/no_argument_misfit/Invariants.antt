use Rattle.std.proofs.Common.{◌≡◌, drop}
use Rattle.hc_modules.specs.Finds.{arguments_misfit}
use Rattle.hc_modules.specs.Found.{first_of}
use Rattle.hc_modules.proofs.arguments.no_argument_misfit.Given as goal

abbrev pub invariant-loop-process : goal.invariant-loop-process
invariant-loop-process l = first_of (arguments_misfit l.modules l.processes) ≡ first_of (arguments_misfit l.modules (drop l.process-index l.processes))
