use Rattle.std.proofs.Common.{◌≡◌, drop}
use Rattle.hc_modules.specs.Finds.{parameters_written}
use Rattle.hc_modules.proofs.written.no_parameter_written.Given as goal

abbrev pub invariant-loop-module : goal.invariant-loop-module
invariant-loop-module l = parameters_written l.modules ≡ parameters_written (drop l.module-index l.modules)
