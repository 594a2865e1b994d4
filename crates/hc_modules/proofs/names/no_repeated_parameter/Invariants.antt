use Rattle.std.proofs.Common.{◌≡◌, drop}
use Rattle.hc_modules.specs.Finds.{repeated_parameters}
use Rattle.hc_modules.proofs.names.no_repeated_parameter.Given as goal

abbrev pub invariant-loop-module : goal.invariant-loop-module
invariant-loop-module l = repeated_parameters l.modules ≡ repeated_parameters (drop l.module-index l.modules)
