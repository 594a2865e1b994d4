use Rattle.std.proofs.Common.{take}
use Rattle.hc_modules.specs.Tables.{AreValues}
use Rattle.hc_modules.proofs.written.values_of.Given as goal

abbrev pub invariant-loop-param : goal.invariant-loop-param
invariant-loop-param l = AreValues l.names.keys (take l.param-index l.params)
