use Rattle.std.proofs.Common.{take, zip, length}
use Rattle.hc_modules.specs.Tables.{Finds, argument_in}
use Rattle.hc_modules.proofs.call.table_of.Given as goal

abbrev pub invariant-loop-param : goal.invariant-loop-param
invariant-loop-param l = Finds l.found (argument_in l.kind (take (length l.yielded) (zip l.params l.arguments)))
