use Rattle.std.proofs.Common.{◌≡◌, take, map}
use Rattle.hc_cexec.specs.Opening.{idle}
use Rattle.hc_cexec.proofs.opening.all_idle.Given as goal

abbrev pub invariant-loop-entry : goal.invariant-loop-entry
invariant-loop-entry l = l.bodies.items ≡ map idle (take l.entry-index l.functions)
