use Rattle.std.proofs.Common.{◌≡◌, take}
use Rattle.hc_cgen.proofs.program.copy_of_names.Given as goal

abbrev pub invariant-loop-name : goal.invariant-loop-name
invariant-loop-name l = l.copy ≡ take l.name-index l.names
