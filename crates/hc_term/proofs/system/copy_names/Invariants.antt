use Rattle.std.proofs.Common.{◌≡◌, take}
use Rattle.hc_term.proofs.system.copy_names.Given as goal

abbrev pub invariant-loop-name : goal.invariant-loop-name
invariant-loop-name l = l.found ≡ take l.name-index l.names
