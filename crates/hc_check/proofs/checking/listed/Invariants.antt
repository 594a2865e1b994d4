use Rattle.std.proofs.Common.{◌≡◌, take}
use Rattle.hc_check.proofs.checking.listed.Given as goal

abbrev pub invariant-loop-name : goal.invariant-loop-name
invariant-loop-name l = l.found ≡ take l.name-index l.names.keys
