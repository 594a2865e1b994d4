use Rattle.std.proofs.Common.{◌≡◌, ◌++◌, take}
use Rattle.hc_ccode.proofs.places.joined.Given as goal

abbrev pub invariant-loop-name : goal.invariant-loop-name
invariant-loop-name l = l.names ≡ take l.name-index l.params

abbrev pub invariant-loop-name-2 : goal.invariant-loop-name-2
invariant-loop-name-2 l = l.names ≡ l.params ++ take l.name-index l.locals
