use Rattle.std.proofs.Common.{◌≡◌, drop}
use Rattle.hc_cmach.specs.State.{function_among}
use Rattle.hc_ccode.proofs.places.function_in.Given as goal

abbrev pub invariant-loop-at : goal.invariant-loop-at
invariant-loop-at l = function_among l.name (drop l.at l.functions) ≡ function_among l.name l.functions
