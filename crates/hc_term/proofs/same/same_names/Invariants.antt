use Rattle.std.proofs.Common.{◌≡◌, take}
use Rattle.hc_term.proofs.same.same_names.Given as goal

abbrev pub invariant-loop-at : goal.invariant-loop-at
invariant-loop-at l = take l.at l.left ≡ take l.at l.right
