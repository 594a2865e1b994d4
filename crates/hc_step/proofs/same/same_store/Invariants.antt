use Rattle.std.proofs.Common.{◌≡◌, take}
use Rattle.hc_step.proofs.same.same_store.Given as goal

abbrev pub invariant-loop-at : goal.invariant-loop-at
invariant-loop-at l = take l.at l.one ≡ take l.at l.other
