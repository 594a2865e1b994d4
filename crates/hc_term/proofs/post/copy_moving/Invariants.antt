use Rattle.std.proofs.Common.{◌≡◌, take}
use Rattle.hc_term.proofs.post.copy_moving.Given as goal

abbrev pub invariant-loop-moving : goal.invariant-loop-moving
invariant-loop-moving l = l.to ≡ take l.moving-index l.from
