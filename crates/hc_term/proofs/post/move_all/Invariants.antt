use Rattle.std.proofs.Common.{◌≡◌}
use Rattle.hc_term.specs.Moved.{moving_after}
use Rattle.hc_term.proofs.Fronts.{front}
use Rattle.hc_term.proofs.post.move_all.Given as goal

abbrev pub invariant-loop-at : goal.invariant-loop-at
invariant-loop-at l = l.moving ≡ front (moving_after l.by) l.at l.initial.moving
