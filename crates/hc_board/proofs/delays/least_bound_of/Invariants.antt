use Rattle.std.proofs.Common.{◌≡◌, ◌≤◌, length, drop}
use Rattle.hc_term.specs.Posts.{least_bound}
use Rattle.hc_board.proofs.delays.least_bound_of.Given as goal

abbrev pub invariant-loop-at : goal.invariant-loop-at
invariant-loop-at l = record {
  within : l.at ≤ length l.posts;
  least : l.least ≡ least_bound (drop l.at l.posts);
}

abbrev pub decreases-loop-at : goal.decreases-loop-at
decreases-loop-at l = l.at
