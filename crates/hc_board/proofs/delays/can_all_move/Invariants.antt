use Rattle.std.proofs.Common.{◌≡◌, drop}
use Rattle.std.specs.List.{list_all}
use Rattle.hc_term.specs.Posts.{post_fits}
use Rattle.hc_board.proofs.delays.can_all_move.Given as goal

abbrev pub invariant-loop-at : goal.invariant-loop-at
invariant-loop-at l = list_all (post_fits l.by) l.posts ≡ list_all (post_fits l.by) (drop l.at l.posts)
