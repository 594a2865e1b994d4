use Rattle.std.proofs.Common.{◌≡◌, drop}
use Rattle.std.specs.List.{list_all}
use Rattle.hc_term.specs.Posts.{moving_fits}
use Rattle.hc_term.proofs.post.all_moving_fit.Given as goal

abbrev pub invariant-loop-one : goal.invariant-loop-one
invariant-loop-one l = list_all (moving_fits l.by) l.moving ≡ list_all (moving_fits l.by) (drop l.one-index l.moving)
