use Rattle.std.proofs.Common.{◌≡◌, replicate}
use Rattle.hc_term.specs.Offers.{going_post}
use Rattle.hc_board.proofs.board.going_posts.Given as goal

abbrev pub invariant-loop-made : goal.invariant-loop-made
invariant-loop-made l = l.posts.items ≡ replicate l._made going_post
