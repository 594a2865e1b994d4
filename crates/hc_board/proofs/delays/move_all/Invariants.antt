use Rattle.std.proofs.Common.{◌≡◌}
use Rattle.hc_term.specs.Moved.{moved_post}
use Rattle.hc_term.proofs.Fronts.{front}
use Rattle.hc_board.specs.Index.{IsIndexOf}
use Rattle.hc_board.specs.Deadlines.{AreDeadlinesOf}
use Rattle.hc_board.proofs.delays.move_all.Given as goal

abbrev pub invariant-loop-at : goal.invariant-loop-at
invariant-loop-at l = record {
  moved : l.posts ≡ front (moved_post l.by) l.at l.initial.posts;
  index : IsIndexOf l.index l.posts;
  deadlines : AreDeadlinesOf l.deadlines.list.items l.posts;
}
