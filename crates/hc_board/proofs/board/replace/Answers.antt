use Rattle.hc_board.proofs.DeadlinesOf.{has_due, due_set_by}
use Rattle.hc_board.proofs.IndexOf.{replaced_by}
use Rattle.hc_board.proofs.board.replace.Goals as goal

pub returns-clause-index : goal.returns-clause-index
returns-clause-index c =
    replaced_by c.args.posts.now c.args.process c.index-posts-process.result c.args.post.now c.copy_into.new.to c.as_slice.result.now
    c.as_slice-2.result.now c.waits_for_time.result c.wants_step.result c.args.index.now c.mark_all.new.self c.mark_all-2.new.self c.mark_state.new.self
    c.requires.there c.requires.within c.requires.index c.as_slice.ensures.elements c.mark_all.ensures c.as_slice-2.ensures.elements
    c.mark_all-2.ensures c.waits_for_time.ensures c.wants_step.ensures c.mark_state.ensures c.copy_into.ensures

pub returns-clause-deadlines : goal.returns-clause-deadlines
returns-clause-deadlines c =
    due_set_by c.args.deadlines.now.list.items c.set.new.self.list.items c.args.posts.now c.args.process c.args.post.now c.copy_into.new.to
    c.requires.there c.requires.deadlines c.set.ensures c.copy_into.ensures

pub set-requires-clause-has : goal.set-requires-clause-has
set-requires-clause-has c =
    has_due c.args.deadlines.now.list.items c.args.posts.now c.args.process c.index-posts-process.result c.requires.there c.requires.deadlines
