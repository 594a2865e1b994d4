use Rattle.hc_term.specs.Offers.{going_post}
use Rattle.hc_board.proofs.DeadlinesOf.{has_due, due_set_by}
use Rattle.hc_board.proofs.IndexOf.{went_by}
use Rattle.hc_board.proofs.board.set_going.Goals as goal

pub set-requires-clause-has : goal.set-requires-clause-has
set-requires-clause-has c =
    has_due c.args.deadlines.now.list.items c.args.posts.now c.args.process c.index-posts-process.result c.requires.there c.requires.deadlines

pub returns-clause-index : goal.returns-clause-index
returns-clause-index c =
    went_by c.args.posts.now c.args.process c.index-posts-process.result c.show.new.self c.as_slice.result.now c.args.index.now c.mark_all.new.self
    c.mark_state.new.self c.requires.there c.requires.within c.requires.index c.as_slice.ensures.elements c.mark_all.ensures c.mark_state.ensures
    c.show.ensures

pub returns-clause-deadlines : goal.returns-clause-deadlines
returns-clause-deadlines c =
    due_set_by c.args.deadlines.now.list.items c.set.new.self.list.items c.args.posts.now c.args.process going_post c.show.new.self
    c.requires.there c.requires.deadlines c.set.ensures c.show.ensures
