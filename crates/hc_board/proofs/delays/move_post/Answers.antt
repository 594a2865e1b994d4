use Rattle.std.proofs.Common.{List, sym, subst, ◌∙◌}
use Rattle.std.specs.List.{list_any}
use Rattle.hc_term.specs.declared.post.Offer.{Offer}
use Rattle.hc_term.specs.Together.{is_offer}
use Rattle.hc_board.specs.Index.{IsMarked}
use Rattle.hc_board.proofs.DeadlinesOf.{has_due, due_over}
use Rattle.hc_board.proofs.MovedIndex.{else_told, over_told}
use Rattle.hc_board.proofs.delays.move_post.Goals as goal

pub set-requires-clause-has : goal.set-requires-clause-has
set-requires-clause-has c =
    has_due c.args.deadlines.now.list.items c.args.posts.now c.args.process c.index-posts-process.result c.requires.there c.requires.deadlines

pub returns-then-runs_out-clause-index : goal.returns-then-runs_out-clause-index
returns-then-runs_out-clause-index c =
    over_told c.args.index.now c.mark_state.new.self c.args.posts.now c.args.process c.args.by c.index-posts-process.result c.move_by.new.self
    c.runs_out.result c.requires.there c.requires.within c.requires.index (sym c.is_waiting.ensures ∙ c.if-not-is_waiting.false)
    c.move_by.ensures c.runs_out.ensures c.mark_all.new.self c.wants_step.result c.if-runs_out.true
    (subst (λ (xs : List Offer). IsMarked (λ sending at. list_any (is_offer sending at) xs) c.args.process _ c.args.index.now c.mark_all.new.self)
    c.as_slice.ensures.elements c.mark_all.ensures)
    c.mark_state.ensures c.wants_step.ensures

pub returns-else-runs_out-clause-index : goal.returns-else-runs_out-clause-index
returns-else-runs_out-clause-index c =
    else_told c.args.index.now c.mark_state-else-runs_out.new.self c.args.posts.now c.args.process c.args.by c.index-posts-process.result
    c.move_by-else-runs_out.new.self c.runs_out.result c.requires.there c.requires.within c.requires.index
    (sym c.is_waiting.ensures ∙ c.if-not-is_waiting.false) c.move_by-else-runs_out.ensures c.runs_out.ensures
    c.wants_step-else-runs_out.result c.if-runs_out.false c.mark_state-else-runs_out.ensures c.wants_step-else-runs_out.ensures

pub returns-then-runs_out-clause-deadlines : goal.returns-then-runs_out-clause-deadlines
returns-then-runs_out-clause-deadlines c =
    due_over c.args.deadlines.now.list.items c.args.posts.now c.args.process c.args.by c.index-posts-process.result c.move_by.new.self
    c.runs_out.result c.requires.there c.requires.deadlines c.move_by.ensures c.runs_out.ensures c.set.new.self.list.items c.if-runs_out.true c.set.ensures
