use Rattle.std.proofs.Common.{sym, subst}
use Rattle.std.proofs.lemmas.Bool.{both_ways}
use Rattle.hc_board.specs.declared.deadlines.Deadline.{Deadline}
use Rattle.hc_board.specs.Deadlines.{IsBefore}
use Rattle.hc_board.proofs.Edited.{within_next}
use Rattle.hc_board.proofs.DueSet.{place_here}
use Rattle.hc_board.proofs.deadlines.place_for.Goals as goal

pub returns-then-not-is_before : goal.returns-then-not-is_before
returns-then-not-is_before c =
    place_here c.args.deadlines.now c.args.one.now c.loop-at.at c.index-deadlines-at.result c.requires.ordered c.requires.none c.loop-at-test.true
    c.loop-at.invariant (λ b. both_ways c.is_before.result c.if-not-is_before.true (c.is_before.ensures.1 (subst (λ (d : Deadline). IsBefore d c.args.one.now) (sym c.index-deadlines-at.is) b)))

pub loop-at-preserved : goal.loop-at-preserved
loop-at-preserved c =
    within_next (λ (d : Deadline). IsBefore d c.args.one.now) c.args.deadlines.now c.loop-at.at c.index-deadlines-at.result c.loop-at-test.true
    c.loop-at.invariant (subst (λ (d : Deadline). IsBefore d c.args.one.now) c.index-deadlines-at.is (c.is_before.ensures.0 c.if-not-is_before.false))
