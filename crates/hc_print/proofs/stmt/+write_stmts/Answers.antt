use Rattle.std.proofs.Common.{◌≤◌, length, ap, ◌∙◌, arith}
use Rattle.hc_ast.proofs.BareForms.{bare_stmt-when, bare_stmt-choose, bare_stmt-pick, bare_stmt-choice, bare_stmt-evolve, bare_branch-is}
use Rattle.hc_ast.specs.declared.stmt.StmtKind.TheViews as seen
use Rattle.std.proofs.lemmas.Bool.Decides.{nat_tests}
use Rattle.hc_print.proofs.Branches.{all_branches, some_interrupt}
use Rattle.hc_print.proofs.Chains.{then_ok}
use Rattle.hc_print.proofs.stmt.+write_stmts.Goals as goal

pub write_branch-returns : goal.write_branch-returns
write_branch-returns t c =
    let is = bare_branch-is c.args.branch.now in
    then_ok c.write_stmts.result c.write_stmts.ensures
    (λ last w. rw is (cc (last w ∙ c.in_ok-sign.ensures _ ∙ c.in_ok-write_io.ensures _)))

pub write_branches-returns : goal.write_branches-returns
write_branches-returns t c =
    all_branches c.args.out.now.bytes.items c.loop-branch.out.bytes.items c.loop-branch.branch-index _
    c.args.branches.now c.loop-branch-test.false c.loop-branch.invariant

pub write_interrupt-returns : goal.write_interrupt-returns
write_interrupt-returns t c =
    let h : 1 ≤ length c.args.branches.now = grind (arith, nat_tests) in
    then_ok c.write_choice.result c.write_choice.ensures
    (λ last w. rw (some_interrupt c.args.branches.now h) (last w ∙ c.in_ok-sign.ensures _))

pub write_stmt-returns-in_ok-write_stmts-in-Some :
    goal.write_stmt-returns-in_ok-write_stmts-in-Some
write_stmt-returns-in_ok-write_stmts-in-Some t c =
    let is = bare_stmt-choose c.args.statement.now c.in-If.test c.in-If.yes c.in-Some.no
    (c.in-If.is ∙ ap (seen.If c.in-If.test c.in-If.yes) c.in-Some.is) in
    then_ok c.sign-in-Some-2.result c.sign-in-Some-2.ensures
    (λ last w. rw is (cc (last w ∙ c.in_ok-write_stmts-in-Some.ensures _ ∙ c.in_ok-sign-in-Some.ensures _
    ∙ c.in_ok-write_stmts-in-If.ensures _ ∙ c.in_ok-write_if-in-If.ensures _)))

pub write_stmt-returns-in-None : goal.write_stmt-returns-in-None
write_stmt-returns-in-None t c =
    let is = bare_stmt-when c.args.statement.now c.in-If.test c.in-If.yes
    (c.in-If.is ∙ ap (seen.If c.in-If.test c.in-If.yes) c.in-None.is) in
    then_ok c.sign-in-None.result c.sign-in-None.ensures
    (λ last w. rw is (cc (last w ∙ c.in_ok-write_stmts-in-If.ensures _ ∙ c.in_ok-write_if-in-If.ensures _)))

pub write_stmt-returns-in_ok-sign-in-Pick : goal.write_stmt-returns-in_ok-sign-in-Pick
write_stmt-returns-in_ok-sign-in-Pick t c =
    let is = bare_stmt-pick c.args.statement.now c.in-Pick.left c.in-Pick.right c.in-Pick.is in
    then_ok c.write_group-in-Pick.result c.write_group-in-Pick.ensures
    (λ last w. rw is (cc (last w ∙ c.in_ok-sign-in-Pick.ensures _ ∙ c.in_ok-write_group-in-Pick.ensures _)))

pub write_stmt-returns-in-Choice : goal.write_stmt-returns-in-Choice
write_stmt-returns-in-Choice t c =
    let is = bare_stmt-choice c.args.statement.now c.in-Choice.branches c.in-Choice.is in
    then_ok c.write_choice.result c.write_choice.ensures (λ last w. rw is (cc (last w)))

pub write_stmt-returns-in_ok-write_motion-in-Evolve :
    goal.write_stmt-returns-in_ok-write_motion-in-Evolve
write_stmt-returns-in_ok-write_motion-in-Evolve t c =
    let is = bare_stmt-evolve c.args.statement.now c.in-Evolve.rates c.in-Evolve.domain c.in-Evolve.branches c.in-Evolve.is in
    then_ok c.write_interrupt.result c.write_interrupt.ensures
    (λ last w. rw is (cc (last w ∙ c.in_ok-write_motion-in-Evolve.ensures _)))
