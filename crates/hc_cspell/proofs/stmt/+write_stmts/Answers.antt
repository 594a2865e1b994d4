use Rattle.std.proofs.Common.{◌∙◌, ap}
use Rattle.hc_cast.specs.declared.stmt.CStmt.TheViews as seen
use Rattle.hc_cspell.proofs.Chains.{then_ok}
use Rattle.hc_cspell.proofs.StmtForms.{spelled-choose, spelled-While, spelled-Switch, spelled-case}
use Rattle.hc_cspell.proofs.stmt.+write_stmts.Goals as goal

pub write_case-returns : goal.write_case-returns
write_case-returns t c =
    then_ok c.write_break.result c.write_break.ensures
    (λ last w. rw (spelled-case c.args.case.now, ← c.as_slice.ensures) (last w ∙ c.in_ok-write_block.ensures _ ∙ c.in_ok-sign-2.ensures _
    ∙ c.in_ok-number.ensures _ ∙ c.in_ok-sign.ensures _))

pub write_stmt-returns-in_ok-write_test-in-While :
    goal.write_stmt-returns-in_ok-write_test-in-While
write_stmt-returns-in_ok-write_test-in-While t c =
    let is = spelled-While c.args.statement.now c.in-While.test c.in-While.body c.in-While.is in
    then_ok c.write_block-in-While.result c.write_block-in-While.ensures
    (λ last w. rw (is, ← c.as_slice-in-While.ensures) (last w ∙ c.in_ok-write_test-in-While.ensures _))

pub write_stmt-returns-in_ok-write_cases-in-Switch :
    goal.write_stmt-returns-in_ok-write_cases-in-Switch
write_stmt-returns-in_ok-write_cases-in-Switch t c =
    let is = spelled-Switch c.args.statement.now c.in-Switch.on c.in-Switch.cases c.in-Switch.otherwise c.in-Switch.is in
    then_ok c.write_default.result c.write_default.ensures
    (λ last w. rw (is, ← c.as_slice-in-Switch.ensures, ← c.as_slice-in-Switch-2.ensures) (last w ∙ c.in_ok-write_cases-in-Switch.ensures _ ∙ c.in_ok-sign-in-Switch.ensures _
    ∙ c.in_ok-write_test-in-Switch.ensures _))

pub write_stmt-returns-in_ok-sign-in-Some : goal.write_stmt-returns-in_ok-sign-in-Some
write_stmt-returns-in_ok-sign-in-Some t c =
    let is = spelled-choose c.args.statement.now c.in-If.test c.in-If.yes c.in-Some.no
    (c.in-If.is ∙ ap (seen.If c.in-If.test c.in-If.yes) c.in-Some.is) in
    then_ok c.write_block-in-Some.result c.write_block-in-Some.ensures
    (λ last w. rw (is, ← c.as_slice-in-If.ensures, ← c.as_slice-in-Some.ensures) (last w ∙ c.in_ok-sign-in-Some.ensures _
    ∙ c.in_ok-write_block-in-If.ensures _ ∙ c.in_ok-write_test-in-If.ensures _))
