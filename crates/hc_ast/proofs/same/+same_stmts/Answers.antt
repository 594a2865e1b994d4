use Rattle.std.proofs.Common.{ap, sym, ◌∙◌, arith}
use Rattle.hc_ast.specs.Unplaced.{bare_stmt, bare_stmts, bare_branch}
use Rattle.hc_ast.proofs.BareForms.{same_first, same_left}
use Rattle.hc_ast.proofs.Mapped.{mapped_at, same_order, same_among, fails_for_more, false_for_more, false_for_lengths}
use Rattle.hc_ast.proofs.same.+same_stmts.Goals as goal

pub same_stmt-returns-then-not-same_statements : goal.same_stmt-returns-then-not-same_statements
same_stmt-returns-then-not-same_statements t c =
    let x = c.in-If-If in
    false_for_more c.same_statements.result c.if-not-same_statements.true c.same_statements.ensures
    (λ e. ap bare_stmts c.as_slice.ensures
    ∙ same_first c.args.left.now c.args.right.now x.test x.other x.yes x.body x.no x.rest x.is-0 x.is-1 e
    ∙ sym (ap bare_stmts c.as_slice-in-If-If.ensures))

pub same_stmt-returns-else-same_statements : goal.same_stmt-returns-else-same_statements
same_stmt-returns-else-same_statements t c =
    let x = c.in-Pick-Pick in
    fails_for_more c.same_statements-in-Pick-Pick.result c.if-same_statements.false c.same_statements-in-Pick-Pick.ensures
    (λ e. ap bare_stmts c.as_slice-in-Pick-Pick.ensures
    ∙ same_left c.args.left.now c.args.right.now x.left x.right x.first x.second x.is-0 x.is-1 e
    ∙ sym (ap bare_stmts c.as_slice-in-Pick-Pick-2.ensures))

pub same_statements-returns-then-left-right : goal.same_statements-returns-then-left-right
same_statements-returns-then-left-right t c =
    false_for_lengths bare_stmt c.args.left.now c.args.right.now c.if-left-right.true (same_order _ _)

pub same_branches-returns-then-left-right : goal.same_branches-returns-then-left-right
same_branches-returns-then-left-right t c =
    false_for_lengths bare_branch c.args.left.now c.args.right.now c.if-left-right.true (same_among _ _)

pub same_statements-returns-then-not-same_stmt : goal.same_statements-returns-then-not-same_stmt
same_statements-returns-then-not-same_stmt t c =
    false_for_more c.same_stmt.result c.if-not-same_stmt.true c.same_stmt.ensures
    (λ e. let f = mapped_at bare_stmt c.args.left.now c.args.right.now c.loop-at.at c.index-left-at.result c.index-right-at.result (same_order _ _ e) (omega arith) in
    cc (f, c.index-left-at.is, c.index-right-at.is))

pub same_branches-returns-then-not-same_branch : goal.same_branches-returns-then-not-same_branch
same_branches-returns-then-not-same_branch t c =
    false_for_more c.same_branch.result c.if-not-same_branch.true c.same_branch.ensures
    (λ e. let f = mapped_at bare_branch c.args.left.now c.args.right.now c.loop-at.at c.index-left-at.result c.index-right-at.result (same_among _ _ e) (omega arith) in
    cc (f, c.index-left-at.is, c.index-right-at.is))
