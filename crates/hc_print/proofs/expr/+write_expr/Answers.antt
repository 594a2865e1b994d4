use Rattle.std.proofs.Common.{◌∙◌}
use Rattle.hc_print.proofs.Chains.{then_ok}
use Rattle.hc_print.proofs.Forms.{bare_binary}
use Rattle.hc_print.proofs.expr.+write_expr.Goals as goal

pub returns-in_ok-write_expr-in-Binary-2 : goal.returns-in_ok-write_expr-in-Binary-2
returns-in_ok-write_expr-in-Binary-2 t c =
    let is = bare_binary c.args.tree.now c.in-Binary.op c.in-Binary.left c.in-Binary.right c.in-Binary.is in
    then_ok c.sign_if-in-Binary.result c.sign_if-in-Binary.ensures
    (λ last w. rw is (cc (last w ∙ c.in_ok-write_expr-in-Binary-2.ensures _ ∙ c.in_ok-sign-in-Binary.ensures _
    ∙ c.in_ok-write_expr-in-Binary.ensures _ ∙ c.in_ok-sign_if-in-Binary.ensures _)))
