use Rattle.std.proofs.Common.{◌∙◌}
use Rattle.hc_print.proofs.Chains.{then_ok}
use Rattle.hc_print.proofs.Forms.{bare_compare, bare_and, bare_or}
use Rattle.hc_print.proofs.expr.+write_cond.Goals as goal

pub returns-in_ok-sign-in-Compare : goal.returns-in_ok-sign-in-Compare
returns-in_ok-sign-in-Compare t c =
    let is = bare_compare c.args.tree.now c.in-Compare.how c.in-Compare.left c.in-Compare.right c.in-Compare.is in
    then_ok c.write_expr-in-Compare.result c.write_expr-in-Compare.ensures
    (λ last w. rw is (cc (last w ∙ c.in_ok-sign-in-Compare.ensures _ ∙ c.in_ok-write_expr-in-Compare.ensures _)))

pub returns-in_ok-write_cond-in-And-2 : goal.returns-in_ok-write_cond-in-And-2
returns-in_ok-write_cond-in-And-2 t c =
    let is = bare_and c.args.tree.now c.in-And.left c.in-And.right c.in-And.is in
    then_ok c.sign_if-in-And.result c.sign_if-in-And.ensures
    (λ last w. rw is (cc (last w ∙ c.in_ok-write_cond-in-And-2.ensures _ ∙ c.in_ok-sign-in-And.ensures _
    ∙ c.in_ok-write_cond-in-And.ensures _ ∙ c.in_ok-sign_if-in-And.ensures _)))

pub returns-in_ok-write_cond-in-Or-2 : goal.returns-in_ok-write_cond-in-Or-2
returns-in_ok-write_cond-in-Or-2 t c =
    let is = bare_or c.args.tree.now c.in-Or.left c.in-Or.right c.in-Or.is in
    then_ok c.sign_if-in-Or-2.result c.sign_if-in-Or-2.ensures
    (λ last w. rw is (cc (last w ∙ c.in_ok-write_cond-in-Or-2.ensures _ ∙ c.in_ok-sign-in-Or.ensures _
    ∙ c.in_ok-write_cond-in-Or.ensures _ ∙ c.in_ok-sign_if-in-Or.ensures _)))
