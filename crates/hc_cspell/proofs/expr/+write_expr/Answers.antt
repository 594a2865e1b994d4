use Rattle.std.proofs.Common.{◌∙◌}
use Rattle.hc_cspell.proofs.Chains.{then_ok}
use Rattle.hc_cspell.proofs.ExprForms.{expr-Number, expr-Element, expr-Neg, expr-Not, expr-Binary}
use Rattle.hc_cspell.proofs.expr.+write_expr.Goals as goal

pub returns-in-Number : goal.returns-in-Number
returns-in-Number t c =
    then_ok c.number.result c.number.ensures
    (λ last w. rw (expr-Number c.args.tree.now c.in-Number.number c.in-Number.is c.args.level w) (last w))

pub returns-in_ok-write_expr-in-Element : goal.returns-in_ok-write_expr-in-Element
returns-in_ok-write_expr-in-Element t c =
    then_ok c.sign-in-Element.result c.sign-in-Element.ensures
    (λ last w. rw (expr-Element c.args.tree.now c.in-Element.array c.in-Element.index c.in-Element.is c.args.level w, ← c.get.ensures)
    (last w ∙ c.in_ok-write_expr-in-Element.ensures _ ∙ c.in_ok-sign-in-Element.ensures _ ∙ c.in_ok-array-in-Element.ensures _))

pub returns-in_ok-sign-in-Neg : goal.returns-in_ok-sign-in-Neg
returns-in_ok-sign-in-Neg t c =
    then_ok c.write_expr-in-Neg.result c.write_expr-in-Neg.ensures
    (λ last w. rw (expr-Neg c.args.tree.now c.in-Neg.part c.in-Neg.is c.args.level w, ← c.get-in-Neg.ensures) (last w ∙ c.in_ok-sign-in-Neg.ensures _))

pub returns-in_ok-sign-in-Not : goal.returns-in_ok-sign-in-Not
returns-in_ok-sign-in-Not t c =
    then_ok c.write_expr-in-Not.result c.write_expr-in-Not.ensures
    (λ last w. rw (expr-Not c.args.tree.now c.in-Not.part c.in-Not.is c.args.level w, ← c.get-in-Not.ensures) (last w ∙ c.in_ok-sign-in-Not.ensures _))

pub returns-in_ok-write_expr-in-Binary-2 : goal.returns-in_ok-write_expr-in-Binary-2
returns-in_ok-write_expr-in-Binary-2 t c =
    then_ok c.sign_if-in-Binary.result c.sign_if-in-Binary.ensures
    (λ last w. rw (
      expr-Binary c.args.tree.now c.in-Binary.op c.in-Binary.left c.in-Binary.right c.in-Binary.is c.args.level w,
      ← c.left_of.ensures,
      ← c.right_of.ensures,
      ← c.sign_of.ensures,
      ← c.own_of.ensures,
      ← c.needs_round-brackets.ensures,
      ← c.get-in-Binary.ensures,
      ← c.get-in-Binary-2.ensures,
    ) (last w ∙ c.in_ok-write_expr-in-Binary-2.ensures _ ∙ c.in_ok-sign-in-Binary.ensures _
    ∙ c.in_ok-write_expr-in-Binary.ensures _ ∙ c.in_ok-sign_if-in-Binary.ensures _))
