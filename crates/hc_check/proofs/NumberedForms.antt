-- The forms of expressions and conditions whose names are numbers, each by the form that it had before.
use Rattle.std.proofs.Common.{rules, ◌≡◌, List}
use Rattle.hc_frac.specs.declared.decimal.Decimal.{Decimal}
use Rattle.hc_ast.specs.Bare.{Word}
use Rattle.hc_ast.specs.declared.expr.Op as written
use Rattle.hc_ast.specs.declared.expr.Comparison as compared
use Rattle.hc_ast.specs.declared.expr.ExprKind as kinds
use Rattle.hc_ast.specs.declared.expr.ExprKind.TheVariants as plain
use Rattle.hc_ast.specs.declared.expr.ExprKind.TheViews as seen
use Rattle.hc_ast.specs.declared.expr.ExprTree.{ExprTree}
use Rattle.hc_ast.specs.declared.expr.CondKind as cond_kinds
use Rattle.hc_ast.specs.declared.expr.CondKind.TheVariants as bare
use Rattle.hc_ast.specs.declared.expr.CondKind.TheViews as test
use Rattle.hc_ast.specs.declared.expr.CondTree.{CondTree}
use Rattle.hc_term.specs.declared.expr.Expr.TheVariants as an
use Rattle.hc_term.specs.declared.expr.Cond.TheVariants as a
use Rattle.hc_finds.specs.Names.{number_in}
use Rattle.hc_check.specs.Numbered.{op_of, comparison_of, value_of, expr_over, cond_over}

module _ (xs : List Word) (e : ExprTree) where
  pub over-Number : (d : Decimal) → e.kind ≡ plain.Number d → expr_over xs e ≡ value_of d
  over-Number d is = search (rules, kinds.the_lemmas)

  pub over-Name : (x : Word) → e.kind ≡ plain.Name x → expr_over xs e ≡ an.Variable (number_in xs x)
  over-Name x is = search (rules, kinds.the_lemmas)

  pub over-Neg : (b : ExprTree) → e.kind ≡ seen.Neg b → expr_over xs e ≡ an.Neg (expr_over xs b)
  over-Neg b is = search (rules, kinds.the_lemmas)

  pub over-Binary : (op : written.Op) (b c : ExprTree) → e.kind ≡ seen.Binary op b c → expr_over xs e ≡ an.Binary (op_of op) (expr_over xs b) (expr_over xs c)
  over-Binary op b c is = search (rules, kinds.the_lemmas)

module _ (xs : List Word) (c : CondTree) where
  pub over-True : c.kind ≡ bare.True → cond_over xs c ≡ a.True
  over-True is = search (rules, cond_kinds.the_lemmas)

  pub over-False : c.kind ≡ bare.False → cond_over xs c ≡ a.False
  over-False is = search (rules, cond_kinds.the_lemmas)

  pub over-Compare : (how : compared.Comparison) (d e : ExprTree) → c.kind ≡ bare.Compare how d e
      → cond_over xs c ≡ a.Compare (comparison_of how) (expr_over xs d) (expr_over xs e)
  over-Compare how d e is = search (rules, cond_kinds.the_lemmas)

  pub over-Not : (d : CondTree) → c.kind ≡ test.Not d → cond_over xs c ≡ a.Not (cond_over xs d)
  over-Not d is = search (rules, cond_kinds.the_lemmas)

  pub over-And : (d e : CondTree) → c.kind ≡ test.And d e → cond_over xs c ≡ a.And (cond_over xs d) (cond_over xs e)
  over-And d e is = search (rules, cond_kinds.the_lemmas)

  pub over-Or : (d e : CondTree) → c.kind ≡ test.Or d e → cond_over xs c ≡ a.Or (cond_over xs d) (cond_over xs e)
  over-Or d e is = search (rules, cond_kinds.the_lemmas)
