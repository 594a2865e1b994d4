-- What each form of an expression and of a condition says without places.
use Rattle.std.proofs.Common.{rules, ◌≡◌}
use Rattle.hc_frac.specs.declared.decimal.Decimal.{Decimal}
use Rattle.hc_ast.specs.Bare.{number, name, neg, binary, always, never, compare, negation, both, either, Word}
use Rattle.hc_ast.specs.Unplaced.{bare_expr, bare_cond}
use Rattle.hc_ast.specs.declared.expr.Op.{Op}
use Rattle.hc_ast.specs.declared.expr.Comparison.{Comparison}
use Rattle.hc_ast.specs.declared.expr.ExprKind.TheVariants as e
use Rattle.hc_ast.specs.declared.expr.ExprKind as expr_kind
use Rattle.hc_ast.specs.declared.expr.ExprTree.{ExprTree}
use Rattle.hc_ast.specs.declared.expr.CondKind.TheVariants as c
use Rattle.hc_ast.specs.declared.expr.CondKind as cond_kind
use Rattle.hc_ast.specs.declared.expr.CondTree.{CondTree}

pub bare_number : (t : ExprTree) (d : Decimal) → t.kind ≡ e.Number d → bare_expr t ≡ number d.digits d.places
bare_number t d e = search (rules, expr_kind.the_lemmas)

pub bare_name : (t : ExprTree) (x : Word) → t.kind ≡ e.Name x → bare_expr t ≡ name x
bare_name t x e = search (rules, expr_kind.the_lemmas)

pub bare_neg : (t x : ExprTree) → t.kind ≡ e.Neg x → bare_expr t ≡ neg (bare_expr x)
bare_neg t x e = search (rules, expr_kind.the_lemmas)

pub bare_binary : (t : ExprTree) (op : Op) (x y : ExprTree) → t.kind ≡ e.Binary op x y
    → bare_expr t ≡ binary op (bare_expr x) (bare_expr y)
bare_binary t op x y e = search (rules, expr_kind.the_lemmas)

pub bare_always : (t : CondTree) → t.kind ≡ c.True → bare_cond t ≡ always
bare_always t e = search (rules, cond_kind.the_lemmas)

pub bare_never : (t : CondTree) → t.kind ≡ c.False → bare_cond t ≡ never
bare_never t e = search (rules, cond_kind.the_lemmas)

pub bare_compare : (t : CondTree) (how : Comparison) (x y : ExprTree) → t.kind ≡ c.Compare how x y
    → bare_cond t ≡ compare how (bare_expr x) (bare_expr y)
bare_compare t how x y e = search (rules, cond_kind.the_lemmas)

pub bare_not : (t x : CondTree) → t.kind ≡ c.Not x → bare_cond t ≡ negation (bare_cond x)
bare_not t x e = search (rules, cond_kind.the_lemmas)

pub bare_and : (t x y : CondTree) → t.kind ≡ c.And x y → bare_cond t ≡ both (bare_cond x) (bare_cond y)
bare_and t x y e = search (rules, cond_kind.the_lemmas)

pub bare_or : (t x y : CondTree) → t.kind ≡ c.Or x y → bare_cond t ≡ either (bare_cond x) (bare_cond y)
bare_or t x y e = search (rules, cond_kind.the_lemmas)

pub ruleset forms = (bare_number, bare_name, bare_neg, bare_binary, bare_always, bare_never, bare_compare, bare_not, bare_and, bare_or)
