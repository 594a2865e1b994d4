-- The trees of expressions and conditions say that.
use Rattle.std.proofs.Common.{◌≡◌, refl, ap, ap₂, ◌∙◌}
use Rattle.hc_ast.specs.Bare.{BareExpr, neg, binary, BareCond, compare, negation, both, either}
use Rattle.hc_ast.specs.declared.expr.ExprTree.{ExprTree}
use Rattle.hc_ast.specs.declared.expr.ExprKind.TheVariants as e
use Rattle.hc_ast.specs.declared.expr.CondTree.{CondTree}
use Rattle.hc_ast.specs.declared.expr.CondKind.TheVariants as c
use Rattle.hc_ast.specs.Unplaced.{bare_expr, bare_cond}
use Rattle.hc_ast.specs.Exprs as g
use Rattle.hc_ast.specs.Exprs.{expr_at, expr_tree, sums_tree, term_tree, products_tree, factor_tree}
use Rattle.hc_ast.specs.Conds as h
use Rattle.hc_ast.specs.Conds.{cond_at, cond_tree, ors_tree, both_tree, ands_tree, one_tree}
use Rattle.hc_print.proofs.Forms.{bare_number, bare_name, bare_neg, bare_binary, bare_always, bare_never, bare_compare, bare_not, bare_and, bare_or}
use Rattle.hc_print.proofs.BareExprs.{expr_bare, sums_bare, term_bare, products_bare, factor_bare, cond_bare, ors_bare, both_bare, ands_bare, one_bare}

mutual
  pub expr_same : (x : g.Expr) → bare_expr (expr_tree x) ≡ expr_bare x
  expr_same (g.sum t ss) = sums_same ss (term_tree t) (term_bare t) (term_same t)

  pub sums_same : (ss : g.Sums) (left : ExprTree) (b : BareExpr) → bare_expr left ≡ b
      → bare_expr (sums_tree ss left) ≡ sums_bare ss b
  sums_same g.no_more left b i = i
  sums_same (g.added s t ss) left b i =
      sums_same ss (expr_at s.0.place (e.Binary s.1 left (term_tree t))) (binary s.1 b (term_bare t))
      (bare_binary (expr_at s.0.place (e.Binary s.1 left (term_tree t))) s.1 left (term_tree t) refl
      ∙ ap₂ (binary s.1) i (term_same t))

  pub term_same : (x : g.Term) → bare_expr (term_tree x) ≡ term_bare x
  term_same (g.product f ps) = products_same ps (factor_tree f) (factor_bare f) (factor_same f)

  pub products_same : (ps : g.Products) (left : ExprTree) (b : BareExpr) → bare_expr left ≡ b
      → bare_expr (products_tree ps left) ≡ products_bare ps b
  products_same g.no_other left b i = i
  products_same (g.multiplied s f ps) left b i =
      products_same ps (expr_at s.0.place (e.Binary s.1 left (factor_tree f))) (binary s.1 b (factor_bare f))
      (bare_binary (expr_at s.0.place (e.Binary s.1 left (factor_tree f))) s.1 left (factor_tree f) refl
      ∙ ap₂ (binary s.1) i (factor_same f))

  pub factor_same : (x : g.Factor) → bare_expr (factor_tree x) ≡ factor_bare x
  factor_same (g.minus t f) =
      bare_neg (expr_at t.0.place (e.Neg (factor_tree f))) (factor_tree f) refl ∙ ap neg (factor_same f)
  factor_same (g.number t) =
      bare_number (expr_at t.0.place (e.Number t.1)) t.1 refl
  factor_same (g.variable t) = bare_name (expr_at t.0.place (e.Name t.1)) t.1 refl
  factor_same (g.brackets a x b) = expr_same x

mutual
  pub cond_same : (x : h.Cond) → bare_cond (cond_tree x) ≡ cond_bare x
  cond_same (h.either b os) = ors_same os (both_tree b) (both_bare b) (both_same b)

  pub ors_same : (os : h.Ors) (left : CondTree) (b : BareCond) → bare_cond left ≡ b
      → bare_cond (ors_tree os left) ≡ ors_bare os b
  ors_same h.no_more left b i = i
  ors_same (h.or_both t x os) left b i =
      ors_same os (cond_at t.0.place (c.Or left (both_tree x))) (either b (both_bare x))
      (bare_or (cond_at t.0.place (c.Or left (both_tree x))) left (both_tree x) refl ∙ ap₂ either i (both_same x))

  pub both_same : (x : h.Both) → bare_cond (both_tree x) ≡ both_bare x
  both_same (h.both o bs) = ands_same bs (one_tree o) (one_bare o) (one_same o)

  pub ands_same : (bs : h.Ands) (left : CondTree) (b : BareCond) → bare_cond left ≡ b
      → bare_cond (ands_tree bs left) ≡ ands_bare bs b
  ands_same h.no_other left b i = i
  ands_same (h.and_one t x bs) left b i =
      ands_same bs (cond_at t.0.place (c.And left (one_tree x))) (both b (one_bare x))
      (bare_and (cond_at t.0.place (c.And left (one_tree x))) left (one_tree x) refl ∙ ap₂ both i (one_same x))

  pub one_same : (x : h.One) → bare_cond (one_tree x) ≡ one_bare x
  one_same (h.negation t o) = bare_not (cond_at t.0.place (c.Not (one_tree o))) (one_tree o) refl ∙ ap negation (one_same o)
  one_same (h.always t) = bare_always (cond_at t.0.place c.True) refl
  one_same (h.never t) = bare_never (cond_at t.0.place c.False) refl
  one_same (h.brackets a x b) = cond_same x
  one_same (h.compare x s y) =
      bare_compare (cond_at s.0.place (c.Compare s.1 (expr_tree x) (expr_tree y))) s.1 (expr_tree x) (expr_tree y) refl
      ∙ ap₂ (compare s.1) (expr_same x) (expr_same y)
