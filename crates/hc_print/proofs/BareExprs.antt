-- What the phrases of expressions and conditions say without places.
use Rattle.hc_ast.specs.Bare.{BareExpr, number, name, neg, binary, BareCond, always, never, compare, negation, both, either}
use Rattle.hc_ast.specs.Exprs as g
use Rattle.hc_ast.specs.Conds as h

abbrev mutual
  pub expr_bare : g.Expr → BareExpr
  expr_bare (g.sum t ss) = sums_bare ss (term_bare t)

  pub sums_bare : g.Sums → BareExpr → BareExpr
  sums_bare g.no_more left = left
  sums_bare (g.added s t ss) left = sums_bare ss (binary s.1 left (term_bare t))

  pub term_bare : g.Term → BareExpr
  term_bare (g.product f ps) = products_bare ps (factor_bare f)

  pub products_bare : g.Products → BareExpr → BareExpr
  products_bare g.no_other left = left
  products_bare (g.multiplied s f ps) left = products_bare ps (binary s.1 left (factor_bare f))

  pub factor_bare : g.Factor → BareExpr
  factor_bare (g.minus t f) = neg (factor_bare f)
  factor_bare (g.number t) = number t.1.digits t.1.places
  factor_bare (g.variable t) = name t.1
  factor_bare (g.brackets a x b) = expr_bare x

abbrev mutual
  pub cond_bare : h.Cond → BareCond
  cond_bare (h.either b os) = ors_bare os (both_bare b)

  pub ors_bare : h.Ors → BareCond → BareCond
  ors_bare h.no_more left = left
  ors_bare (h.or_both t b os) left = ors_bare os (either left (both_bare b))

  pub both_bare : h.Both → BareCond
  both_bare (h.both o bs) = ands_bare bs (one_bare o)

  pub ands_bare : h.Ands → BareCond → BareCond
  ands_bare h.no_other left = left
  ands_bare (h.and_one t o bs) left = ands_bare bs (both left (one_bare o))

  pub one_bare : h.One → BareCond
  one_bare (h.negation t o) = negation (one_bare o)
  one_bare (h.always t) = always
  one_bare (h.never t) = never
  one_bare (h.brackets a x b) = cond_bare x
  one_bare (h.compare x s y) = compare s.1 (expr_bare x) (expr_bare y)
