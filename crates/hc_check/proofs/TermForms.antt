-- Nodes, reach and form of each form of an expression and a condition.
use Rattle.std.proofs.Common.{rules, ◌≡◌, ℕ, ◌+◌, max, not, true, false, ◌&&◌, ◌||◌, None}
use Rattle.std.specs.Prelude.{slice_index_or}
use Rattle.hc_rational.specs.Words.{Rational, is_zero}
use Rattle.hc_term.specs.declared.expr.Op.{Op}
use Rattle.hc_term.specs.declared.expr.Comparison.{Comparison}
use Rattle.hc_term.specs.declared.expr.Expr.{Expr}
use Rattle.hc_term.specs.declared.expr.Expr as exprs
use Rattle.hc_term.specs.declared.expr.Expr.TheVariants as an
use Rattle.hc_term.specs.declared.expr.Cond.{Cond}
use Rattle.hc_term.specs.declared.expr.Cond as conds
use Rattle.hc_term.specs.declared.expr.Cond.TheVariants as a
use Rattle.hc_term.specs.declared.form.Form.{Form}
use Rattle.hc_term.specs.Motion.{Rates, evolves, allowed, form}
use Rattle.hc_term.specs.EndMoment.{is_domain}
use Rattle.hc_term.specs.Profile.{nodes, nodes_in, reach, reach_in}

pub nodes-Number : (q : Rational) → nodes (an.Number q) ≡ 1
nodes-Number q = search (rules, exprs.the_lemmas)

pub nodes-Variable : (x : ℕ) → nodes (an.Variable x) ≡ 1
nodes-Variable x = search (rules, exprs.the_lemmas)

pub nodes-Neg : (t : Expr) → nodes (an.Neg t) ≡ 1 + nodes t
nodes-Neg t = search (rules, exprs.the_lemmas)

pub nodes-Binary : (op : Op) (t u : Expr) → nodes (an.Binary op t u) ≡ 1 + nodes t + nodes u
nodes-Binary op t u = search (rules, exprs.the_lemmas)

pub reach-Number : (q : Rational) → reach (an.Number q) ≡ 0
reach-Number q = search (rules, exprs.the_lemmas)

pub reach-Variable : (x : ℕ) → reach (an.Variable x) ≡ x + 1
reach-Variable x = search (rules, exprs.the_lemmas)

pub reach-Neg : (t : Expr) → reach (an.Neg t) ≡ reach t
reach-Neg t = search (rules, exprs.the_lemmas)

pub reach-Binary : (op : Op) (t u : Expr) → reach (an.Binary op t u) ≡ max (reach t) (reach u)
reach-Binary op t u = search (rules, exprs.the_lemmas)

module _ (r : Rates) where
  pub form-Number : (q : Rational) → form r (an.Number q) ≡ (let f : Form = record { affine = true; moves = false; divides = not (is_zero q) } in f)
  form-Number q = search (rules, exprs.the_lemmas)

  pub form-Variable : (x : ℕ) → form r (an.Variable x) ≡ (let f : Form = record { affine = true; moves = evolves (slice_index_or r x None); divides = false } in f)
  form-Variable x = search (rules, exprs.the_lemmas)

  pub form-Neg : (t : Expr) → form r (an.Neg t) ≡ (let f : Form = record { affine = (form r t).affine; moves = (form r t).moves; divides = false } in f)
  form-Neg t = search (rules, exprs.the_lemmas)

  pub form-Binary : (op : Op) (t u : Expr) → form r (an.Binary op t u) ≡ (let f : Form = record {
    affine = (form r t).affine && (form r u).affine && allowed op (form r t) (form r u);
    moves = (form r t).moves || (form r u).moves;
    divides = false;
  } in f)
  form-Binary op t u = search (rules, exprs.the_lemmas)

  pub domain-True : is_domain r a.True ≡ true
  domain-True = search (rules, conds.the_lemmas)

  pub domain-False : is_domain r a.False ≡ true
  domain-False = search (rules, conds.the_lemmas)

  pub domain-Compare : (how : Comparison) (t u : Expr) → is_domain r (a.Compare how t u) ≡ ((form r t).affine && (form r u).affine)
  domain-Compare how t u = search (rules, conds.the_lemmas)

  pub domain-Not : (c : Cond) → is_domain r (a.Not c) ≡ is_domain r c
  domain-Not c = search (rules, conds.the_lemmas)

  pub domain-And : (c d : Cond) → is_domain r (a.And c d) ≡ (is_domain r c && is_domain r d)
  domain-And c d = search (rules, conds.the_lemmas)

  pub domain-Or : (c d : Cond) → is_domain r (a.Or c d) ≡ (is_domain r c && is_domain r d)
  domain-Or c d = search (rules, conds.the_lemmas)

pub nodes-True : nodes_in a.True ≡ 1
nodes-True = search (rules, conds.the_lemmas)

pub nodes-False : nodes_in a.False ≡ 1
nodes-False = search (rules, conds.the_lemmas)

pub nodes-Compare : (how : Comparison) (t u : Expr) → nodes_in (a.Compare how t u) ≡ 1 + nodes t + nodes u
nodes-Compare how t u = search (rules, conds.the_lemmas)

pub nodes-Not : (c : Cond) → nodes_in (a.Not c) ≡ 1 + nodes_in c
nodes-Not c = search (rules, conds.the_lemmas)

pub nodes-And : (c d : Cond) → nodes_in (a.And c d) ≡ 1 + nodes_in c + nodes_in d
nodes-And c d = search (rules, conds.the_lemmas)

pub nodes-Or : (c d : Cond) → nodes_in (a.Or c d) ≡ 1 + nodes_in c + nodes_in d
nodes-Or c d = search (rules, conds.the_lemmas)

pub reach-True : reach_in a.True ≡ 0
reach-True = search (rules, conds.the_lemmas)

pub reach-False : reach_in a.False ≡ 0
reach-False = search (rules, conds.the_lemmas)

pub reach-Compare : (how : Comparison) (t u : Expr) → reach_in (a.Compare how t u) ≡ max (reach t) (reach u)
reach-Compare how t u = search (rules, conds.the_lemmas)

pub reach-Not : (c : Cond) → reach_in (a.Not c) ≡ reach_in c
reach-Not c = search (rules, conds.the_lemmas)

pub reach-And : (c d : Cond) → reach_in (a.And c d) ≡ max (reach_in c) (reach_in d)
reach-And c d = search (rules, conds.the_lemmas)

pub reach-Or : (c d : Cond) → reach_in (a.Or c d) ≡ max (reach_in c) (reach_in d)
reach-Or c d = search (rules, conds.the_lemmas)
