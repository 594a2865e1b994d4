-- Induction over expressions and conditions: what holds of each wherever it holds of those inside it.
use Rattle.std.proofs.Common.{◌≡◌, refl, sym, subst}
use denote.Hole.Carrier
use Rattle.hc_frac.specs.declared.place.Place.{Place}
use Rattle.hc_frac.specs.declared.decimal.Decimal.{Decimal}
use Rattle.hc_ast.specs.Bare.{Word}
use Rattle.hc_ast.specs.declared.expr.Op.{Op}
use Rattle.hc_ast.specs.declared.expr.Comparison.{Comparison}
use Rattle.hc_ast.specs.declared.expr.ExprKind.{ExprKind}
use Rattle.hc_ast.specs.declared.expr.ExprKind.TheVariants as plain
use Rattle.hc_ast.specs.declared.expr.ExprKind.TheViews as seen
use Rattle.hc_ast.specs.declared.expr.ExprKind.TheViews.{roll-ExprKind, roll-ExprTree}
use Rattle.hc_ast.specs.declared.expr.ExprKind.TheOpen.{ExprKind-F}
use Rattle.hc_ast.specs.declared.expr.ExprKind.TheFolds.{ind-ExprTree, map-ExprKind}
use Rattle.hc_ast.specs.declared.expr.ExprTree.{ExprTree}
use Rattle.hc_ast.specs.declared.expr.CondKind.{CondKind}
use Rattle.hc_ast.specs.declared.expr.CondKind.TheVariants as bare
use Rattle.hc_ast.specs.declared.expr.CondKind.TheViews as test
use Rattle.hc_ast.specs.declared.expr.CondKind.TheViews.{roll-CondKind, roll-CondTree}
use Rattle.hc_ast.specs.declared.expr.CondKind.TheOpen.{CondKind-F}
use Rattle.hc_ast.specs.declared.expr.CondKind.TheFolds.{ind-CondTree, map-CondKind}
use Rattle.hc_ast.specs.declared.expr.CondTree.{CondTree}
use Rattle.hc_ast.specs.Exprs.{expr_at}
use Rattle.hc_ast.specs.Conds.{cond_at}

-- what is to be shown of each form of an expression
pub record ExprSteps (P : ExprTree → Type 0) : Type 0 where
  pub number : (e : ExprTree) (d : Decimal) → e.kind ≡ plain.Number d → P e
  pub name : (e : ExprTree) (x : Word) → e.kind ≡ plain.Name x → P e
  pub neg : (e a : ExprTree) → e.kind ≡ seen.Neg a → P a → P e
  pub binary : (e : ExprTree) (op : Op) (a b : ExprTree) → e.kind ≡ seen.Binary op a b → P a → P b → P e

module _ (P : ExprTree → Type 0) (steps : ExprSteps P) where
  abbrev KindWith : Type 0
  KindWith = (k : ExprKind) × ((p : Place) → P (expr_at p k))

  abbrev ExprWith : Type 0
  ExprWith = (e : ExprTree) × P e

  of_kind : (y : ExprKind-F KindWith ExprWith) (p : Place)
      → P (expr_at p (roll-ExprKind (map-ExprKind KindWith ExprWith ExprKind ExprTree (λ e. e.0) (λ e. e.0) y)))
  unfolding roll-ExprKind denote.Hole.Carrier.roll
  of_kind (ExprKind-F.Number d) p = steps.number _ d refl
  of_kind (ExprKind-F.Name x) p = steps.name _ x refl
  of_kind (ExprKind-F.Neg a) p = steps.neg _ a.0 (sym (seen.rolls-Neg a.0)) a.1
  of_kind (ExprKind-F.Binary op a b) p = steps.binary _ op a.0 b.0 (sym (seen.rolls-Binary op a.0 b.0)) a.1 b.1

  pub by_expr : (e : ExprTree) → P e
  by_expr = ind-ExprTree (λ k. (p : Place) → P (expr_at p k)) P
      (λ x y is. subst (λ z. (p : Place) → P (expr_at p (roll-ExprKind z))) is (of_kind y))
      (λ x y is. subst (λ z. P (roll-ExprTree z)) is (y.kind.1 y.place))

-- what is to be shown of each form of a condition
pub record CondSteps (P : CondTree → Type 0) : Type 0 where
  pub holds : (c : CondTree) → c.kind ≡ bare.True → P c
  pub fails : (c : CondTree) → c.kind ≡ bare.False → P c
  pub compare : (c : CondTree) (how : Comparison) (a b : ExprTree) → c.kind ≡ bare.Compare how a b → P c
  pub negated : (c x : CondTree) → c.kind ≡ test.Not x → P x → P c
  pub conjoined : (c x y : CondTree) → c.kind ≡ test.And x y → P x → P y → P c
  pub disjoined : (c x y : CondTree) → c.kind ≡ test.Or x y → P x → P y → P c

module _ (P : CondTree → Type 0) (steps : CondSteps P) where
  abbrev CondKindWith : Type 0
  CondKindWith = (k : CondKind) × ((p : Place) → P (cond_at p k))

  abbrev CondWith : Type 0
  CondWith = (c : CondTree) × P c

  of_cond_kind : (y : CondKind-F CondKindWith CondWith) (p : Place)
      → P (cond_at p (roll-CondKind (map-CondKind CondKindWith CondWith CondKind CondTree (λ e. e.0) (λ e. e.0) y)))
  unfolding roll-CondKind denote.Hole.Carrier.roll
  of_cond_kind CondKind-F.True p = steps.holds _ refl
  of_cond_kind CondKind-F.False p = steps.fails _ refl
  of_cond_kind (CondKind-F.Compare how a b) p = steps.compare _ how a b refl
  of_cond_kind (CondKind-F.Not x) p = steps.negated _ x.0 (sym (test.rolls-Not x.0)) x.1
  of_cond_kind (CondKind-F.And x y) p = steps.conjoined _ x.0 y.0 (sym (test.rolls-And x.0 y.0)) x.1 y.1
  of_cond_kind (CondKind-F.Or x y) p = steps.disjoined _ x.0 y.0 (sym (test.rolls-Or x.0 y.0)) x.1 y.1

  pub by_cond : (c : CondTree) → P c
  by_cond = ind-CondTree (λ k. (p : Place) → P (cond_at p k)) P
      (λ x y is. subst (λ z. (p : Place) → P (cond_at p (roll-CondKind z))) is (of_cond_kind y))
      (λ x y is. subst (λ z. P (roll-CondTree z)) is (y.kind.1 y.place))
