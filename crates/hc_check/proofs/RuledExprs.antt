-- An expression or condition against which nothing is found keeps the rules once its names are numbers.
use Rattle.std.proofs.Common.{◌≡◌, refl, ap, subst, ◌∙◌, ◌≤◌, false, IsTrue, List, [], length, None, arith}
use Rattle.std.specs.Prelude.{slice_index_or}
use Rattle.std.proofs.lemmas.Bool.{le-leb}
use Rattle.hc_ast.specs.Bare.{Word}
use Rattle.hc_ast.specs.declared.expr.ExprTree.{ExprTree}
use Rattle.hc_ast.specs.declared.expr.CondTree.{CondTree}
use Rattle.hc_modules.specs.Sizes as source
use Rattle.hc_modules.proofs.Induction.{Each}
use Rattle.hc_term.specs.Motion.{Rates, evolves, form}
use Rattle.hc_term.specs.EndMoment.{is_domain}
use Rattle.hc_term.specs.Profile.{is_expr, is_cond}
use Rattle.hc_finds.specs.Exprs.{sides, divisors_not_literal, zero_divisors, is_among, moves_of}
use Rattle.hc_finds.specs.Names.{number_in}
use Rattle.hc_finds.proofs.ExprForms as inside
use Rattle.hc_check.specs.Numbered.{expr_over, cond_over}
use Rattle.hc_check.proofs.Clean.{is_named}
use Rattle.hc_check.proofs.EachLists.{both, each_both, each_weaker}
use Rattle.hc_check.proofs.ExprInduction.{CondSteps, by_cond}
use Rattle.hc_check.proofs.NumberedForms as over
use Rattle.hc_check.proofs.NumberedSizes.{AreNamed, nodes_same, cond_nodes_same, reach_within, cond_reach_within}
use Rattle.hc_check.proofs.NumberedLines.{lines, no_products_still}
use Rattle.hc_check.proofs.TermForms as term

-- an expression whose names are among these and whose divisors are numbers other than 0
pub record IsPlain (xs : List Word) (e : ExprTree) : Type 0 where
  pub named : AreNamed xs e
  pub literal : divisors_not_literal false e ≡ []
  pub nonzero : zero_divisors false e ≡ []

-- the variables of these names evolve, and no others
abbrev pub Agree : List Word → List Word → Rates → Type 0
Agree xs ys r = (v : Word) → IsTrue (is_named xs v) → evolves (slice_index_or r (number_in xs v) None) ≡ is_among ys v

pub none_agree : (xs : List Word) → Agree xs [] []
none_agree xs v h = refl

module _ (xs ys : List Word) (r : Rates) (agree : Agree xs ys r) where
  -- and whose products have evolving variables on one side at most
  abbrev pub IsLinear : ExprTree → Type 0
  IsLinear e = IsPlain xs e × ((moves_of ys e).products ≡ [])

  pub affine : (e : ExprTree) → IsLinear e → IsTrue (form r (expr_over xs e)).affine
  affine e h = (lines xs ys r agree e false h.0.named h.0.literal h.0.nonzero h.1).affine

  abbrev IsDomain : CondTree → Type 0
  IsDomain c = Each IsLinear (sides c) → IsTrue (is_domain r (cond_over xs c))

  domain_steps : CondSteps IsDomain
  domain_steps = record {
    holds = λ c is h. ap (is_domain r) (over.over-True xs c is) ∙ term.domain-True r;
    fails = λ c is h. ap (is_domain r) (over.over-False xs c is) ∙ term.domain-False r;
    compare = λ c how a b is h.
        let parts = subst (λ (es : List ExprTree). Each IsLinear es) (inside.sides-compare c how a b is) h in
        ap (is_domain r) (over.over-Compare xs c how a b is) ∙ term.domain-Compare r _ _ _ ∙ both (affine a parts.0) (affine b parts.1.0);
    negated = λ c x is f h. ap (is_domain r) (over.over-Not xs c x is) ∙ term.domain-Not r _
        ∙ f (subst (λ (es : List ExprTree). Each IsLinear es) (inside.sides-not c x is) h);
    conjoined = λ c x y is f g h.
        let parts = each_both IsLinear (sides x) (sides y) (subst (λ (es : List ExprTree). Each IsLinear es) (inside.sides-and c x y is) h) in
        ap (is_domain r) (over.over-And xs c x y is) ∙ term.domain-And r _ _ ∙ both (f parts.0) (g parts.1);
    disjoined = λ c x y is f g h.
        let parts = each_both IsLinear (sides x) (sides y) (subst (λ (es : List ExprTree). Each IsLinear es) (inside.sides-or c x y is) h) in
        ap (is_domain r) (over.over-Or xs c x y is) ∙ term.domain-Or r _ _ ∙ both (f parts.0) (g parts.1);
  }

  pub domain : (c : CondTree) → Each IsLinear (sides c) → IsTrue (is_domain r (cond_over xs c))
  domain = by_cond IsDomain domain_steps

module _ (xs : List Word) where
  -- where nothing evolves
  still : (e : ExprTree) → IsPlain xs e → IsLinear xs [] [] (none_agree xs) e
  still e h = (h, no_products_still e)

  pub expr_ruled : (e : ExprTree) → IsPlain xs e → source.nodes e ≤ 200 → IsTrue (is_expr (length xs) (expr_over xs e))
  expr_ruled e h few =
      both (both (le-leb _ _ (omega (arith, nodes_same xs e, few))) (le-leb _ _ (reach_within xs e h.named)))
      (affine xs [] [] (none_agree xs) e (still e h))

  pub cond_ruled : (c : CondTree) → Each (IsPlain xs) (sides c) → source.cond_nodes c ≤ 200 → IsTrue (is_cond (length xs) (cond_over xs c))
  cond_ruled c h few =
      both (both (le-leb _ _ (omega (arith, cond_nodes_same xs c, few)))
      (le-leb _ _ (cond_reach_within xs c (each_weaker (IsPlain xs) (AreNamed xs) (λ e k. k.named) (sides c) h))))
      (domain xs [] [] (none_agree xs) c (each_weaker (IsPlain xs) (IsLinear xs [] [] (none_agree xs)) still (sides c) h))
