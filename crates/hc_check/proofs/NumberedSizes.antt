-- Numbering changes no count of nodes, and reaches no further than the names that there are.
use Rattle.std.proofs.Common.{◌≡◌, ap, ap₂, sym, subst, ◌∙◌, ℕ, ◌+◌, ◌≤◌, IsTrue, List, [], ◌∷◌, map, length, arith}
use Rattle.std.proofs.lemmas.List.{map-append}
use Rattle.hc_ast.specs.Bare.{Word}
use Rattle.hc_ast.specs.declared.expr.Op.{Op}
use Rattle.hc_ast.specs.declared.expr.ExprKind.TheViews as seen
use Rattle.hc_ast.specs.declared.expr.ExprTree.{ExprTree}
use Rattle.hc_ast.specs.declared.expr.CondTree.{CondTree}
use Rattle.hc_modules.specs.Sizes as source
use Rattle.hc_modules.proofs.Induction.{Each}
use Rattle.hc_term.specs.Profile.{nodes, nodes_in, reach, reach_in}
use Rattle.hc_finds.specs.Exprs.{words_in, names_in, sides}
use Rattle.hc_finds.proofs.ExprForms.{names-neg, names-binary, sides-compare, sides-not, sides-and, sides-or}
use Rattle.hc_check.specs.Numbered.{expr_over, cond_over}
use Rattle.hc_check.proofs.Clean.{is_named}
use Rattle.hc_check.proofs.Numbers.{below}
use Rattle.hc_check.proofs.EachLists.{each_both}
use Rattle.hc_check.proofs.ExprInduction.{ExprSteps, by_expr, CondSteps, by_cond}
use Rattle.hc_check.proofs.NumberedForms as over
use Rattle.hc_check.proofs.SourceForms as of
use Rattle.hc_check.proofs.TermForms as term

module _ (xs : List Word) where
  abbrev SameNodes : ExprTree → Type 0
  SameNodes e = nodes (expr_over xs e) ≡ source.nodes e

  same_steps : ExprSteps SameNodes
  same_steps = record {
    number = λ e d is. ap nodes (over.over-Number xs e d is) ∙ term.nodes-Number _ ∙ sym (of.nodes-number e d is);
    name = λ e x is. ap nodes (over.over-Name xs e x is) ∙ term.nodes-Variable _ ∙ sym (of.nodes-name e x is);
    neg = λ e a is f. ap nodes (over.over-Neg xs e a is) ∙ term.nodes-Neg _ ∙ ap (λ n. 1 + n) f ∙ sym (of.nodes-neg e a is);
    binary = λ e op a b is f g. ap nodes (over.over-Binary xs e op a b is) ∙ term.nodes-Binary _ _ _
        ∙ ap₂ (λ (m n : ℕ). 1 + m + n) f g ∙ sym (of.nodes-binary e op a b is);
  }

  pub nodes_same : (e : ExprTree) → nodes (expr_over xs e) ≡ source.nodes e
  nodes_same = by_expr SameNodes same_steps

  abbrev SameInside : CondTree → Type 0
  SameInside c = nodes_in (cond_over xs c) ≡ source.cond_nodes c

  inside_steps : CondSteps SameInside
  inside_steps = record {
    holds = λ c is. ap nodes_in (over.over-True xs c is) ∙ term.nodes-True ∙ sym (of.nodes-true c is);
    fails = λ c is. ap nodes_in (over.over-False xs c is) ∙ term.nodes-False ∙ sym (of.nodes-false c is);
    compare = λ c how a b is. ap nodes_in (over.over-Compare xs c how a b is) ∙ term.nodes-Compare _ _ _
        ∙ ap₂ (λ (m n : ℕ). 1 + m + n) (nodes_same a) (nodes_same b) ∙ sym (of.nodes-compare c how a b is);
    negated = λ c x is f. ap nodes_in (over.over-Not xs c x is) ∙ term.nodes-Not _ ∙ ap (λ n. 1 + n) f ∙ sym (of.nodes-not c x is);
    conjoined = λ c x y is f g. ap nodes_in (over.over-And xs c x y is) ∙ term.nodes-And _ _
        ∙ ap₂ (λ (m n : ℕ). 1 + m + n) f g ∙ sym (of.nodes-and c x y is);
    disjoined = λ c x y is f g. ap nodes_in (over.over-Or xs c x y is) ∙ term.nodes-Or _ _
        ∙ ap₂ (λ (m n : ℕ). 1 + m + n) f g ∙ sym (of.nodes-or c x y is);
  }

  pub cond_nodes_same : (c : CondTree) → nodes_in (cond_over xs c) ≡ source.cond_nodes c
  cond_nodes_same = by_cond SameInside inside_steps

  -- ---- how far they reach

  abbrev pub AreNamed : ExprTree → Type 0
  AreNamed e = Each (λ v. IsTrue (is_named xs v)) (words_in e)

  pub named-neg : (e a : ExprTree) → e.kind ≡ seen.Neg a → AreNamed e → AreNamed a
  named-neg e a is h = subst (λ (ns : List Word). Each (λ v. IsTrue (is_named xs v)) ns) (ap (map (λ n. n.word)) (names-neg e a is)) h

  pub named-binary : (e : ExprTree) (op : Op) (a b : ExprTree) → e.kind ≡ seen.Binary op a b → AreNamed e → AreNamed a × AreNamed b
  named-binary e op a b is h =
      each_both (λ v. IsTrue (is_named xs v)) (words_in a) (words_in b)
      (subst (λ (ns : List Word). Each (λ v. IsTrue (is_named xs v)) ns)
      (ap (map (λ n. n.word)) (names-binary e op a b is) ∙ map-append (λ n. n.word) (names_in a) (names_in b)) h)

  pub named-name : (e : ExprTree) (x : Word) → words_in e ≡ x ∷ [] → AreNamed e → IsTrue (is_named xs x)
  named-name e x is h = let k = subst (λ (ns : List Word). Each (λ v. IsTrue (is_named xs v)) ns) is h in k.0

  abbrev IsWithin : ExprTree → Type 0
  IsWithin e = AreNamed e → reach (expr_over xs e) ≤ length xs

  within_steps : ExprSteps IsWithin
  within_steps = record {
    number = λ e d is h. let r = ap reach (over.over-Number xs e d is) ∙ term.reach-Number _ in omega (arith, r);
    name = λ e x is h.
        let r = ap reach (over.over-Name xs e x is) ∙ term.reach-Variable _ in
        omega (arith, r, below xs x (named-name e x (of.words-name e x is) h));
    neg = λ e a is f h.
        let r = ap reach (over.over-Neg xs e a is) ∙ term.reach-Neg _ in
        omega (arith, r, f (named-neg e a is h));
    binary = λ e op a b is f g h.
        let parts = named-binary e op a b is h in
        let r = ap reach (over.over-Binary xs e op a b is) ∙ term.reach-Binary _ _ _ in
        omega (arith, r, f parts.0, g parts.1);
  }

  pub reach_within : (e : ExprTree) → AreNamed e → reach (expr_over xs e) ≤ length xs
  reach_within = by_expr IsWithin within_steps

  abbrev IsWithinCond : CondTree → Type 0
  IsWithinCond c = Each AreNamed (sides c) → reach_in (cond_over xs c) ≤ length xs

  cond_within_steps : CondSteps IsWithinCond
  cond_within_steps = record {
    holds = λ c is h. let r = ap reach_in (over.over-True xs c is) ∙ term.reach-True in omega (arith, r);
    fails = λ c is h. let r = ap reach_in (over.over-False xs c is) ∙ term.reach-False in omega (arith, r);
    compare = λ c how a b is h.
        let parts = subst (λ (es : List ExprTree). Each AreNamed es) (sides-compare c how a b is) h in
        let r = ap reach_in (over.over-Compare xs c how a b is) ∙ term.reach-Compare _ _ _ in
        omega (arith, r, reach_within a parts.0, reach_within b parts.1.0);
    negated = λ c x is f h.
        let r = ap reach_in (over.over-Not xs c x is) ∙ term.reach-Not _ in
        omega (arith, r, f (subst (λ (es : List ExprTree). Each AreNamed es) (sides-not c x is) h));
    conjoined = λ c x y is f g h.
        let parts = each_both AreNamed (sides x) (sides y) (subst (λ (es : List ExprTree). Each AreNamed es) (sides-and c x y is) h) in
        let r = ap reach_in (over.over-And xs c x y is) ∙ term.reach-And _ _ in
        omega (arith, r, f parts.0, g parts.1);
    disjoined = λ c x y is f g h.
        let parts = each_both AreNamed (sides x) (sides y) (subst (λ (es : List ExprTree). Each AreNamed es) (sides-or c x y is) h) in
        let r = ap reach_in (over.over-Or xs c x y is) ∙ term.reach-Or _ _ in
        omega (arith, r, f parts.0, g parts.1);
  }

  pub cond_reach_within : (c : CondTree) → Each AreNamed (sides c) → reach_in (cond_over xs c) ≤ length xs
  cond_reach_within = by_cond IsWithinCond cond_within_steps
