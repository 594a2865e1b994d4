-- The sides of a domain's comparisons are expressions of the profile, and move along lines.
use Rattle.std.specs.Prelude.{◌≡◌, ◌≤◌, ℕ, ◌+◌, max, nat_le, Bool, true, ◌&&◌, List, [], ◌++◌, IsTrue}
use Rattle.std.specs.List.{list_all}
use Rattle.std.proofs.Common.{refl, sym, ap, ◌∙◌, arith}
use Rattle.std.proofs.lemmas.Bool.{and_parts, and_from, le-leb}
use Rattle.std.proofs.lemmas.List.Folds.{list_all-append}
use Rattle.hc_limits.specs.Limits.{most_nodes}
use Rattle.hc_term.specs.declared.expr.Expr.{Expr}
use Rattle.hc_term.specs.declared.expr.Comparison.{Comparison}
use Rattle.hc_term.specs.declared.expr.Cond.{Cond}
use Rattle.hc_term.specs.declared.expr.Cond.TheVariants as plain
use Rattle.hc_term.specs.declared.expr.Cond.TheViews as seen
use Rattle.hc_term.specs.Motion.{Rates, form}
use Rattle.hc_term.specs.EndMoment.{domain_layer, is_domain}
use Rattle.hc_term.specs.Profile.{nodes, nodes_in_layer, nodes_in, reach, reach_in_layer, reach_in, is_expr}
use Rattle.hc_cvalue.proofs.CondForms as forms
use Rattle.hc_cend.specs.Lining.{Compared, compared_layer, compared, is_side, are_sides}

-- of so many nodes at most
abbrev pub within : ℕ → Expr → Bool
within k e = nat_le (nodes e) k

module _ (vars : ℕ) (pattern : Rates) (k : ℕ) where
  abbrev Good : Compared → Bool
  Good q = are_sides vars pattern (within k) q

  abbrev HasSides : Cond → Type 0
  HasSides e =
      nodes_in e ≤ most_nodes → nodes_in e ≤ k → reach_in e ≤ vars → is_domain [] e ≡ true → is_domain pattern e ≡ true → list_all (are_sides vars pattern (within k)) (compared e) ≡ true

  nothing : (e : Cond) → compared e ≡ [] → HasSides e
  nothing e q few short reaches plain' moving = ap (list_all (are_sides vars pattern (within k))) q

  side_is : (e : Expr) → nodes e ≤ most_nodes → nodes e ≤ k → reach e ≤ vars → (form [] e).affine ≡ true → (form pattern e).affine ≡ true → is_side vars pattern (within k) e ≡ true
  side_is e few short reaches plain' moving =
      let small = and_from (nat_le (nodes e) most_nodes) (nat_le (reach e) vars) (le-leb (nodes e) most_nodes few) (le-leb (reach e) vars reaches) in
      let expr = and_from (nat_le (nodes e) most_nodes && nat_le (reach e) vars) (form [] e).affine small plain' in
      and_from (is_expr vars e) ((form pattern e).affine && within k e) expr (and_from (form pattern e).affine (within k e) moving (le-leb (nodes e) k short))

  comparison : (e : Cond) (how : Comparison) (a b : Expr) → e ≡ plain.Compare how a b → HasSides e
  comparison e how a b h few short reaches plain' moving =
      let q = forms.fold-Compare (List Compared) compared_layer e how a b h in
      let n = forms.fold-Compare ℕ nodes_in_layer e how a b h in
      let r = forms.fold-Compare ℕ reach_in_layer e how a b h in
      let x = and_parts (form [] a).affine (form [] b).affine (sym (forms.fold-Compare Bool (domain_layer []) e how a b h) ∙ plain') in
      let y = and_parts (form pattern a).affine (form pattern b).affine (sym (forms.fold-Compare Bool (domain_layer pattern) e how a b h) ∙ moving) in
      let left = side_is a (omega (arith, few, n)) (omega (arith, short, n)) (omega (arith, reaches, r)) x.0 y.0 in
      let right = side_is b (omega (arith, few, n)) (omega (arith, short, n)) (omega (arith, reaches, r)) x.1 y.1 in
      let pair = and_from (is_side vars pattern (within k) a) (is_side vars pattern (within k) b) left right in
      ap (list_all (are_sides vars pattern (within k))) q ∙ and_from (are_sides vars pattern (within k) (record { left = a; right = b })) true pair refl

  negated : (e a : Cond) → e ≡ seen.Not a → HasSides a → HasSides e
  negated e a h i few short reaches plain' moving =
      let q = forms.fold-Not (List Compared) compared_layer e a h in
      let n = forms.fold-Not ℕ nodes_in_layer e a h in
      let r = forms.fold-Not ℕ reach_in_layer e a h in
      ap (list_all (are_sides vars pattern (within k))) q
      ∙ i (omega (arith, few, n)) (omega (arith, short, n)) (omega (arith, reaches, r)) (sym (forms.fold-Not Bool (domain_layer []) e a h) ∙ plain')
      (sym (forms.fold-Not Bool (domain_layer pattern) e a h) ∙ moving)

  both : (e a b : Cond) → compared e ≡ compared a ++ compared b → nodes_in e ≡ 1 + nodes_in a + nodes_in b → reach_in e ≡ max (reach_in a) (reach_in b) →
      is_domain [] e ≡ (is_domain [] a && is_domain [] b) → is_domain pattern e ≡ (is_domain pattern a && is_domain pattern b) → HasSides a → HasSides b → HasSides e
  both e a b q n r d x' i j few short reaches plain' moving =
      let x = and_parts (is_domain [] a) (is_domain [] b) (sym d ∙ plain') in
      let y = and_parts (is_domain pattern a) (is_domain pattern b) (sym x' ∙ moving) in
      let left = i (omega (arith, few, n)) (omega (arith, short, n)) (omega (arith, reaches, r)) x.0 y.0 in
      let right = j (omega (arith, few, n)) (omega (arith, short, n)) (omega (arith, reaches, r)) x.1 y.1 in
      ap (list_all (are_sides vars pattern (within k))) q
      ∙ list_all-append (are_sides vars pattern (within k)) (compared a) (compared b)
      ∙ and_from (list_all (are_sides vars pattern (within k)) (compared a)) (list_all (are_sides vars pattern (within k)) (compared b)) left right

  has_sides : (c : Cond) → HasSides c
  has_sides =
      forms.by_form HasSides
      (record {
        always = λ e h. nothing e (forms.fold-True (List Compared) compared_layer e h);
        never = λ e h. nothing e (forms.fold-False (List Compared) compared_layer e h);
        comparison = comparison;
        negated = negated;
        conjoined =
            λ e a b h.
            both e a b (forms.fold-And (List Compared) compared_layer e a b h) (forms.fold-And ℕ nodes_in_layer e a b h) (forms.fold-And ℕ reach_in_layer e a b h)
            (forms.fold-And Bool (domain_layer []) e a b h) (forms.fold-And Bool (domain_layer pattern) e a b h);
        disjoined =
            λ e a b h.
            both e a b (forms.fold-Or (List Compared) compared_layer e a b h) (forms.fold-Or ℕ nodes_in_layer e a b h) (forms.fold-Or ℕ reach_in_layer e a b h)
            (forms.fold-Or Bool (domain_layer []) e a b h) (forms.fold-Or Bool (domain_layer pattern) e a b h);
      })

  pub sides_are : (c : Cond) → nodes_in c ≤ most_nodes → nodes_in c ≤ k → reach_in c ≤ vars → IsTrue (is_domain [] c) → IsTrue (is_domain pattern c) → IsTrue (list_all (are_sides vars pattern (within k)) (compared c))
  sides_are c few short reaches plain' moving = has_sides c few short reaches plain' moving
