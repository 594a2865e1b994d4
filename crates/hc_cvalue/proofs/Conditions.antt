-- Every condition: its code leaves its truth.
use Rattle.std.specs.Prelude.{◌≡◌, ◌≤◌, ◌<◌, ℕ, ◌+◌, ◌*◌, max, Bool, true, false, not, ◌&&◌, ◌||◌, List, [], ◌∷◌, ◌++◌, length, take}
use Rattle.std.proofs.Common.{sym, ap, ap₂, ◌∙◌, arith}
use Rattle.std.proofs.lemmas.Bool.{and_parts}
use Rattle.hc_rational.specs.Words.{Rational, zero_ℚ, one_ℚ, rank}
use Rattle.hc_term.specs.declared.expr.Comparison.{Comparison}
use Rattle.hc_term.specs.declared.expr.Expr.{Expr}
use Rattle.hc_term.specs.declared.expr.Cond.{Cond}
use Rattle.hc_term.specs.declared.expr.Cond.TheVariants as plain
use Rattle.hc_term.specs.declared.expr.Cond.TheViews as seen
use Rattle.hc_term.specs.Value.{Store, work, answer, judge_layer, sides_in, holds, fitting_layer, is_fitting_test}
use Rattle.hc_term.specs.Motion.{form}
use Rattle.hc_term.specs.EndMoment.{domain_layer, is_domain}
use Rattle.hc_term.specs.Profile.{nodes, nodes_in_layer, nodes_in, reach, reach_in_layer, reach_in}
use Rattle.hc_cast.specs.declared.stmt.CStmt.{CStmt}
use Rattle.hc_cast.specs.declared.program.CProgram.{CProgram}
use Rattle.hc_cmach.specs.State.{width}
use Rattle.hc_cbuild.specs.Written.{set_register}
use Rattle.hc_cstep.specs.Locals.{Mine, Base}
use Rattle.hc_cstep.specs.Stands.{first_scratch}
use Rattle.hc_cvalue.specs.Values.{height, Coded, value_code}
use Rattle.hc_cvalue.specs.Truths.{height_in_layer, height_in, compares, inverts, conjoins, disjoins, truth_layer, truth_code}
use Rattle.hc_cvalue.proofs.CondForms.{EachForm, by_form, fold-True, fold-False, fold-Compare, fold-Not, fold-And, fold-Or}
use Rattle.hc_cvalue.proofs.Rows.{SameBelow, same_fewer, same_on}
use Rattle.hc_cvalue.proofs.Divisors.{work_value}
use Rattle.hc_cvalue.proofs.Values.{value_leaves}
use Rattle.hc_cvalue.proofs.Truths.{Judges, judges_longer, judges_as, constant, behind, compared, inverted, conjoined, disjoined}

module _ (g : CProgram) (p : ℕ) (low : p < 64) (b : Base) (vars : ℕ) (few : vars ≤ 64) (s : Store) (first : List Rational) (store_is : take vars first ≡ s) where
  abbrev Claim : Cond → Type 0
  Claim c =
      (d : ℕ) (m : Mine) → first_scratch ≤ d → d + height_in c < width → reach_in c ≤ vars → is_domain [] c ≡ true → length m.row ≡ width →
      SameBelow first_scratch m.row first → Judges g p low b (4 * nodes_in c) d (truth_code p d c) m (is_fitting_test s c) (holds s c)

  -- what stands for c by its form
  shaped : (c : Cond) (n d : ℕ) (ss : List CStmt) (m : Mine) (f x : Bool) → n ≤ 4 * nodes_in c → truth_code p d c ≡ ss → is_fitting_test s c ≡ f → holds s c ≡ x →
      Judges g p low b n d ss m f x → Judges g p low b (4 * nodes_in c) d (truth_code p d c) m (is_fitting_test s c) (holds s c)
  shaped c n d ss m f x few_steps code fit truth j =
      judges_longer g p low b n (4 * nodes_in c) d (truth_code p d c) m (is_fitting_test s c) (holds s c) few_steps
      (judges_as g p low b n d (truth_code p d c) ss m (is_fitting_test s c) f (holds s c) x code fit truth j)

  claims_always : (c : Cond) → c ≡ plain.True → Claim c
  claims_always c h d m above room reaches domain wide same =
      let n : nodes_in c ≡ 1 = fold-True ℕ nodes_in_layer c h in
      shaped c 1 d (set_register p d one_ℚ ∷ []) m true true (omega (arith, n)) (ap (λ (f : Coded). f d) (fold-True Coded (truth_layer p) c h))
      (fold-True Bool (fitting_layer s) c h) (fold-True Bool (judge_layer (sides_in s)) c h) (constant g p low b d m true (omega (arith, room)) wide)

  claims_never : (c : Cond) → c ≡ plain.False → Claim c
  claims_never c h d m above room reaches domain wide same =
      let n : nodes_in c ≡ 1 = fold-False ℕ nodes_in_layer c h in
      shaped c 1 d (set_register p d zero_ℚ ∷ []) m true false (omega (arith, n)) (ap (λ (f : Coded). f d) (fold-False Coded (truth_layer p) c h))
      (fold-False Bool (fitting_layer s) c h) (fold-False Bool (judge_layer (sides_in s)) c h) (constant g p low b d m false (omega (arith, room)) wide)

  claims_comparison : (c : Cond) (how : Comparison) (x y : Expr) → c ≡ plain.Compare how x y → Claim c
  claims_comparison c how x y h d m above room reaches domain wide same =
      let n : nodes_in c ≡ 1 + nodes x + nodes y = fold-Compare ℕ nodes_in_layer c how x y h in
      let far : reach_in c ≡ max (reach x) (reach y) = fold-Compare ℕ reach_in_layer c how x y h in
      let high : height_in c ≡ max (height x) (1 + height y) = fold-Compare ℕ height_in_layer c how x y h in
      let parts = and_parts (form [] x).affine (form [] y).affine (sym (fold-Compare Bool (domain_layer []) c how x y h) ∙ domain) in
      let l = value_leaves g p low b vars few s first store_is x d m above (omega (arith, high, room)) (omega (arith, far, reaches)) parts.0 wide same in
      let m1 = behind g p low b (2 * nodes x) d (value_code p d x) m (work s x) l in
      let r = value_leaves g p low b vars few s first store_is y (d + 1) m1 (omega (arith, above)) (omega (arith, high, room)) (omega (arith, far, reaches)) parts.1 l.wide
      (same_on first_scratch l.row m.row first (same_fewer first_scratch d l.row m.row above l.below) same) in
      shaped c (2 * nodes x + (2 * nodes y + 4)) d (value_code p d x ++ (value_code p (d + 1) y ++ compares p how d)) m
      ((work s x).fits_all && (work s y).fits_all) (answer how (rank (work s x).value (work s y).value)) (omega (arith, n))
      (ap (λ (f : Coded). f d) (fold-Compare Coded (truth_layer p) c how x y h)) (fold-Compare Bool (fitting_layer s) c how x y h)
      (
      fold-Compare Bool (judge_layer (sides_in s)) c how x y h
      ∙ ap₂ (λ (v w : Rational). answer how (rank v w)) (sym (work_value s x)) (sym (work_value s y))
      )
      (compared g p low b (2 * nodes x) (2 * nodes y) d (value_code p d x) (value_code p (d + 1) y) how m (work s x) (work s y) (omega (arith, high, room)) l r)

  claims_negated : (c a : Cond) → c ≡ seen.Not a → Claim a → Claim c
  claims_negated c a h of_a d m above room reaches domain wide same =
      let n : nodes_in c ≡ 1 + nodes_in a = fold-Not ℕ nodes_in_layer c a h in
      let far : reach_in c ≡ reach_in a = fold-Not ℕ reach_in_layer c a h in
      let high : height_in c ≡ height_in a = fold-Not ℕ height_in_layer c a h in
      let is_fine : is_domain [] a ≡ true = sym (fold-Not Bool (domain_layer []) c a h) ∙ domain in
      let j = of_a d m above (omega (arith, high, room)) (omega (arith, far, reaches)) is_fine wide same in
      shaped c (4 * nodes_in a + 3) d (truth_code p d a ++ inverts p d) m (is_fitting_test s a) (not (holds s a)) (omega (arith, n))
      (ap (λ (f : Coded). f d) (fold-Not Coded (truth_layer p) c a h)) (fold-Not Bool (fitting_layer s) c a h) (fold-Not Bool (judge_layer (sides_in s)) c a h)
      (inverted g p low b (4 * nodes_in a) d (truth_code p d a) m (is_fitting_test s a) (holds s a) (omega (arith, room)) j)

  claims_conjoined : (c x y : Cond) → c ≡ seen.And x y → Claim x → Claim y → Claim c
  claims_conjoined c x y h of_x of_y d m above room reaches domain wide same =
      let n : nodes_in c ≡ 1 + nodes_in x + nodes_in y = fold-And ℕ nodes_in_layer c x y h in
      let far : reach_in c ≡ max (reach_in x) (reach_in y) = fold-And ℕ reach_in_layer c x y h in
      let high : height_in c ≡ max (height_in x) (1 + height_in y) = fold-And ℕ height_in_layer c x y h in
      let parts = and_parts (is_domain [] x) (is_domain [] y) (sym (fold-And Bool (domain_layer []) c x y h) ∙ domain) in
      let j = of_x d m above (omega (arith, high, room)) (omega (arith, far, reaches)) parts.0 wide same in
      let m1 = record m { row = j.row; ok = m.ok && is_fitting_test s x; truth = j.truth } in
      let i = of_y (d + 1) m1 (omega (arith, above)) (omega (arith, high, room)) (omega (arith, far, reaches)) parts.1 j.wide
      (same_on first_scratch j.row m.row first (same_fewer first_scratch d j.row m.row above j.below) same) in
      shaped c (4 * nodes_in x + (4 * nodes_in y + 3)) d (truth_code p d x ++ (truth_code p (d + 1) y ++ conjoins p d)) m
      (is_fitting_test s x && is_fitting_test s y) (holds s x && holds s y) (omega (arith, n))
      (ap (λ (f : Coded). f d) (fold-And Coded (truth_layer p) c x y h)) (fold-And Bool (fitting_layer s) c x y h) (fold-And Bool (judge_layer (sides_in s)) c x y h)
      (
      conjoined g p low b (4 * nodes_in x) (4 * nodes_in y) d (truth_code p d x) (truth_code p (d + 1) y) m (is_fitting_test s x) (is_fitting_test s y) (holds s x) (holds s y)
      (omega (arith, high, room)) j i
      )

  claims_disjoined : (c x y : Cond) → c ≡ seen.Or x y → Claim x → Claim y → Claim c
  claims_disjoined c x y h of_x of_y d m above room reaches domain wide same =
      let n : nodes_in c ≡ 1 + nodes_in x + nodes_in y = fold-Or ℕ nodes_in_layer c x y h in
      let far : reach_in c ≡ max (reach_in x) (reach_in y) = fold-Or ℕ reach_in_layer c x y h in
      let high : height_in c ≡ max (height_in x) (1 + height_in y) = fold-Or ℕ height_in_layer c x y h in
      let parts = and_parts (is_domain [] x) (is_domain [] y) (sym (fold-Or Bool (domain_layer []) c x y h) ∙ domain) in
      let j = of_x d m above (omega (arith, high, room)) (omega (arith, far, reaches)) parts.0 wide same in
      let m1 = record m { row = j.row; ok = m.ok && is_fitting_test s x; truth = j.truth } in
      let i = of_y (d + 1) m1 (omega (arith, above)) (omega (arith, high, room)) (omega (arith, far, reaches)) parts.1 j.wide
      (same_on first_scratch j.row m.row first (same_fewer first_scratch d j.row m.row above j.below) same) in
      shaped c (4 * nodes_in x + (4 * nodes_in y + 3)) d (truth_code p d x ++ (truth_code p (d + 1) y ++ disjoins p d)) m
      (is_fitting_test s x && is_fitting_test s y) (holds s x || holds s y) (omega (arith, n))
      (ap (λ (f : Coded). f d) (fold-Or Coded (truth_layer p) c x y h)) (fold-Or Bool (fitting_layer s) c x y h) (fold-Or Bool (judge_layer (sides_in s)) c x y h)
      (
      disjoined g p low b (4 * nodes_in x) (4 * nodes_in y) d (truth_code p d x) (truth_code p (d + 1) y) m (is_fitting_test s x) (is_fitting_test s y) (holds s x) (holds s y)
      (omega (arith, high, room)) j i
      )

  each_claims : EachForm Claim
  each_claims = record {
    always = claims_always;
    never = claims_never;
    comparison = claims_comparison;
    negated = claims_negated;
    conjoined = claims_conjoined;
    disjoined = claims_disjoined;
  }

  pub truth_judges : (c : Cond) → Claim c
  truth_judges = by_form Claim each_claims
