-- The laws of values, tests and lines, up to so many nodes and up to the limit.
use Rattle.std.specs.Prelude.{◌≡◌, ◌≤◌, ◌<◌, ℕ, ◌+◌, ◌*◌, Bool, true, ◌&&◌, [], ◌∷◌, length, take, nat_le, IsTrue}
use Rattle.std.proofs.Common.{refl, sym, ◌∙◌, subst, arith}
use Rattle.std.proofs.lemmas.Bool.{leb-true}
use Rattle.hc_limits.specs.Limits.{most_nodes}
use Rattle.hc_term.specs.declared.expr.Expr.{Expr}
use Rattle.hc_term.specs.Value.{Store, is_fitting, is_fitting_test}
use Rattle.hc_term.specs.Motion.{line, form}
use Rattle.hc_term.specs.EndMoment.{is_domain}
use Rattle.hc_term.specs.Profile.{nodes, nodes_in, reach, reach_in, is_expr}
use Rattle.hc_cast.specs.declared.program.CProgram.{CProgram}
use Rattle.hc_cmach.specs.State.{width}
use Rattle.hc_clogic.specs.Runs.{Runs}
use Rattle.hc_clogic.proofs.Runs.{runs_on, runs_longer}
use Rattle.hc_cstep.specs.Locals.{Mine, Base, view}
use Rattle.hc_cstep.specs.Stands.{first_scratch}
use Rattle.hc_cstep.specs.Parts.{Values}
use Rattle.hc_cvalue.specs.Values.{value_code}
use Rattle.hc_cvalue.specs.Truths.{height_in, look, truth_code, test_code}
use Rattle.hc_cvalue.specs.Laws.{HasRoom, steps_for, ValuesWithin, TestsWithin, LinesWithin}
use Rattle.hc_cvalue.specs.Lines.{line_code}
use Rattle.hc_cvalue.proofs.Rows.{same_fewer}
use Rattle.hc_cvalue.proofs.Divisors.{work_value}
use Rattle.hc_cvalue.proofs.Values.{all_three, value_leaves}
use Rattle.hc_cvalue.proofs.TruthPieces.{look_piece}
use Rattle.hc_cvalue.proofs.Conditions.{truth_judges}
use Rattle.hc_cvalue.proofs.Affine.{line_draws}
use Rattle.hc_cvalue.proofs.Heights.{low_height, low_height_in}

-- what the rules say of an expression
pub record Ruled (vars : ℕ) (e : Expr) : Type 0 where
  pub few : nodes e ≤ most_nodes
  pub reaches : reach e ≤ vars
  pub affine : (form [] e).affine ≡ true

pub is_ruled : (vars : ℕ) (e : Expr) → IsTrue (is_expr vars e) → Ruled vars e
is_ruled vars e h =
    let parts = all_three (nat_le (nodes e) most_nodes) (nat_le (reach e) vars) (form [] e).affine h in
    record { few = leb-true (nodes e) most_nodes parts.0; reaches = leb-true (reach e) vars parts.1; affine = parts.2 }

module _ (g : CProgram) (p : ℕ) (low : p < 64) (k n : ℕ) (enough : steps_for k ≤ n) (b : Base) (vars : ℕ) (few : vars ≤ 64) where
  pub values_within : ValuesWithin g p n b vars k
  values_within d m s e room on wide store ruled small =
      let r = is_ruled vars e ruled in
      let l = value_leaves g p low b vars few s m.row store e d m room.above
      (let h = low_height e in let few_nodes = r.few in let below = room.below in omega (arith, h, few_nodes, below))
      r.reaches r.affine wide (record { by = refl }) in
      let enough_here : 2 * nodes e ≤ n = omega (arith, small, enough) in
      let runs : Runs g p n (value_code p d e) (view b m) (view b (record m { row = l.row; ok = is_fitting s e })) =
      subst (λ (x : Bool). Runs g p n (value_code p d e) (view b m) (view b (record m { row = l.row; ok = x && is_fitting s e }))) on
      (runs_longer g p (2 * nodes e) n (value_code p d e) _ _ enough_here l.runs) in
      record {
        does = record {
          row = l.row;
          truth = m.truth;
          others = m.others;
          runs = runs;
          wide = l.wide ∙ sym wide;
          kept = refl;
          low = (same_fewer first_scratch d l.row m.row room.above l.below).by;
        };
        below = l.below.by;
        value = λ fit. l.value on fit ∙ work_value s e;
      }

  pub tests_within : TestsWithin g p n b vars k
  tests_within d m s c room on wide store ruled small =
      let parts = all_three (nat_le (nodes_in c) most_nodes) (nat_le (reach_in c) vars) (is_domain [] c) ruled in
      let few_nodes : nodes_in c ≤ most_nodes = leb-true (nodes_in c) most_nodes parts.0 in
      let inside : d + height_in c < width = let h = low_height_in c in let below = room.below in omega (arith, h, few_nodes, below) in
      let j = truth_judges g p low b vars few s m.row store c d m room.above inside (leb-true (reach_in c) vars parts.1) parts.2 wide (record { by = refl }) in
      let m1 = record m { row = j.row; ok = m.ok && is_fitting_test s c; truth = j.truth } in
      let runs : Runs g p n (test_code p d c) (view b m) (view b (record m { row = j.row; ok = is_fitting_test s c; truth = j.held })) =
      subst (λ (x : Bool). Runs g p n (test_code p d c) (view b m) (view b (record m { row = j.row; ok = x && is_fitting_test s c; truth = j.held }))) on
      (
      runs_longer g p (4 * nodes_in c + 1) n (test_code p d c) _ _ (omega (arith, small, enough))
      (
      runs_on g p (4 * nodes_in c) 1 (truth_code p d c) (look p d ∷ []) (view b m) (view b m1) (view b (record m1 { truth = j.held })) j.runs
      (look_piece g p low b m1 d j.held (omega (arith, inside)) j.stands)
      )
      ) in
      record {
        does = record {
          row = j.row;
          truth = j.held;
          others = m.others;
          runs = runs;
          wide = j.wide ∙ sym wide;
          kept = refl;
          low = (same_fewer first_scratch d j.row m.row room.above j.below).by;
        };
        truth = λ fit. j.is_right on fit;
      }

  pub lines_within : LinesWithin g p n b vars k
  lines_within d m s pattern r e room on wide store rates ruled affine small =
      let q = is_ruled vars e ruled in
      let j = line_draws g p low b vars few s pattern r m.row store rates e d m room.above
      (let h = low_height e in let few_nodes = q.few in let below = room.below in omega (arith, h, few_nodes, below))
      q.reaches affine wide (record { by = refl }) in
      let enough_here : 4 * nodes e ≤ n = omega (arith, small, enough) in
      let runs : Runs g p n (line_code p pattern d e) (view b m) (view b (record m { row = j.row; ok = (line s r e).fits_all })) =
      subst (λ (x : Bool). Runs g p n (line_code p pattern d e) (view b m) (view b (record m { row = j.row; ok = x && (line s r e).fits_all }))) on
      (runs_longer g p (4 * nodes e) n (line_code p pattern d e) _ _ enough_here j.runs) in
      record {
        does = record {
          row = j.row;
          truth = m.truth;
          others = m.others;
          runs = runs;
          wide = j.wide ∙ sym wide;
          kept = refl;
          low = (same_fewer first_scratch d j.row m.row room.above j.below).by;
        };
        below = j.below.by;
        at = λ fit. j.at on fit;
        slope = λ fit. j.slope on fit;
      }

-- ---- in the first register of the scratch

pub first_room : HasRoom first_scratch
first_room = record { above = omega arith; below = omega arith }

module _ (g : CProgram) (p : ℕ) (low : p < 64) (k n : ℕ) (enough : steps_for k ≤ n) (b : Base) (vars : ℕ) (few : vars ≤ 64) where
  pub value_works : (m : Mine) (s : Store) (e : Expr) → m.ok ≡ true → length m.row ≡ width → take vars m.row ≡ s → IsTrue (is_expr vars e) → nodes e ≤ k →
      Values g p n b (value_code p first_scratch e) m s e
  value_works m s e on wide store ruled small =
      let v = values_within g p low k n enough b vars few first_scratch m s e first_room on wide store ruled small in
      record { does = v.does; value = v.value }
