-- The law of end moments, from the code of lines that stands.
use Rattle.std.specs.Prelude.{◌≡◌, ◌<◌, ◌≤◌, ℕ, ◌==◌, nat_lt, nat_le, Bool, true, false, ◌&&◌, List, [], length, IsTrue}
use Rattle.std.proofs.Common.{refl, sym, subst, arith}
use Rattle.std.proofs.lemmas.Bool.{lt-ltb, eq-eqb, eqb-true, leb-true, and_parts}
use Rattle.hc_limits.specs.Limits.{most_nodes}
use Rattle.hc_term.specs.declared.expr.Cond.{Cond}
use Rattle.hc_term.specs.Value.{Store}
use Rattle.hc_term.specs.Motion.{Rates, form}
use Rattle.hc_term.specs.EndMoment.{is_domain}
use Rattle.hc_term.specs.Profile.{is_expr, is_cond, nodes, nodes_in, reach_in}
use Rattle.hc_cast.specs.declared.stmt.CStmt.{CStmt}
use Rattle.hc_cast.specs.declared.program.CProgram.{CProgram}
use Rattle.hc_cmach.specs.State.{Word}
use Rattle.hc_clogic.proofs.Runs.{runs_longer}
use Rattle.hc_cstep.specs.Locals.{Mine, Base}
use Rattle.hc_cstep.specs.Parts.{EndMoments}
use Rattle.hc_cvalue.specs.Lines.{line_code}
use Rattle.hc_cvalue.specs.Laws.{steps_for}
use Rattle.hc_cvalue.proofs.Whole.{lines_within}
use Rattle.hc_cend.specs.Searching.{search_names}
use Rattle.hc_cend.specs.Places.{Places, AreApart}
use Rattle.hc_cend.specs.Tree.{tree}
use Rattle.hc_cend.specs.Lining.{compared, SideWorks}
use Rattle.hc_cend.specs.Ending.{end_cost}
use Rattle.hc_cend.specs.Law.{places, ends, enough_for, EndMomentsLaw}
use Rattle.hc_cend.specs.Laws.{FindsItInC}
use Rattle.hc_cend.proofs.Limits.{is_small}
use Rattle.hc_cend.proofs.Costs.{cost_bound}
use Rattle.hc_cend.proofs.Sides.{within, sides_are}
use Rattle.hc_cend.proofs.Whole.{finds_end}

-- what a condition of the profile is known to keep
pub record IsRuled (vars : ℕ) (c : Cond) : Type 0 where
  pub few : nodes_in c ≤ most_nodes
  pub reaches : reach_in c ≤ vars
  pub plain : IsTrue (is_domain [] c)

pub is_ruled : (vars : ℕ) (c : Cond) → IsTrue (is_cond vars c) → IsRuled vars c
is_ruled vars c h =
    let x = and_parts (nat_le (nodes_in c) most_nodes && nat_le (reach_in c) vars) (is_domain [] c) h in
    let y = and_parts (nat_le (nodes_in c) most_nodes) (nat_le (reach_in c) vars) x.0 in
    record { few = leb-true (nodes_in c) most_nodes y.0; reaches = leb-true (reach_in c) vars y.1; plain = x.1 }

pub ends_longer : (g : CProgram) (p n k : ℕ) (b : Base) (ss : List CStmt) (m : Mine) (s : Store) (r : Rates) (c : Cond) → n ≤ k → EndMoments g p n b ss m s r c → EndMoments g p k b ss m s r c
ends_longer g p n k b ss m s r c le h = record {
  does = record {
    row = h.does.row;
    truth = h.does.truth;
    others = h.does.others;
    runs = runs_longer g p n k ss _ _ le h.does.runs;
    wide = h.does.wide;
    kept = h.does.kept;
    low = h.does.low;
  };
  found = h.found;
}

module _ (g : CProgram) (p : ℕ) (low : p < 64) (b : Base) (more : List Word) (has : b.scratch ≡ search_names more)
    (vars : ℕ) (few : vars ≤ 64) (room : ℕ) (spare : 8 ≤ room) where
  row_there : nat_lt p 65 ≡ true
  row_there = lt-ltb p 65 (omega (arith, low))

  not_common : (p == 64) ≡ false
  not_common = by (p == 64) refl
    where
      by : (x : Bool) → (p == 64) ≡ x → x ≡ false
      by true e = absurd (let same : p ≡ 64 = eqb-true p 64 e in omega (arith, low, same))
      by false e = refl

  own_row : (p == p) ≡ true
  own_row = eq-eqb p p refl

  abbrev named : Base
  named = record b { scratch = search_names more }

  module _ (c : Cond) (ruled : IsRuled vars c) where
    abbrev at : Places
    at = places (length (compared c))

    apart : AreApart 320 at (length (compared c)) (tree p at c).deep
    apart =
        let small = is_small p at c in
        record {
          zero = omega arith;
          at = omega arith;
          slope = omega arith;
          crossing = omega arith;
          moment = omega arith;
          best = omega arith;
          sign = omega arith;
          truth = omega arith;
          end = omega (arith, small.sides, small.deep, ruled.few);
        }

    sides_work : (pattern r : Rates) (s : Store) →
        SideWorks g p (steps_for (nodes_in c)) named vars room pattern (within (nodes_in c)) (line_code p pattern) at.crossing s r
    sides_work pattern r s d m e above near on wide kept store rates good =
        let small = is_small p at c in
        let parts = and_parts (is_expr vars e) ((form pattern e).affine && within (nodes_in c) e) good in
        let moves = and_parts (form pattern e).affine (within (nodes_in c) e) parts.1 in
        lines_within g p low (nodes_in c) (steps_for (nodes_in c)) (omega arith) named vars few d m s pattern r e
        (record { above = omega (arith, above); below = omega (arith, near, small.sides, ruled.few) }) on wide store rates parts.0 moves.0
        (leb-true (nodes e) (nodes_in c) moves.1)

  pub end_law : EndMomentsLaw g p b vars room
  end_law m s pattern r c on wide kept store long rates good moving =
      let ruled = is_ruled vars c good in
      let at = places (length (compared c)) in
      let small = is_small p at c in
      let side = steps_for (nodes_in c) in
      let h =
      finds_end g p row_there not_common own_row at b more c (apart c ruled) vars room few spare pattern long (within (nodes_in c)) (line_code p pattern) s r side
      (sides_work c ruled pattern r s) m on (record { wide = wide; spare = kept; store = store; rates = rates })
      (sides_are vars pattern (nodes_in c) c ruled.few (omega arith) ruled.reaches ruled.plain moving) in
      let cost = end_cost side (length (compared c)) (tree p at c).steps in
      let bound : cost ≤ enough_for (nodes_in c) = cost_bound (length (compared c)) (tree p at c).steps (nodes_in c) small.sides small.steps in
      subst (λ (names : List Word). EndMoments g p (enough_for (nodes_in c)) (record b { scratch = names }) (ends p pattern c) m s r c) (sym has)
      (ends_longer g p cost (enough_for (nodes_in c)) named (ends p pattern c) m s r c bound h)

pub finds_it : FindsItInC
finds_it g p b more vars room low has few spare = end_law g p low b more has vars few room spare
