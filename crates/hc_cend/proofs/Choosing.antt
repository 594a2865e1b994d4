-- The candidate of a number is now, or the crossing of the comparison before.
use Rattle.std.specs.Prelude.{◌≡◌, ◌<◌, ℕ, suc, ◌+◌, ◌==◌, nat_lt, Bool, true, false, if◌then◌else◌, List, [], ◌∷◌, ◌++◌, length, slice_get, slice_set, ℤ, pos, Option, Some, None}
use Rattle.std.specs.Ordering.{int_eq}
use Rattle.std.proofs.Common.{refl, sym, ap, ap₂, ◌∙◌, subst, arith}
use Rattle.std.proofs.lemmas.Int.{ints}
use Rattle.std.proofs.lemmas.Bool.Decides.{nat_tests}
use Rattle.std.proofs.lemmas.List.{length-set, get_or-set_other}
use Rattle.std.proofs.lemmas.Option.{slice_get_within}
use Rattle.hc_rational.specs.Rational.{zero_ℚ, ratio, quotient, whole}
use Rattle.hc_rational.specs.Gcd.{gcd}
use Rattle.hc_rational.specs.Words.{Rational, rank}
use Rattle.hc_term.specs.Motion.{Line}
use Rattle.hc_term.specs.EndMoment.{opposite}
use Rattle.hc_cross.proofs.Sides.{root, crossing_at}
use Rattle.hc_cast.specs.declared.stmt.CStmt.{CStmt}
use Rattle.hc_cast.specs.declared.stmt.CStmt.TheVariants as a
use Rattle.hc_cast.specs.declared.program.CProgram.{CProgram}
use Rattle.hc_cmach.specs.Expression.{int_of, is_true}
use Rattle.hc_cmach.specs.Primitive.{rank_number}
use Rattle.hc_clogic.specs.Runs.{View, Runs, Is}
use Rattle.hc_clogic.proofs.Runs.{runs_on, runs_longer, if_runs}
use Rattle.hc_cmach.proofs.Worths.{forms}
use Rattle.hc_clogic.specs.Block.{block}
use Rattle.hc_clogic.proofs.Values.{is_worth}
use Rattle.hc_clogic.proofs.Blocks.{block_runs}
use Rattle.hc_cend.specs.Candidates.{crossing_of}
use Rattle.hc_cend.specs.Searching as seen
use Rattle.hc_cend.specs.Searching.{Mine, Around, register, v_x, v_j}
use Rattle.hc_cend.specs.Places.{Places, AreApart, IsGiven}
use Rattle.hc_cend.specs.Written.{is_number, signs, are_opposite}
use Rattle.hc_cend.specs.Search.{set, takes_crossing, takes_now, chooses}
use Rattle.hc_cend.proofs.Registers.{Same, same_set, set_there}
use Rattle.hc_cend.proofs.Given.{is_there, are_there}
use Rattle.hc_cend.proofs.Leaves.{none_literal}
use Rattle.hc_cend.proofs.Copying.{AreThere}
use Rattle.hc_cend.proofs.Copying as code

pub zero_written : ratio (pos 0) (pos 1) ≡ zero_ℚ
unfolding ratio quotient whole zero_ℚ gcd
zero_written = refl

-- v_x and the moment's register say which candidate there is
abbrev pub Chosen : Places → List Rational → ℤ → Option Rational → Type 0
Chosen p row x None = x ≡ pos 0
Chosen p row x (Some q) = (x ≡ pos 1) × (register row p.moment ≡ q)

module _ (g : CProgram) (t : ℕ) (low : nat_lt t 65 ≡ true) (not_last : (t == 64) ≡ false) (self : (t == t) ≡ true) (p : Places) (around : Around)
    (f deep : ℕ) (ls : List Line) (apart : AreApart f p (length ls) deep) where
  abbrev view : Mine → View
  view m = seen.view around m

  -- nothing in front of the moment's register changes, nor does the best so far
  pub record Chooses (n : ℕ) (ss : List CStmt) (m : Mine) (o : Option Rational) : Type 0 where
    pub row : List Rational
    pub x : ℤ
    pub y : ℤ
    pub runs : Runs g t n ss (view m) (view (record m { row = row; x = x; y = y }))
    pub long : length row ≡ length m.row
    pub same : Same p.moment row m.row
    pub best : register row p.best ≡ register m.row p.best
    pub chosen : Chosen p row x o

  moment_there : p.moment < 20480
  moment_there = omega (arith, apart.best, apart.sign, apart.truth, apart.end)

  -- the moment's register becomes q
  moved : (n : ℕ) (ss : List CStmt) (m : Mine) (q z : Rational) (y : ℤ) → length m.row ≡ 20480 → q ≡ z →
      Runs g t n ss (view m) (view (record m { row = slice_set m.row p.moment q; x = pos 1; y = y })) → Chooses n ss m (Some z)
  moved n ss m q z y wide e h = record {
    row = slice_set m.row p.moment q;
    x = pos 1;
    y = y;
    runs = h;
    long = length-set m.row p.moment q;
    same = same_set p.moment m.row m.row p.moment q refl (omega arith);
    best = get_or-set_other m.row p.moment p.best q zero_ℚ (λ same. omega (arith, same, apart.best));
    chosen = (refl, set_there m.row p.moment q (omega (arith, wide, moment_there)) ∙ e);
  }

  -- ---- now

  now_told : (m : Mine) → m.j ≡ 0 → nat_lt p.moment 20480 ≡ true →
      block g t 3 (view m) (chooses t p) ≡ Some (view (record m { row = slice_set m.row p.moment (ratio (pos 0) (pos 1)); x = pos 1 }))
  now_told m e there = simp (forms, low, not_last, self, e, there, none_literal)

  pub now_runs : (m : Mine) → m.j ≡ 0 → length m.row ≡ 20480 → Chooses 6 (chooses t p) m (Some zero_ℚ)
  now_runs m e wide =
      moved 6 (chooses t p) m (ratio (pos 0) (pos 1)) zero_ℚ m.y wide zero_written
      (runs_longer g t 3 6 (chooses t p) (view m) _ (omega arith) (block_runs g t 3 _ _ _ (now_told m e (is_there p.moment moment_there))))

  -- ---- the crossing of a comparison

  module _ (m : Mine) (given : IsGiven p ls m.row) (l : Line) (has : slice_get ls m.i ≡ Some l) where
    abbrev less : m.i < length ls
    less = slice_get_within ls m.i l has

    abbrev there : AreThere p m.i
    there = are_there f p (length ls) deep m.i apart less

    abbrev signed : Mine
    signed = code.signed g t low not_last self p around m

    value_side : rank (register m.row (p.at + m.i)) (register m.row p.zero) ≡ rank l.at zero_ℚ
    value_side = ap₂ rank (given.values m.i l has) given.zero

    slope_side : rank (register m.row (p.slope + m.i)) (register m.row p.zero) ≡ rank l.slope zero_ℚ
    slope_side = ap₂ rank (given.slopes m.i l has) given.zero

    takes_told : nat_lt p.moment 20480 ≡ true →
        block g t 2 (view signed) (takes_crossing t p)
        ≡ Some (view (record signed { row = slice_set m.row p.moment (register m.row (p.crossing + m.i)); x = pos 1 }))
    takes_told k = simp (forms, low, not_last, self, k, there.crossing, there.crossing_int)

    branch : (b : Bool) → opposite (rank l.at zero_ℚ) (rank l.slope zero_ℚ) ≡ b →
        Chooses 2 (if is_true (int_of b) then takes_crossing t p else set v_x 0 ∷ []) signed (crossing_of l)
    branch true e =
        let is : crossing_of l ≡ Some (root l.at l.slope) = crossing_at l.at l.slope e in
        subst (Chooses 2 (takes_crossing t p) signed) (sym is)
        (
        moved 2 (takes_crossing t p) signed (register m.row (p.crossing + m.i)) (root l.at l.slope) signed.y given.wide
        (given.crossings m.i l (root l.at l.slope) has is) (block_runs g t 2 _ _ _ (takes_told (is_there p.moment moment_there)))
        )
    branch false e =
        let is : crossing_of l ≡ None = ap (λ (b : Bool). if b then Some (root l.at l.slope) else None) e in
        subst (Chooses 2 (set v_x 0 ∷ []) signed) (sym is)
        (record {
          row = m.row;
          x = pos 0;
          y = signed.y;
          runs = block_runs g t 2 (set v_x 0 ∷ []) (view signed) (view (record signed { x = pos 0 })) (simp forms);
          long = refl;
          same = refl;
          best = refl;
          chosen = refl;
        })

    apart_from_now : (k : ℕ) → m.j ≡ suc k → Is g t (view m) (is_number v_j 0) (pos 0)
    apart_from_now k e =
        let off : int_eq (pos m.j) (pos 0) ≡ false = ap (λ (i : ℕ). int_eq (pos i) (pos 0)) e ∙ later k in
        is_worth g t (view m) (is_number v_j 0) (pos 0) (simp (forms, off))
      where
        later : (k : ℕ) → int_eq (pos (suc k)) (pos 0) ≡ false
        later k = grind (arith, ints, nat_tests)

    pub crossing_runs : (k : ℕ) → m.j ≡ suc k → Chooses 6 (chooses t p) m (crossing_of l)
    crossing_runs k e =
        let o = opposite (rank l.at zero_ℚ) (rank l.slope zero_ℚ) in
        let r = branch o refl in
        let end = view (record signed { row = r.row; x = r.x; y = r.y }) in
        let told =
        code.opposite_told g t low not_last self p around signed (rank l.at zero_ℚ) (rank l.slope zero_ℚ) (ap rank_number value_side) (ap rank_number slope_side) in
        let either = a.If are_opposite (takes_crossing t p) (Some (set v_x 0 ∷ [])) ∷ [] in
        let begins = block_runs g t 2 (signs t p) (view m) (view signed) (code.signs_told g t low not_last self p around m there) in
        record {
          row = r.row;
          x = r.x;
          y = r.y;
          runs =
              if_runs g t 5 (is_number v_j 0) (takes_now t p) (Some (signs t p ++ either)) (view m) end (pos 0) (apart_from_now k e)
              (
              runs_on g t 2 3 (signs t p) either (view m) (view signed) end begins
              (if_runs g t 2 are_opposite (takes_crossing t p) (Some (set v_x 0 ∷ [])) (view signed) end (int_of o) told r.runs)
              );
          long = r.long;
          same = r.same;
          best = r.best;
          chosen = r.chosen;
        }
