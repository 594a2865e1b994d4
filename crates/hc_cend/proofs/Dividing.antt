-- The crossing of one comparison is worked out where it has one, and v_ok says whether it fits.
use Rattle.std.specs.Prelude.{◌≡◌, ◌<◌, ℕ, ◌+◌, ◌==◌, nat_lt, Bool, true, false, ◌&&◌, if◌then◌else◌, List, [], ◌∷◌, length, slice_get, slice_set, slice_index_or, ℤ, pos, Option, Some, None}
use Rattle.std.proofs.Common.{refl, sym, ap, ap₂, ◌∙◌, subst, arith}
use Rattle.std.proofs.lemmas.List.{length-set, get_or-set_other}
use Rattle.std.proofs.lemmas.Option.{slice_get_within, same_Some}
use Rattle.std.specs.declared.cmp.Ordering.{Ordering}
use Rattle.std.specs.declared.cmp.Ordering.TheVariants as side
use Rattle.hc_rational.specs.Words.{Rational, zero_ℚ, neg_ℚ, ◌/ℚ◌, rank, is_zero, fits}
use Rattle.hc_term.specs.Motion.{Line}
use Rattle.hc_term.specs.EndMoment.{opposite, fits_if}
use Rattle.hc_cross.proofs.Sides.{root, crossing_at}
use Rattle.hc_cast.specs.declared.stmt.CStmt.{CStmt}
use Rattle.hc_cast.specs.declared.stmt.CStmt.TheVariants as a
use Rattle.hc_cast.specs.declared.program.CProgram.{CProgram}
use Rattle.hc_cmach.specs.Expression.{is_int, int_of, is_true}
use Rattle.hc_cmach.specs.Primitive.{rank_number}
use Rattle.hc_cmach.specs.Turn.{or_nothing}
use Rattle.hc_clogic.specs.Runs.{View, Runs}
use Rattle.hc_clogic.proofs.Runs.{runs_on, runs_longer, if_runs, runs_none}
use Rattle.hc_cmach.proofs.Worths.{forms}
use Rattle.hc_clogic.specs.Block.{block}
use Rattle.hc_clogic.proofs.Blocks.{block_runs}
use Rattle.hc_cend.specs.Candidates.{crossing_of}
use Rattle.hc_cend.specs.Searching as seen
use Rattle.hc_cend.specs.Searching.{Mine, Around, register}
use Rattle.hc_cend.specs.Places.{Places, AreApart, IsLined}
use Rattle.hc_cend.specs.Written.{signs, are_opposite, counts}
use Rattle.hc_cend.specs.Preparing.{divides_if, one_crossing}
use Rattle.hc_cend.proofs.Registers.{Same, same_set, set_there}
use Rattle.hc_cend.proofs.Given.{is_small, are_there}
use Rattle.hc_cend.proofs.Copying.{AreThere, not_zero}
use Rattle.hc_cend.proofs.Copying as code

-- of two opposite sides none is 0
apart_by : (a b : Ordering) → opposite a b ≡ true → (b ≡ side.Equal → ⊥)
apart_by side.Less side.Less h e = cc
apart_by side.Less side.Equal h e = absurd (let no : false ≡ true = h in cc)
apart_by side.Less side.Greater h e = cc
apart_by side.Equal b h e = absurd (let no : false ≡ true = h in cc)
apart_by side.Greater side.Less h e = cc
apart_by side.Greater side.Equal h e = absurd (let no : false ≡ true = h in cc)
apart_by side.Greater side.Greater h e = cc

and_true : (b : Bool) → b ≡ (b && true)
and_true true = refl
and_true false = refl

module _ (g : CProgram) (t : ℕ) (low : nat_lt t 65 ≡ true) (not_last : (t == 64) ≡ false) (self : (t == t) ≡ true) (p : Places) (around : Around)
    (f deep : ℕ) (ls : List Line) (apart : AreApart f p (length ls) deep) where
  abbrev view : Mine → View
  view m = seen.view around m

  -- what is in front of the crossings' registers stays, and so do those before this one
  pub record Divides (m : Mine) (n : ℕ) (ss : List CStmt) (o : Option Rational) : Type 0 where
    pub row : List Rational
    pub runs : Runs g t n ss (view m) (view (record m { row = row; ok = m.ok && fits_if o }))
    pub long : length row ≡ length m.row
    pub same : Same (p.crossing + m.i) row m.row
    pub holds : (m.ok && fits_if o) ≡ true → (x : Rational) → o ≡ Some x → register row (p.crossing + m.i) ≡ x

  module _ (m : Mine) (wide : length m.row ≡ 20480) (less : m.i < length ls) where
    abbrev there : AreThere p m.i
    there = are_there f p (length ls) deep m.i apart less

    abbrev at : Rational
    at = register m.row (p.at + m.i)

    abbrev slope : Rational
    slope = register m.row (p.slope + m.i)

    abbrev turned : List Rational
    turned = slice_set m.row (p.crossing + m.i) (neg_ℚ at)

    abbrev divided : List Rational
    divided = slice_set turned (p.crossing + m.i) (neg_ℚ at /ℚ slope)

    within : p.crossing + m.i < 20480
    within = omega (arith, less, apart.moment, apart.best, apart.sign, apart.truth, apart.end)

    neg_there : slice_index_or turned (p.crossing + m.i) zero_ℚ ≡ neg_ℚ at
    neg_there = set_there m.row (p.crossing + m.i) (neg_ℚ at) (omega (arith, wide, within))

    slope_there : slice_index_or turned (p.slope + m.i) zero_ℚ ≡ slope
    slope_there =
        get_or-set_other m.row (p.crossing + m.i) (p.slope + m.i) (neg_ℚ at) zero_ℚ (λ same. omega (arith, same, less, apart.crossing))

    fitting_told : m.ok ≡ true → is_zero slope ≡ false → fits (neg_ℚ at /ℚ slope) ≡ true →
        block g t 3 (view m) (divides_if t p) ≡ Some (view (record m { row = divided; ok = true }))
    fitting_told on z h =
        simp (forms, low, not_last, self, on, z, h, neg_there, slope_there, there.at, there.at_int, there.slope, there.slope_int, there.crossing, there.crossing_int)

    unfit_told : m.ok ≡ true → is_zero slope ≡ false → fits (neg_ℚ at /ℚ slope) ≡ false →
        block g t 3 (view m) (divides_if t p) ≡ Some (view (record m { row = turned; ok = false }))
    unfit_told on z h =
        simp (forms, low, not_last, self, on, z, h, neg_there, slope_there, there.at, there.at_int, there.slope, there.slope_int, there.crossing, there.crossing_int)

    off_told : m.ok ≡ false → block g t 3 (view m) (divides_if t p) ≡ Some (view m)
    off_told off = simp (forms, off)

    -- where it has a crossing
    divides_by : is_zero slope ≡ false → (b z : Bool) → m.ok ≡ b → fits (neg_ℚ at /ℚ slope) ≡ z → Divides m 3 (divides_if t p) (Some (neg_ℚ at /ℚ slope))
    divides_by apart' false z off h = record {
      row = m.row;
      runs =
          subst (λ (x : Bool). Runs g t 3 (divides_if t p) (view m) (view (record m { ok = x && fits (neg_ℚ at /ℚ slope) }))) (sym off)
          (subst (λ (x : Bool). Runs g t 3 (divides_if t p) (view m) (view (record m { ok = x }))) off (block_runs g t 3 _ _ _ (off_told off)));
      long = refl;
      same = refl;
      holds = λ e x i. absurd (let no : (false && fits (neg_ℚ at /ℚ slope)) ≡ true = subst (λ (y : Bool). (y && fits (neg_ℚ at /ℚ slope)) ≡ true) off e in cc);
    }
    divides_by apart' true true on h = record {
      row = divided;
      runs =
          subst (λ (x : Bool). Runs g t 3 (divides_if t p) (view m) (view (record m { row = divided; ok = x })))
          (sym (ap₂ (λ (x y : Bool). x && y) on h))
          (block_runs g t 3 (divides_if t p) (view m) (view (record m { row = divided; ok = true })) (fitting_told on apart' h));
      long = length-set turned (p.crossing + m.i) (neg_ℚ at /ℚ slope) ∙ length-set m.row (p.crossing + m.i) (neg_ℚ at);
      same =
          same_set (p.crossing + m.i) turned m.row (p.crossing + m.i) (neg_ℚ at /ℚ slope)
          (same_set (p.crossing + m.i) m.row m.row (p.crossing + m.i) (neg_ℚ at) refl (omega arith)) (omega arith);
      holds =
          λ e x i.
          set_there turned (p.crossing + m.i) (neg_ℚ at /ℚ slope) (omega (arith, wide, within, length-set m.row (p.crossing + m.i) (neg_ℚ at)))
          ∙ same_Some (neg_ℚ at /ℚ slope) x i;
    }
    divides_by apart' true false on h = record {
      row = turned;
      runs =
          subst (λ (x : Bool). Runs g t 3 (divides_if t p) (view m) (view (record m { row = turned; ok = x })))
          (sym (ap₂ (λ (x y : Bool). x && y) on h))
          (block_runs g t 3 (divides_if t p) (view m) (view (record m { row = turned; ok = false })) (unfit_told on apart' h));
      long = length-set m.row (p.crossing + m.i) (neg_ℚ at);
      same = same_set (p.crossing + m.i) m.row m.row (p.crossing + m.i) (neg_ℚ at) refl (omega arith);
      holds = λ e x i. absurd (let no : false ≡ true = sym (ap₂ (λ (x y : Bool). x && y) on h) ∙ e in cc);
    }

  -- ---- the whole for one comparison, whose line is l

  pub record Crossed (m : Mine) (o : Option Rational) : Type 0 where
    pub row : List Rational
    pub x : ℤ
    pub y : ℤ
    pub runs : Runs g t 7 (one_crossing t p) (view m) (view (record m { row = row; ok = m.ok && fits_if o; i = m.i + 1; x = x; y = y }))
    pub long : length row ≡ length m.row
    pub same : Same (p.crossing + m.i) row m.row
    pub holds : (m.ok && fits_if o) ≡ true → (x : Rational) → o ≡ Some x → register row (p.crossing + m.i) ≡ x

  module _ (m : Mine) (given : IsLined p ls m.row) (l : Line) (has : slice_get ls m.i ≡ Some l) where
    abbrev less : m.i < length ls
    less = slice_get_within ls m.i l has

    abbrev signed : Mine
    signed = code.signed g t low not_last self p around m

    value_side : rank (register m.row (p.at + m.i)) (register m.row p.zero) ≡ rank l.at zero_ℚ
    value_side = ap₂ rank (given.values m.i l has) given.zero

    slope_side : rank (register m.row (p.slope + m.i)) (register m.row p.zero) ≡ rank l.slope zero_ℚ
    slope_side = ap₂ rank (given.slopes m.i l has) given.zero

    slope_apart : opposite (rank l.at zero_ℚ) (rank l.slope zero_ℚ) ≡ true → is_zero (register m.row (p.slope + m.i)) ≡ false
    slope_apart e =
        ap is_zero (given.slopes m.i l has) ∙ not_zero l.slope (rank l.slope zero_ℚ) refl (apart_by (rank l.at zero_ℚ) (rank l.slope zero_ℚ) e)

    branch : (b : Bool) → opposite (rank l.at zero_ℚ) (rank l.slope zero_ℚ) ≡ b →
        Divides signed 3 (if is_true (int_of b) then divides_if t p else or_nothing None) (crossing_of l)
    branch true e =
        let root_is : neg_ℚ (register m.row (p.at + m.i)) /ℚ register m.row (p.slope + m.i) ≡ root l.at l.slope =
        ap₂ (λ (u w : Rational). neg_ℚ u /ℚ w) (given.values m.i l has) (given.slopes m.i l has) in
        let is : Some (neg_ℚ (register m.row (p.at + m.i)) /ℚ register m.row (p.slope + m.i)) ≡ crossing_of l =
        ap Some root_is ∙ sym (crossing_at l.at l.slope e) in
        subst (Divides signed 3 (divides_if t p)) is (divides_by signed given.wide less (slope_apart e) m.ok _ refl refl)
    branch false e =
        let is : crossing_of l ≡ None = ap (λ (b : Bool). if b then Some (root l.at l.slope) else None) e in
        subst (Divides signed 3 []) (sym is)
        (record {
          row = m.row;
          runs =
              subst (λ (b : Bool). Runs g t 3 [] (view signed) (view (record signed { ok = b }))) (and_true m.ok)
              (runs_longer g t 0 3 [] (view signed) (view signed) (omega arith) (runs_none g t (view signed)));
          long = refl;
          same = refl;
          holds = λ h x k. absurd (let no : None ≡ Some x = k in cc);
        })

    counts_told : (u : Mine) → is_int (pos (u.i + 1)) ≡ true → block g t 1 (view u) (counts ∷ []) ≡ Some (view (record u { i = u.i + 1 }))
    counts_told u h = simp (forms, h)

    pub crossed_runs : Crossed m (crossing_of l)
    crossed_runs =
        let o = opposite (rank l.at zero_ℚ) (rank l.slope zero_ℚ) in
        let r = branch o refl in
        let told =
        code.opposite_told g t low not_last self p around signed (rank l.at zero_ℚ) (rank l.slope zero_ℚ) (ap rank_number value_side) (ap rank_number slope_side) in
        let there = are_there f p (length ls) deep m.i apart less in
        let begins = block_runs g t 2 (signs t p) (view m) (view signed) (code.signs_told g t low not_last self p around m there) in
        let mid = record signed { row = r.row; ok = m.ok && fits_if (crossing_of l) } in
        let end = record mid { i = m.i + 1 } in
        let small : m.i + 1 < 20480 = omega (arith, less, apart.at, apart.slope, apart.crossing, apart.moment, apart.best, apart.sign, apart.truth, apart.end) in
        let either = a.If are_opposite (divides_if t p) None in
        record {
          row = r.row;
          x = signed.x;
          y = signed.y;
          runs =
              runs_on g t 2 5 (signs t p) (either ∷ counts ∷ []) (view m) (view signed) (view end) begins
              (
              runs_on g t 4 1 (either ∷ []) (counts ∷ []) (view signed) (view mid) (view end)
              (if_runs g t 3 are_opposite (divides_if t p) None (view signed) (view mid) (int_of o) told r.runs)
              (block_runs g t 1 (counts ∷ []) (view mid) (view end) (counts_told mid (is_small (m.i + 1) small)))
              );
          long = r.long;
          same = r.same;
          holds = r.holds;
        }
