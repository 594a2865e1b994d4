-- What the code of a line does: v_ok becomes whether all working values fit, and where they do value and slope stand in two registers.
use Rattle.std.specs.Prelude.{◌≡◌, ◌≢◌, ◌≤◌, ◌<◌, ℕ, ◌+◌, Bool, true, false, ◌&&◌, List, [], ◌∷◌, ◌++◌, length, slice_set}
use Rattle.std.proofs.Common.{refl, sym, ap, ap₂, ◌∙◌, subst, arith}
use Rattle.std.proofs.lemmas.Bool.{and_parts}
use Rattle.std.proofs.lemmas.List.{get_or-set_same, get_or-set_other, length-set}
use Rattle.hc_rational.specs.Words.{Rational, zero_ℚ, neg_ℚ, fits}
use Rattle.hc_term.specs.declared.expr.Op.{Op}
use Rattle.hc_term.specs.declared.expr.Op.TheVariants as sign
use Rattle.hc_term.specs.Value.{applied, divides_by_zero}
use Rattle.hc_term.specs.Motion.{Line, slope_by}
use Rattle.hc_cast.specs.declared.stmt.CStmt.{CStmt}
use Rattle.hc_cast.specs.declared.program.CProgram.{CProgram}
use Rattle.hc_cmach.specs.State.{width}
use Rattle.hc_clogic.specs.Runs.{Runs}
use Rattle.hc_clogic.proofs.Runs.{runs_on, runs_longer}
use Rattle.hc_cbuild.specs.Written.{guarded, primitive_of}
use Rattle.hc_cbuild.proofs.Arithmetic.{put_if}
use Rattle.hc_cstep.specs.Locals.{Mine, Base, view}
use Rattle.hc_cstep.specs.Stands.{register}
use Rattle.hc_cvalue.specs.Values.{negate}
use Rattle.hc_cvalue.specs.Lines.{slope_first, slope_second, joins_lines}
use Rattle.hc_cvalue.proofs.Rows.{SameBelow, same_register, same_fewer, same_on, same_set}
use Rattle.hc_cvalue.proofs.Pieces.{negate_piece, work_piece}
use Rattle.hc_cvalue.proofs.Values.{put_wide, put_same, all_three}
use Rattle.hc_cvalue.proofs.Slopes.{first_number, second_number}

and_true : (x : Bool) → x ≡ (x && true)
and_true true = refl
and_true false = refl

put_other : (b : Bool) (row : List Rational) (d : ℕ) (z : Rational) (i : ℕ) → i ≢ d → register (put_if b row d z) i ≡ register row i
put_other true row d z i apart = get_or-set_other row d i z zero_ℚ apart
put_other false row d z i apart = refl

-- two results more, in the other order
joint : (x y z u v i j : Bool) → (x ≡ true → y ≡ true → z ≡ true → (u ≡ i) × (v ≡ j)) → ((((x && y) && z) && u) && v) ≡ (x && (((y && z) && j) && i))
joint true true true u v i j h = ap₂ (λ (a b : Bool). a && b) (h refl refl refl).0 (h refl refl refl).1 ∙ swapped i j
  where
    swapped : (i j : Bool) → (i && j) ≡ (j && i)
    swapped true true = refl
    swapped true false = refl
    swapped false true = refl
    swapped false false = refl
joint true true false u v i j h = refl
joint true false z u v i j h = refl
joint false y z u v i j h = refl

module _ (g : CProgram) (p : ℕ) (low : p < 64) (b : Base) where
  -- These statements leave a line's value in register d and its slope in the next, where all fits and v_ok was 1; v_ok is 0 else.
  -- Registers below d keep.
  pub record Draws (n d : ℕ) (ss : List CStmt) (m : Mine) (l : Line) : Type 0 where
    pub row : List Rational
    pub runs : Runs g p n ss (view b m) (view b (record m { row = row; ok = m.ok && l.fits_all }))
    pub wide : length row ≡ width
    pub below : SameBelow d row m.row
    pub at : m.ok ≡ true → l.fits_all ≡ true → register row d ≡ l.at
    pub slope : m.ok ≡ true → l.fits_all ≡ true → register row (d + 1) ≡ l.slope

  pub draws_longer : (n k d : ℕ) (ss : List CStmt) (m : Mine) (l : Line) → n ≤ k → Draws n d ss m l → Draws k d ss m l
  draws_longer n k d ss m l less j = record {
    row = j.row;
    runs = runs_longer g p n k ss _ _ less j.runs;
    wide = j.wide;
    below = j.below;
    at = j.at;
    slope = j.slope;
  }

  pub draws_as : (n d : ℕ) (ss rs : List CStmt) (m : Mine) (l k : Line) → ss ≡ rs → l ≡ k → Draws n d rs m k → Draws n d ss m l
  draws_as n d ss rs m l k same_code same_line j =
      subst (λ (x : Line). Draws n d ss m x) (sym same_line) (subst (λ (x : List CStmt). Draws n d x m k) (sym same_code) j)

  -- ---- both registers are written by statements that can't fail

  pub written : (d : ℕ) (s t : CStmt) (m : Mine) (y z : Rational) → d + 1 < width → length m.row ≡ width →
      Runs g p 1 (s ∷ []) (view b m) (view b (record m { row = slice_set m.row d y })) →
      Runs g p 1 (t ∷ []) (view b (record m { row = slice_set m.row d y })) (view b (record m { row = slice_set (slice_set m.row d y) (d + 1) z })) →
      Draws 2 d (s ∷ t ∷ []) m (record { at = y; slope = z; fits_all = true })
  written d s t m y z inside wide r q =
      let one = slice_set m.row d y in
      let one_wide : length one ≡ width = length-set m.row d y ∙ wide in
      let two = slice_set one (d + 1) z in
      record {
        row = two;
        runs =
            subst (λ (x : Bool). Runs g p 2 (s ∷ t ∷ []) (view b m) (view b (record m { row = two; ok = x }))) (and_true m.ok)
            (runs_on g p 1 1 (s ∷ []) (t ∷ []) (view b m) (view b (record m { row = one })) _ r q);
        wide = length-set one (d + 1) z ∙ one_wide;
        below = same_on d two one m.row (same_set d one (d + 1) z (omega arith)) (same_set d m.row d y (omega arith));
        at =
            λ on fit.
            get_or-set_other one (d + 1) d z zero_ℚ (λ e. omega (arith, e)) ∙ get_or-set_same m.row d y zero_ℚ (omega (arith, wide, inside));
        slope = λ on fit. get_or-set_same one (d + 1) z zero_ℚ (omega (arith, one_wide, inside));
      }

  -- ---- the other sign

  pub negated : (n d : ℕ) (ss : List CStmt) (m : Mine) (l : Line) → d + 1 < width → Draws n d ss m l →
      Draws (n + 2) d (ss ++ negate p d ∷ negate p (d + 1) ∷ []) m (record { at = neg_ℚ l.at; slope = neg_ℚ l.slope; fits_all = l.fits_all })
  negated n d ss m l inside j =
      let m1 = record m { row = j.row; ok = m.ok && l.fits_all } in
      let one = slice_set j.row d (neg_ℚ (register j.row d)) in
      let one_wide : length one ≡ width = length-set j.row d (neg_ℚ (register j.row d)) ∙ j.wide in
      let m2 = record m1 { row = one } in
      let next : register one (d + 1) ≡ register j.row (d + 1) = get_or-set_other j.row d (d + 1) (neg_ℚ (register j.row d)) zero_ℚ (λ e. omega (arith, e)) in
      let two = slice_set one (d + 1) (neg_ℚ (register one (d + 1))) in
      record {
        row = two;
        runs =
            runs_on g p n 2 ss (negate p d ∷ negate p (d + 1) ∷ []) (view b m) (view b m1) _ j.runs
            (
            runs_on g p 1 1 (negate p d ∷ []) (negate p (d + 1) ∷ []) (view b m1) (view b m2) _ (negate_piece g p low b m1 d (omega (arith, inside)))
            (negate_piece g p low b m2 (d + 1) inside)
            );
        wide = length-set one (d + 1) (neg_ℚ (register one (d + 1))) ∙ one_wide;
        below =
            same_on d two one m.row (same_set d one (d + 1) (neg_ℚ (register one (d + 1))) (omega arith))
            (same_on d one j.row m.row (same_set d j.row d (neg_ℚ (register j.row d)) (omega arith)) j.below);
        at =
            λ on fit.
            get_or-set_other one (d + 1) d (neg_ℚ (register one (d + 1))) zero_ℚ (λ e. omega (arith, e))
            ∙ get_or-set_same j.row d (neg_ℚ (register j.row d)) zero_ℚ (let wide = j.wide in omega (arith, wide, inside))
            ∙ ap neg_ℚ (j.at on fit);
        slope =
            λ on fit.
            get_or-set_same one (d + 1) (neg_ℚ (register one (d + 1))) zero_ℚ (omega (arith, one_wide, inside))
            ∙ ap neg_ℚ (next ∙ j.slope on fit);
      }

  -- ---- two lines become one

  first_there : (op : Op) (moves : Bool) (d : ℕ) (row : List Rational) (l : Line) → register row d ≡ l.at → register row (d + 1) ≡ l.slope →
      register row (slope_first op moves d) ≡ first_number op moves l
  first_there sign.Add moves d row l h k = k
  first_there sign.Sub moves d row l h k = k
  first_there sign.Mul true d row l h k = k
  first_there sign.Mul false d row l h k = h
  first_there sign.Div moves d row l h k = k

  second_there : (op : Op) (moves : Bool) (d : ℕ) (row : List Rational) (l : Line) → register row (d + 2) ≡ l.at → register row (d + 3) ≡ l.slope →
      register row (slope_second op moves d) ≡ second_number op moves l
  second_there sign.Add moves d row l h k = k
  second_there sign.Sub moves d row l h k = k
  second_there sign.Mul true d row l h k = h
  second_there sign.Mul false d row l h k = k
  second_there sign.Div moves d row l h k = h

  first_inside : (op : Op) (moves : Bool) (d : ℕ) → d + 3 < width → slope_first op moves d < width
  first_inside sign.Add moves d h = omega (arith, h)
  first_inside sign.Sub moves d h = omega (arith, h)
  first_inside sign.Mul true d h = omega (arith, h)
  first_inside sign.Mul false d h = omega (arith, h)
  first_inside sign.Div moves d h = omega (arith, h)

  second_inside : (op : Op) (moves : Bool) (d : ℕ) → d + 3 < width → slope_second op moves d < width
  second_inside sign.Add moves d h = h
  second_inside sign.Sub moves d h = h
  second_inside sign.Mul true d h = omega (arith, h)
  second_inside sign.Mul false d h = h
  second_inside sign.Div moves d h = omega (arith, h)

  -- a slope divides by the second part's value
  slope_divides : (op : Op) (moves : Bool) (l : Line) → divides_by_zero op l.at ≡ false → divides_by_zero op (second_number op moves l) ≡ false
  slope_divides sign.Add moves l h = refl
  slope_divides sign.Sub moves l h = refl
  slope_divides sign.Mul true l h = refl
  slope_divides sign.Mul false l h = refl
  slope_divides sign.Div moves l h = h

  abbrev pub both : Op → Line → Line → Line
  both op l k = record {
    at = applied op l.at k.at;
    slope = slope_by op l.at l.slope k.at k.slope;
    fits_all = l.fits_all && k.fits_all && fits (applied op l.at k.at) && fits (slope_by op l.at l.slope k.at k.slope);
  }

  pub joined : (n k d : ℕ) (ss rs : List CStmt) (op : Op) (moves : Bool) (m : Mine) (l o : Line) → d + 3 < width → divides_by_zero op o.at ≡ false →
      slope_by op l.at l.slope o.at o.slope ≡ applied op (first_number op moves l) (second_number op moves o) →
      (j : Draws n d ss m l) → Draws k (d + 2) rs (record m { row = j.row; ok = m.ok && l.fits_all }) o →
      Draws (n + (k + 4)) d (ss ++ (rs ++ joins_lines p op moves d)) m (both op l o)
  joined n k d ss rs op moves m l o inside some slope_as j i =
      let m1 = record m { row = j.row; ok = m.ok && l.fits_all } in
      let m2 = record m1 { row = i.row; ok = (m.ok && l.fits_all) && o.fits_all } in
      let row2 = i.row in
      let fst = slope_first op moves d in
      let snd = slope_second op moves d in
      let z1 = applied op (register row2 fst) (register row2 snd) in
      let ok3 : Bool = ((m.ok && l.fits_all) && o.fits_all) && fits z1 in
      let row3 = put_if ok3 row2 (d + 1) z1 in
      let row3_wide : length row3 ≡ width = put_wide ok3 row2 (d + 1) z1 i.wide in
      let m3 = record m2 { row = row3; ok = ok3 } in
      let z2 = applied op (register row3 d) (register row3 (d + 2)) in
      let ok4 : Bool = ok3 && fits z2 in
      let row4 = put_if ok4 row3 d z2 in
      let all_on : m.ok ≡ true → l.fits_all ≡ true → (m.ok && l.fits_all) ≡ true = λ on left. ap₂ (λ (x y : Bool). x && y) on left in
      let left_at : m.ok ≡ true → l.fits_all ≡ true → register row2 d ≡ l.at =
      λ on left. same_register (d + 2) row2 j.row d (omega arith) i.below ∙ j.at on left in
      let left_slope : m.ok ≡ true → l.fits_all ≡ true → register row2 (d + 1) ≡ l.slope =
      λ on left. same_register (d + 2) row2 j.row (d + 1) (omega arith) i.below ∙ j.slope on left in
      let right_slope : (m.ok && l.fits_all) ≡ true → o.fits_all ≡ true → register row2 (d + 3) ≡ o.slope =
      λ on right. ap (register row2) (let same : d + 3 ≡ (d + 2) + 1 = omega arith in same) ∙ i.slope on right in
      let first_is : m.ok ≡ true → l.fits_all ≡ true → register row2 fst ≡ first_number op moves l =
      λ on left. first_there op moves d row2 l (left_at on left) (left_slope on left) in
      let second_is : (m.ok && l.fits_all) ≡ true → o.fits_all ≡ true → register row2 snd ≡ second_number op moves o =
      λ on right. second_there op moves d row2 o (i.at on right) (right_slope on right) in
      let z1_is : m.ok ≡ true → l.fits_all ≡ true → o.fits_all ≡ true → z1 ≡ slope_by op l.at l.slope o.at o.slope =
      λ on left right. ap₂ (applied op) (first_is on left) (second_is (all_on on left) right) ∙ sym slope_as in
      let d_kept : register row3 d ≡ register row2 d = put_other ok3 row2 (d + 1) z1 d (λ e. omega (arith, e)) in
      let e_kept : register row3 (d + 2) ≡ register row2 (d + 2) = put_other ok3 row2 (d + 1) z1 (d + 2) (λ e. omega (arith, e)) in
      let z2_is : m.ok ≡ true → l.fits_all ≡ true → o.fits_all ≡ true → z2 ≡ applied op l.at o.at =
      λ on left right. ap₂ (applied op) (d_kept ∙ left_at on left) (e_kept ∙ i.at (all_on on left) right) in
      let same_ok : ok4 ≡ (m.ok && (both op l o).fits_all) =
      joint m.ok l.fits_all o.fits_all (fits z1) (fits z2) (fits (slope_by op l.at l.slope o.at o.slope)) (fits (applied op l.at o.at))
      (λ on left right. (ap fits (z1_is on left right), ap fits (z2_is on left right))) in
      let slope_defined : ((m.ok && l.fits_all) && o.fits_all) ≡ true → divides_by_zero op (register row2 snd) ≡ false =
      λ h.
      let parts = and_parts (m.ok && l.fits_all) o.fits_all h in
      ap (divides_by_zero op) (second_is parts.0 parts.1) ∙ slope_divides op moves o some in
      let value_defined : ok3 ≡ true → divides_by_zero op (register row3 (d + 2)) ≡ false =
      λ h.
      let outer = and_parts ((m.ok && l.fits_all) && o.fits_all) (fits z1) h in
      let parts = and_parts (m.ok && l.fits_all) o.fits_all outer.0 in
      ap (divides_by_zero op) (e_kept ∙ i.at parts.0 parts.1) ∙ some in
      let slope_code = guarded (primitive_of op) p (d + 1) fst snd in
      let value_code = guarded (primitive_of op) p d d (d + 2) in
      let all : List CStmt = ss ++ (rs ++ slope_code ∷ value_code ∷ []) in
      let runs : Runs g p (n + (k + 4)) all (view b m) (view b (record m { row = row4; ok = ok4 })) =
      runs_on g p n (k + 4) ss (rs ++ slope_code ∷ value_code ∷ []) (view b m) (view b m1) _ j.runs
      (
      runs_on g p k 4 rs (slope_code ∷ value_code ∷ []) (view b m1) (view b m2) _ i.runs
      (
      runs_on g p 2 2 (slope_code ∷ []) (value_code ∷ []) (view b m2) (view b m3) _
      (work_piece g p low b m2 op (d + 1) fst snd (omega (arith, inside)) (first_inside op moves d inside) (second_inside op moves d inside) slope_defined)
      (work_piece g p low b m3 op d d (d + 2) (omega (arith, inside)) (omega (arith, inside)) (omega (arith, inside)) value_defined)
      )
      ) in
      record {
        row = row4;
        runs = subst (λ (x : Bool). Runs g p (n + (k + 4)) all (view b m) (view b (record m { row = row4; ok = x }))) same_ok runs;
        wide = put_wide ok4 row3 d z2 row3_wide;
        below =
            same_on d row4 row3 m.row (put_same ok4 row3 d z2 d (omega arith))
            (
            same_on d row3 row2 m.row (put_same ok3 row2 (d + 1) z1 d (omega arith))
            (same_on d row2 j.row m.row (same_fewer d (d + 2) row2 j.row (omega arith) i.below) j.below)
            );
        at =
            λ on fit.
            let outer = and_parts ((l.fits_all && o.fits_all) && fits (applied op l.at o.at)) (fits (slope_by op l.at l.slope o.at o.slope)) fit in
            let parts = all_three l.fits_all o.fits_all (fits (applied op l.at o.at)) outer.0 in
            let is_ok : ok4 ≡ true = same_ok ∙ ap₂ (λ (x y : Bool). x && y) on fit in
            ap (λ (x : Bool). register (put_if x row3 d z2) d) is_ok ∙ get_or-set_same row3 d z2 zero_ℚ (omega (arith, row3_wide, inside)) ∙ z2_is on parts.0 parts.1;
        slope =
            λ on fit.
            let outer = and_parts ((l.fits_all && o.fits_all) && fits (applied op l.at o.at)) (fits (slope_by op l.at l.slope o.at o.slope)) fit in
            let parts = all_three l.fits_all o.fits_all (fits (applied op l.at o.at)) outer.0 in
            let is_ok : ok4 ≡ true = same_ok ∙ ap₂ (λ (x y : Bool). x && y) on fit in
            let inner = and_parts ok3 (fits z2) is_ok in
            put_other ok4 row3 d z2 (d + 1) (λ e. omega (arith, e))
            ∙ ap (λ (x : Bool). register (put_if x row2 (d + 1) z1) (d + 1)) inner.0
            ∙ get_or-set_same row2 (d + 1) z1 zero_ℚ (let wide = i.wide in omega (arith, wide, inside))
            ∙ z1_is on parts.0 parts.1;
      }
