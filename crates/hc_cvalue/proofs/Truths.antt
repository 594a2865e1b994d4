-- What the code of a condition does: v_ok becomes whether all working values fit, and where they do its truth stands in the register.
use Rattle.std.specs.Prelude.{◌≡◌, ◌≤◌, ◌<◌, ℕ, ◌+◌, Bool, true, false, not, ◌&&◌, ◌||◌, if◌then◌else◌, List, [], ◌∷◌, ◌++◌, length, slice_set}
use Rattle.std.proofs.Common.{refl, sym, ap, ap₂, ◌∙◌, subst, arith}
use Rattle.std.proofs.lemmas.Bool.{and_parts}
use Rattle.std.proofs.lemmas.List.{get_or-set_same, length-set}
use Rattle.hc_rational.specs.Words.{Rational, zero_ℚ, rank}
use Rattle.hc_term.specs.declared.expr.Comparison.{Comparison}
use Rattle.hc_term.specs.Value.{Work, answer}
use Rattle.hc_cast.specs.declared.stmt.CStmt.{CStmt}
use Rattle.hc_cast.specs.declared.program.CProgram.{CProgram}
use Rattle.hc_cmach.specs.State.{width}
use Rattle.hc_clogic.specs.Runs.{Runs}
use Rattle.hc_clogic.proofs.Runs.{runs_on, runs_longer}
use Rattle.hc_cbuild.specs.Written.{set_register}
use Rattle.hc_cstep.specs.Locals.{Mine, Base, view}
use Rattle.hc_cstep.specs.Stands.{register}
use Rattle.hc_cvalue.specs.Truths.{truth_of, compares, inverts, conjoins, disjoins}
use Rattle.hc_cvalue.proofs.Rows.{SameBelow, same_register, same_fewer, same_on, same_set}
use Rattle.hc_cvalue.proofs.Pieces.{set_piece}
use Rattle.hc_cvalue.proofs.Values.{Leaves}
use Rattle.hc_cvalue.proofs.TruthPieces.{compare_piece, invert_piece, conjoin_piece, disjoin_piece}

and_true : (x : Bool) → x ≡ (x && true)
and_true true = refl
and_true false = refl

and_assoc : (x y z : Bool) → ((x && y) && z) ≡ (x && (y && z))
and_assoc true y z = refl
and_assoc false y z = refl

-- what two truths make together
both_held : (x y : Bool) → (if x then y else x) ≡ (x && y)
both_held true y = refl
both_held false y = refl

module _ (g : CProgram) (p : ℕ) (low : p < 64) (b : Base) where
  -- These statements leave a truth in register d, which is the right one where all fits and v_ok was 1; v_ok is 0 else.
  -- Registers below d keep.
  pub record Judges (n d : ℕ) (ss : List CStmt) (m : Mine) (fitting right : Bool) : Type 0 where
    pub row : List Rational
    pub truth : Bool  -- in v_truth
    pub held : Bool  -- in the register
    pub runs : Runs g p n ss (view b m) (view b (record m { row = row; ok = m.ok && fitting; truth = truth }))
    pub wide : length row ≡ width
    pub below : SameBelow d row m.row
    pub stands : register row d ≡ truth_of held
    pub is_right : m.ok ≡ true → fitting ≡ true → held ≡ right

  pub judges_longer : (n k d : ℕ) (ss : List CStmt) (m : Mine) (f x : Bool) → n ≤ k → Judges n d ss m f x → Judges k d ss m f x
  judges_longer n k d ss m f x less j = record {
    row = j.row;
    truth = j.truth;
    held = j.held;
    runs = runs_longer g p n k ss _ _ less j.runs;
    wide = j.wide;
    below = j.below;
    stands = j.stands;
    is_right = j.is_right;
  }

  pub judges_as : (n d : ℕ) (ss rs : List CStmt) (m : Mine) (f f' x x' : Bool) → ss ≡ rs → f ≡ f' → x ≡ x' → Judges n d rs m f' x' → Judges n d ss m f x
  judges_as n d ss rs m f f' x x' same_code same_fit same_truth j =
      subst (λ (i : Bool). Judges n d ss m f i) (sym same_truth)
      (subst (λ (i : Bool). Judges n d ss m i x') (sym same_fit) (subst (λ (i : List CStmt). Judges n d i m f' x') (sym same_code) j))

  -- ---- constants

  pub constant : (d : ℕ) (m : Mine) (x : Bool) → d < width → length m.row ≡ width → Judges 1 d (set_register p d (truth_of x) ∷ []) m true x
  constant d m x inside wide = record {
    row = slice_set m.row d (truth_of x);
    truth = m.truth;
    held = x;
    runs =
        subst (λ (i : Bool). Runs g p 1 (set_register p d (truth_of x) ∷ []) (view b m) (view b (record m { row = slice_set m.row d (truth_of x); ok = i }))) (and_true m.ok)
        (set_piece g p low b m d (truth_of x) inside);
    wide = length-set m.row d (truth_of x) ∙ wide;
    below = same_set d m.row d (truth_of x) (omega arith);
    stands = get_or-set_same m.row d (truth_of x) zero_ℚ (omega (arith, wide, inside));
    is_right = λ on fit. refl;
  }

  -- ---- comparisons

  abbrev pub behind : (n d : ℕ) (ss : List CStmt) (m : Mine) (w : Work) → Leaves g p low b n d ss m w → Mine
  behind n d ss m w l = record m { row = l.row; ok = m.ok && w.fits_all }

  pub compared : (n k d : ℕ) (ss rs : List CStmt) (how : Comparison) (m : Mine) (w u : Work) → d + 1 < width →
      (l : Leaves g p low b n d ss m w) → Leaves g p low b k (d + 1) rs (behind n d ss m w l) u →
      Judges (n + (k + 4)) d (ss ++ (rs ++ compares p how d)) m (w.fits_all && u.fits_all) (answer how (rank w.value u.value))
  compared n k d ss rs how m w u inside l r =
      let m1 = behind n d ss m w l in
      let m2 = behind k (d + 1) rs m1 u r in
      let held = answer how (rank (register r.row d) (register r.row (d + 1))) in
      let left : m.ok ≡ true → w.fits_all ≡ true → register r.row d ≡ w.value =
      λ on fit. same_register (d + 1) r.row l.row d (omega arith) r.below ∙ l.value on fit in
      let runs : Runs g p (n + (k + 4)) (ss ++ (rs ++ compares p how d)) (view b m) (view b (record m { row = slice_set r.row d (truth_of held); ok = (m.ok && w.fits_all) && u.fits_all; truth = false })) =
      runs_on g p n (k + 4) ss (rs ++ compares p how d) (view b m) (view b m1) _ l.runs
      (runs_on g p k 4 rs (compares p how d) (view b m1) (view b m2) _ r.runs (compare_piece g p low b m2 how d inside)) in
      record {
        row = slice_set r.row d (truth_of held);
        truth = false;
        held = held;
        runs =
            subst (λ (i : Bool). Runs g p (n + (k + 4)) (ss ++ (rs ++ compares p how d)) (view b m) (view b (record m { row = slice_set r.row d (truth_of held); ok = i; truth = false })))
            (and_assoc m.ok w.fits_all u.fits_all) runs;
        wide = length-set r.row d (truth_of held) ∙ r.wide;
        below =
            same_on d _ r.row m.row (same_set d r.row d (truth_of held) (omega arith))
            (same_on d r.row l.row m.row (same_fewer d (d + 1) r.row l.row (omega arith) r.below) l.below);
        stands = get_or-set_same r.row d (truth_of held) zero_ℚ (let wide = r.wide in omega (arith, wide, inside));
        is_right =
            λ on fit.
            let parts = and_parts w.fits_all u.fits_all fit in
            ap₂ (λ (x y : Rational). answer how (rank x y)) (left on parts.0) (r.value (ap₂ (λ (i j : Bool). i && j) on parts.0) parts.1);
      }

  -- ---- truths joined

  pub inverted : (n d : ℕ) (ss : List CStmt) (m : Mine) (f x : Bool) → d < width → Judges n d ss m f x → Judges (n + 3) d (ss ++ inverts p d) m f (not x)
  inverted n d ss m f x inside j =
      let m1 = record m { row = j.row; ok = m.ok && f; truth = j.truth } in
      record {
        row = slice_set j.row d (truth_of (not j.held));
        truth = j.held;
        held = not j.held;
        runs = runs_on g p n 3 ss (inverts p d) (view b m) (view b m1) _ j.runs (invert_piece g p low b m1 d j.held inside j.stands);
        wide = length-set j.row d (truth_of (not j.held)) ∙ j.wide;
        below = same_on d _ j.row m.row (same_set d j.row d (truth_of (not j.held)) (omega arith)) j.below;
        stands = get_or-set_same j.row d (truth_of (not j.held)) zero_ℚ (let wide = j.wide in omega (arith, wide, inside));
        is_right = λ on fit. ap not (j.is_right on fit);
      }

  -- the register holds the first or the second
  abbrev picked : Bool → List Rational → ℕ → List Rational
  picked x row d = if x then slice_set row d (register row (d + 1)) else row

  picked_wide : (x : Bool) (row : List Rational) (d : ℕ) → length row ≡ width → length (picked x row d) ≡ width
  picked_wide true row d h = length-set row d (register row (d + 1)) ∙ h
  picked_wide false row d h = h

  picked_same : (x : Bool) (row : List Rational) (d : ℕ) → SameBelow d (picked x row d) row
  picked_same true row d = same_set d row d (register row (d + 1)) (omega arith)
  picked_same false row d = record { by = refl }

  picked_holds : (x : Bool) (row : List Rational) (d : ℕ) (i j : Bool) → d < width → length row ≡ width → register row d ≡ truth_of i → register row (d + 1) ≡ truth_of j →
      register (picked x row d) d ≡ truth_of (if x then j else i)
  picked_holds true row d i j inside wide h k = get_or-set_same row d (register row (d + 1)) zero_ℚ (omega (arith, wide, inside)) ∙ k
  picked_holds false row d i j inside wide h k = h

  pub conjoined : (n k d : ℕ) (ss rs : List CStmt) (m : Mine) (f f' x x' : Bool) → d + 1 < width → (j : Judges n d ss m f x) → Judges k (d + 1) rs (record m { row = j.row; ok = m.ok && f; truth = j.truth }) f' x' →
      Judges (n + (k + 3)) d (ss ++ (rs ++ conjoins p d)) m (f && f') (x && x')
  conjoined n k d ss rs m f f' x x' inside j i =
      let m1 = record m { row = j.row; ok = m.ok && f; truth = j.truth } in
      let m2 = record m1 { row = i.row; ok = (m.ok && f) && f'; truth = i.truth } in
      let is_left : register i.row d ≡ truth_of j.held = same_register (d + 1) i.row j.row d (omega arith) i.below ∙ j.stands in
      let row = picked j.held i.row d in
      let runs : Runs g p (n + (k + 3)) (ss ++ (rs ++ conjoins p d)) (view b m) (view b (record m { row = row; ok = (m.ok && f) && f'; truth = j.held })) =
      runs_on g p n (k + 3) ss (rs ++ conjoins p d) (view b m) (view b m1) _ j.runs
      (runs_on g p k 3 rs (conjoins p d) (view b m1) (view b m2) _ i.runs (conjoin_piece g p low b m2 d j.held inside is_left)) in
      record {
        row = row;
        truth = j.held;
        held = if j.held then i.held else j.held;
        runs =
            subst (λ (y : Bool). Runs g p (n + (k + 3)) (ss ++ (rs ++ conjoins p d)) (view b m) (view b (record m { row = row; ok = y; truth = j.held })))
            (and_assoc m.ok f f') runs;
        wide = picked_wide j.held i.row d i.wide;
        below = same_on d row i.row m.row (picked_same j.held i.row d) (same_on d i.row j.row m.row (same_fewer d (d + 1) i.row j.row (omega arith) i.below) j.below);
        stands = picked_holds j.held i.row d j.held i.held (omega (arith, inside)) i.wide is_left i.stands;
        is_right =
            λ on fit.
            let parts = and_parts f f' fit in
            both_held j.held i.held ∙ ap₂ (λ (y z : Bool). y && z) (j.is_right on parts.0) (i.is_right (ap₂ (λ (y z : Bool). y && z) on parts.0) parts.1);
      }

  -- the row where the second is taken when the first is false
  swapped : (x : Bool) (row : List Rational) (d : ℕ) → (if x then row else slice_set row d (register row (d + 1))) ≡ picked (not x) row d
  swapped true row d = refl
  swapped false row d = refl

  held_other : (x y : Bool) → (if not x then y else x) ≡ (x || y)
  held_other true y = refl
  held_other false y = refl

  pub disjoined : (n k d : ℕ) (ss rs : List CStmt) (m : Mine) (f f' x x' : Bool) → d + 1 < width → (j : Judges n d ss m f x) → Judges k (d + 1) rs (record m { row = j.row; ok = m.ok && f; truth = j.truth }) f' x' →
      Judges (n + (k + 3)) d (ss ++ (rs ++ disjoins p d)) m (f && f') (x || x')
  disjoined n k d ss rs m f f' x x' inside j i =
      let m1 = record m { row = j.row; ok = m.ok && f; truth = j.truth } in
      let m2 = record m1 { row = i.row; ok = (m.ok && f) && f'; truth = i.truth } in
      let is_left : register i.row d ≡ truth_of j.held = same_register (d + 1) i.row j.row d (omega arith) i.below ∙ j.stands in
      let row = picked (not j.held) i.row d in
      let piece : Runs g p 3 (disjoins p d) (view b m2) (view b (record m2 { row = row; truth = j.held })) =
      subst (λ (r : List Rational). Runs g p 3 (disjoins p d) (view b m2) (view b (record m2 { row = r; truth = j.held }))) (swapped j.held i.row d)
      (disjoin_piece g p low b m2 d j.held inside is_left) in
      let runs : Runs g p (n + (k + 3)) (ss ++ (rs ++ disjoins p d)) (view b m) (view b (record m { row = row; ok = (m.ok && f) && f'; truth = j.held })) =
      runs_on g p n (k + 3) ss (rs ++ disjoins p d) (view b m) (view b m1) _ j.runs
      (runs_on g p k 3 rs (disjoins p d) (view b m1) (view b m2) _ i.runs piece) in
      record {
        row = row;
        truth = j.held;
        held = if not j.held then i.held else j.held;
        runs =
            subst (λ (y : Bool). Runs g p (n + (k + 3)) (ss ++ (rs ++ disjoins p d)) (view b m) (view b (record m { row = row; ok = y; truth = j.held })))
            (and_assoc m.ok f f') runs;
        wide = picked_wide (not j.held) i.row d i.wide;
        below = same_on d row i.row m.row (picked_same (not j.held) i.row d) (same_on d i.row j.row m.row (same_fewer d (d + 1) i.row j.row (omega arith) i.below) j.below);
        stands = picked_holds (not j.held) i.row d j.held i.held (omega (arith, inside)) i.wide is_left i.stands;
        is_right =
            λ on fit.
            let parts = and_parts f f' fit in
            held_other j.held i.held ∙ ap₂ (λ (y z : Bool). y || z) (j.is_right on parts.0) (i.is_right (ap₂ (λ (y z : Bool). y && z) on parts.0) parts.1);
      }
