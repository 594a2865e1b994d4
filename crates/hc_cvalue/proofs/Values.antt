-- What the code of an expression does: v_ok becomes whether all working values fit, and where they do its value stands in the register.
use Rattle.std.specs.Prelude.{◌≡◌, ◌≤◌, ◌<◌, ℕ, ◌+◌, ◌*◌, max, Bool, true, false, ◌&&◌, List, [], ◌∷◌, ◌++◌, length, take, slice_set, slice_index_or}
use Rattle.std.proofs.Common.{refl, sym, ap, ap₂, ◌∙◌, subst, arith}
use Rattle.std.proofs.lemmas.Bool.{and_parts}
use Rattle.std.proofs.lemmas.List.{get_or-set_same, get_or-take, length-set}
use Rattle.hc_rational.specs.Words.{Rational, zero_ℚ, neg_ℚ, fits}
use Rattle.hc_term.specs.declared.expr.Op.{Op}
use Rattle.hc_term.specs.declared.expr.Expr.{Expr}
use Rattle.hc_term.specs.declared.expr.Expr.TheOpen.{Expr-F}
use Rattle.hc_term.specs.declared.expr.Expr.TheVariants as plain
use Rattle.hc_term.specs.declared.expr.Expr.TheViews as seen
use Rattle.hc_term.specs.declared.form.Form.{Form}
use Rattle.hc_term.specs.Value.{Store, Work, work_layer, work, applied, divides_by_zero}
use Rattle.hc_term.specs.Motion.{allowed, form_layer, form}
use Rattle.hc_term.specs.Profile.{nodes_layer, nodes, reach_layer, reach}
use Rattle.hc_cast.specs.declared.stmt.CStmt.{CStmt}
use Rattle.hc_cast.specs.declared.program.CProgram.{CProgram}
use Rattle.hc_cmach.specs.State.{width}
use Rattle.hc_clogic.specs.Runs.{Runs}
use Rattle.hc_clogic.proofs.Runs.{runs_on, runs_longer}
use Rattle.hc_cbuild.specs.Written.{set_register, move_register, guarded, primitive_of}
use Rattle.hc_cbuild.proofs.Arithmetic.{put_if}
use Rattle.hc_cstep.specs.Locals.{Mine, Base, view}
use Rattle.hc_cstep.specs.Stands.{register, first_scratch}
use Rattle.hc_cvalue.specs.Values.{height_layer, height, negate, Coded, value_layer, value_code}
use Rattle.hc_cvalue.proofs.Forms.{EachForm, by_form, fold-Number, fold-Variable, fold-Neg, fold-Binary}
use Rattle.hc_cvalue.proofs.Rows.{SameBelow, same_register, same_fewer, same_on, same_set}
use Rattle.hc_cvalue.proofs.Pieces.{set_piece, move_piece, negate_piece, work_piece}
use Rattle.hc_cvalue.proofs.Divisors.{no_zero}

-- ---- a row behind a guarded call

pub put_wide : (b : Bool) (row : List Rational) (d : ℕ) (z : Rational) → length row ≡ width → length (put_if b row d z) ≡ width
put_wide true row d z h = length-set row d z ∙ h
put_wide false row d z h = h

pub put_same : (b : Bool) (row : List Rational) (d : ℕ) (z : Rational) (k : ℕ) → k ≤ d → SameBelow k (put_if b row d z) row
put_same true row d z k less = same_set k row d z less
put_same false row d z k less = record { by = refl }

-- each is looked at where those before it hold
pub joint : (x y z u v : Bool) → (x ≡ true → y ≡ true → z ≡ true → u ≡ v) → (((x && y) && z) && u) ≡ (x && ((y && z) && v))
joint true true true u v h = h refl refl refl
joint true true false u v h = refl
joint true false z u v h = refl
joint false y z u v h = refl

pub all_three : (x y z : Bool) → ((x && y) && z) ≡ true → (x ≡ true) × (y ≡ true) × (z ≡ true)
all_three x y z h =
    let outer = and_parts (x && y) z h in
    let inner = and_parts x y outer.0 in
    (inner.0, inner.1, outer.1)

module _ (g : CProgram) (p : ℕ) (low : p < 64) (b : Base) where
  -- These statements leave the value in register d where it fits with all its parts and v_ok was 1; v_ok is 0 else.
  -- Registers below d keep.
  pub record Leaves (n d : ℕ) (ss : List CStmt) (m : Mine) (w : Work) : Type 0 where
    pub row : List Rational
    pub runs : Runs g p n ss (view b m) (view b (record m { row = row; ok = m.ok && w.fits_all }))
    pub wide : length row ≡ width
    pub below : SameBelow d row m.row
    pub value : m.ok ≡ true → w.fits_all ≡ true → register row d ≡ w.value

  leaves_longer : (n k d : ℕ) (ss : List CStmt) (m : Mine) (w : Work) → n ≤ k → Leaves n d ss m w → Leaves k d ss m w
  leaves_longer n k d ss m w less l = record {
    row = l.row;
    runs = runs_longer g p n k ss _ _ less l.runs;
    wide = l.wide;
    below = l.below;
    value = l.value;
  }

  leaves_as : (n d : ℕ) (ss rs : List CStmt) (m : Mine) (w u : Work) → ss ≡ rs → w ≡ u → Leaves n d rs m u → Leaves n d ss m w
  leaves_as n d ss rs m w u same_code same_work l =
      subst (λ (x : Work). Leaves n d ss m x) (sym same_work) (subst (λ (x : List CStmt). Leaves n d x m u) (sym same_code) l)

  -- a register is written by one statement that can't fail
  and_true : (x : Bool) → x ≡ (x && true)
  and_true true = refl
  and_true false = refl

  written : (d : ℕ) (ss : List CStmt) (m : Mine) (z : Rational) → d < width → length m.row ≡ width →
      Runs g p 1 ss (view b m) (view b (record m { row = slice_set m.row d z })) → Leaves 1 d ss m (record { value = z; fits_all = true })
  written d ss m z inside wide r = record {
    row = slice_set m.row d z;
    runs = subst (λ (x : Bool). Runs g p 1 ss (view b m) (view b (record m { row = slice_set m.row d z; ok = x }))) (and_true m.ok) r;
    wide = length-set m.row d z ∙ wide;
    below = same_set d m.row d z (omega arith);
    value = λ on fit. get_or-set_same m.row d z zero_ℚ (omega (arith, wide, inside));
  }

  -- the value changes its sign
  negates : (n d : ℕ) (ss : List CStmt) (m : Mine) (w : Work) → d < width → Leaves n d ss m w →
      Leaves (n + 1) d (ss ++ negate p d ∷ []) m (record { value = neg_ℚ w.value; fits_all = w.fits_all })
  negates n d ss m w inside l =
      let m1 = record m { row = l.row; ok = m.ok && w.fits_all } in
      record {
        row = slice_set l.row d (neg_ℚ (register l.row d));
        runs = runs_on g p n 1 ss (negate p d ∷ []) (view b m) (view b m1) _ l.runs (negate_piece g p low b m1 d inside);
        wide = length-set l.row d (neg_ℚ (register l.row d)) ∙ l.wide;
        below = same_on d _ l.row m.row (same_set d l.row d (neg_ℚ (register l.row d)) (omega arith)) l.below;
        value = λ on fit. get_or-set_same l.row d (neg_ℚ (register l.row d)) zero_ℚ (let wide = l.wide in omega (arith, wide, inside)) ∙ ap neg_ℚ (l.value on fit);
      }

  -- two values become one
  abbrev both : Op → Work → Work → Work
  both op w u = record { value = applied op w.value u.value; fits_all = w.fits_all && u.fits_all && fits (applied op w.value u.value) }

  abbrev behind : (n d : ℕ) (ss : List CStmt) (m : Mine) (w : Work) → Leaves n d ss m w → Mine
  behind n d ss m w l = record m { row = l.row; ok = m.ok && w.fits_all }

  joins : (n k d : ℕ) (ss rs : List CStmt) (op : Op) (m : Mine) (w u : Work) → d + 1 < width → divides_by_zero op u.value ≡ false →
      (l : Leaves n d ss m w) → Leaves k (d + 1) rs (behind n d ss m w l) u →
      Leaves (n + (k + 2)) d (ss ++ (rs ++ guarded (primitive_of op) p d d (d + 1) ∷ [])) m (both op w u)
  joins n k d ss rs op m w u inside some l r =
      let m1 = behind n d ss m w l in
      let m2 = behind k (d + 1) rs m1 u r in
      let x = register r.row d in
      let y = register r.row (d + 1) in
      let z = applied op x y in
      let is_left : m.ok ≡ true → w.fits_all ≡ true → x ≡ w.value =
      λ on fit. same_register (d + 1) r.row l.row d (omega arith) r.below ∙ l.value on fit in
      let is_right : (m.ok && w.fits_all) ≡ true → u.fits_all ≡ true → y ≡ u.value = λ on fit. r.value on fit in
      let is_both : m.ok ≡ true → w.fits_all ≡ true → u.fits_all ≡ true → z ≡ applied op w.value u.value =
      λ on left right. ap₂ (applied op) (is_left on left) (is_right (ap₂ (λ (i j : Bool). i && j) on left) right) in
      let ok : Bool = ((m.ok && w.fits_all) && u.fits_all) && fits z in
      let same_ok : ok ≡ (m.ok && (both op w u).fits_all) =
      joint m.ok w.fits_all u.fits_all (fits z) (fits (applied op w.value u.value)) (λ on left right. ap fits (is_both on left right)) in
      let no_zero_there : ((m.ok && w.fits_all) && u.fits_all) ≡ true → divides_by_zero op y ≡ false =
      λ h. let parts = and_parts (m.ok && w.fits_all) u.fits_all h in ap (divides_by_zero op) (is_right parts.0 parts.1) ∙ some in
      let runs : Runs g p (n + (k + 2)) (ss ++ (rs ++ guarded (primitive_of op) p d d (d + 1) ∷ [])) (view b m) (view b (record m { row = put_if ok r.row d z; ok = ok })) =
      runs_on g p n (k + 2) ss (rs ++ guarded (primitive_of op) p d d (d + 1) ∷ []) (view b m) (view b m1) _ l.runs
      (
      runs_on g p k 2 rs (guarded (primitive_of op) p d d (d + 1) ∷ []) (view b m1) (view b m2) _ r.runs
      (work_piece g p low b m2 op d d (d + 1) (omega (arith, inside)) (omega (arith, inside)) inside no_zero_there)
      ) in
      record {
        row = put_if ok r.row d z;
        runs = subst (λ (i : Bool). Runs g p (n + (k + 2)) (ss ++ (rs ++ guarded (primitive_of op) p d d (d + 1) ∷ [])) (view b m) (view b (record m { row = put_if ok r.row d z; ok = i }))) same_ok runs;
        wide = put_wide ok r.row d z r.wide;
        below = same_on d _ r.row m.row (put_same ok r.row d z d (omega arith)) (same_on d r.row l.row m.row (same_fewer d (d + 1) r.row l.row (omega arith) r.below) l.below);
        value =
            λ on fit.
            let parts = all_three w.fits_all u.fits_all (fits (applied op w.value u.value)) fit in
            let is_ok : ok ≡ true = same_ok ∙ ap₂ (λ (i j : Bool). i && j) on fit in
            ap (λ (i : Bool). register (put_if i r.row d z) d) is_ok
            ∙ get_or-set_same r.row d z zero_ℚ (let wide = r.wide in omega (arith, wide, inside))
            ∙ is_both on parts.0 parts.1;
      }

  -- ---- every expression

  -- the row at the beginning, whose first registers are the store
  module _ (vars : ℕ) (few : vars ≤ 64) (s : Store) (first : List Rational) (store_is : take vars first ≡ s) where
    -- a variable's value stands in its register
    variable_is : (row : List Rational) (x : ℕ) → x < vars → SameBelow first_scratch row first → register row x ≡ slice_index_or s x zero_ℚ
    variable_is row x less same =
        same_register first_scratch row first x (omega (arith, less, few)) same
        ∙ sym (get_or-take vars first x zero_ℚ less)
        ∙ ap (λ (l : List Rational). slice_index_or l x zero_ℚ) store_is

    abbrev Claim : Expr → Type 0
    Claim e =
        (d : ℕ) (m : Mine) → first_scratch ≤ d → d + height e < width → reach e ≤ vars → (form [] e).affine ≡ true → length m.row ≡ width →
        SameBelow first_scratch m.row first → Leaves (2 * nodes e) d (value_code p d e) m (work s e)

    claims_number : (e : Expr) (q : Rational) → e ≡ plain.Number q → Claim e
    claims_number e q h d m above room reaches affine wide same =
        let one : 1 ≤ 2 * nodes e = let n : nodes e ≡ 1 = fold-Number ℕ nodes_layer e q h in omega (arith, n) in
        leaves_longer 1 (2 * nodes e) d (value_code p d e) m (work s e) one
        (
        leaves_as 1 d (value_code p d e) (set_register p d q ∷ []) m (work s e) (work_layer s (Expr-F.Number q))
        (ap (λ (f : Coded). f d) (fold-Number Coded (value_layer p) e q h)) (fold-Number Work (work_layer s) e q h)
        (written d (set_register p d q ∷ []) m q (omega (arith, room)) wide (set_piece g p low b m d q (omega (arith, room))))
        )

    claims_variable : (e : Expr) (x : ℕ) → e ≡ plain.Variable x → Claim e
    claims_variable e x h d m above room reaches affine wide same =
        let n : nodes e ≡ 1 = fold-Variable ℕ nodes_layer e x h in
        let far : reach e ≡ x + 1 = fold-Variable ℕ reach_layer e x h in
        let less : x < vars = omega (arith, far, reaches) in
        let value : slice_index_or s x zero_ℚ ≡ register m.row x = sym (variable_is m.row x less same) in
        let inside : d < width = omega (arith, room) in
        leaves_longer 1 (2 * nodes e) d (value_code p d e) m (work s e) (omega (arith, n))
        (
        leaves_as 1 d (value_code p d e) (move_register p d x ∷ []) m (work s e) (record { value = register m.row x; fits_all = true })
        (ap (λ (f : Coded). f d) (fold-Variable Coded (value_layer p) e x h))
        (fold-Variable Work (work_layer s) e x h ∙ ap (λ (z : Rational). record { value = z; fits_all = true }) value)
        (written d (move_register p d x ∷ []) m (register m.row x) inside wide (move_piece g p low b m d x inside (omega (arith, less, few))))
        )

    claims_negated : (e a : Expr) → e ≡ seen.Neg a → Claim a → Claim e
    claims_negated e a h of_a d m above room reaches affine wide same =
        let n : nodes e ≡ 1 + nodes a = fold-Neg ℕ nodes_layer e a h in
        let far : reach e ≡ reach a = fold-Neg ℕ reach_layer e a h in
        let high : height e ≡ height a = fold-Neg ℕ height_layer e a h in
        let inside : d + height a < width = omega (arith, high, room) in
        let is_affine : (form [] a).affine ≡ true = sym (ap (λ (f : Form). f.affine) (fold-Neg Form (form_layer []) e a h)) ∙ affine in
        let l = of_a d m above inside (omega (arith, far, reaches)) is_affine wide same in
        leaves_longer (2 * nodes a + 1) (2 * nodes e) d (value_code p d e) m (work s e) (omega (arith, n))
        (
        leaves_as (2 * nodes a + 1) d (value_code p d e) (value_code p d a ++ negate p d ∷ []) m (work s e) (work_layer s (Expr-F.Neg (work s a)))
        (ap (λ (f : Coded). f d) (fold-Neg Coded (value_layer p) e a h)) (fold-Neg Work (work_layer s) e a h)
        (negates (2 * nodes a) d (value_code p d a) m (work s a) (omega (arith, inside)) l)
        )

    claims_joined : (e : Expr) (op : Op) (x y : Expr) → e ≡ seen.Binary op x y → Claim x → Claim y → Claim e
    claims_joined e op x y h of_x of_y d m above room reaches affine wide same =
        let n : nodes e ≡ 1 + nodes x + nodes y = fold-Binary ℕ nodes_layer e op x y h in
        let far : reach e ≡ max (reach x) (reach y) = fold-Binary ℕ reach_layer e op x y h in
        let high : height e ≡ max (height x) (1 + height y) = fold-Binary ℕ height_layer e op x y h in
        let is_affine : (((form [] x).affine && (form [] y).affine) && allowed op (form [] x) (form [] y)) ≡ true =
        sym (ap (λ (f : Form). f.affine) (fold-Binary Form (form_layer []) e op x y h)) ∙ affine in
        let parts = all_three (form [] x).affine (form [] y).affine (allowed op (form [] x) (form [] y)) is_affine in
        let l = of_x d m above (omega (arith, high, room)) (omega (arith, far, reaches)) parts.0 wide same in
        let m1 = behind (2 * nodes x) d (value_code p d x) m (work s x) l in
        let r = of_y (d + 1) m1 (omega (arith, above)) (omega (arith, high, room)) (omega (arith, far, reaches)) parts.1 l.wide
        (same_on first_scratch l.row m.row first (same_fewer first_scratch d l.row m.row above l.below) same) in
        leaves_longer (2 * nodes x + (2 * nodes y + 2)) (2 * nodes e) d (value_code p d e) m (work s e) (omega (arith, n))
        (
        leaves_as (2 * nodes x + (2 * nodes y + 2)) d (value_code p d e)
        (value_code p d x ++ (value_code p (d + 1) y ++ guarded (primitive_of op) p d d (d + 1) ∷ [])) m (work s e) (both op (work s x) (work s y))
        (ap (λ (f : Coded). f d) (fold-Binary Coded (value_layer p) e op x y h)) (fold-Binary Work (work_layer s) e op x y h)
        (joins (2 * nodes x) (2 * nodes y) d (value_code p d x) (value_code p (d + 1) y) op m (work s x) (work s y) (omega (arith, high, room)) (no_zero [] s op x y parts.2) l r)
        )

    each_claims : EachForm Claim
    each_claims = record { number = claims_number; variable = claims_variable; negated = claims_negated; joined = claims_joined }

    pub value_leaves : (e : Expr) → Claim e
    value_leaves = by_form Claim each_claims
