-- The code of expressions, conditions and lines is linear in their nodes.
use Rattle.std.specs.Prelude.{◌≡◌, ◌≤◌, ℕ, ◌+◌, ◌*◌, Bool, List, [], ◌∷◌, ◌++◌, slice_index_or, Option, Some, None}
use Rattle.std.proofs.Common.{ap, ◌∙◌, arith}
use Rattle.hc_rational.specs.Words.{Rational}
use Rattle.hc_term.specs.declared.expr.Op.{Op}
use Rattle.hc_term.specs.declared.expr.Comparison.{Comparison}
use Rattle.hc_term.specs.declared.expr.Expr.{Expr}
use Rattle.hc_term.specs.declared.expr.Cond.{Cond}
use Rattle.hc_term.specs.Motion.{Rates}
use Rattle.hc_term.specs.Profile.{nodes_layer, nodes, nodes_in_layer, nodes_in}
use Rattle.hc_cast.specs.declared.stmt.CStmt.{CStmt}
use Rattle.hc_cbuild.specs.Written.{move_register, guarded, primitive_of}
use Rattle.hc_cvalue.specs.Values.{negate, Coded, value_layer, value_code}
use Rattle.hc_cvalue.specs.Truths.{look, compares, inverts, conjoins, disjoins, truth_layer, truth_code}
use Rattle.hc_cvalue.specs.Lines.{joins_lines, variable_slope, Drawn, drawn_layer, drawn, line_code}
use Rattle.hc_cstep.specs.Size.{sizes}
use Rattle.hc_cvalue.specs.Sizes.{ValuesAreShort, TestsAreShort, LinesAreShort}
use Rattle.hc_cstep.proofs.Sizes.{sizes-append, size-Set, size-Call, size-When, size-If}
use Rattle.hc_cvalue.proofs.Forms as f
use Rattle.hc_cvalue.proofs.CondForms as c

ruleset all_forms = (size-Set, size-Call, size-When, size-If)

-- ---- pieces

size_guarded : (p d x y : ℕ) (op : Op) → sizes (guarded (primitive_of op) p d x y ∷ []) ≡ 2
size_guarded p d x y op = simp all_forms

size_compares : (p : ℕ) (how : Comparison) (d : ℕ) → sizes (compares p how d) ≡ 5
size_compares p how d = simp all_forms

size_inverts : (p d : ℕ) → sizes (inverts p d) ≡ 4
size_inverts p d = simp all_forms

size_conjoins : (p d : ℕ) → sizes (conjoins p d) ≡ 3
size_conjoins p d = simp all_forms

size_disjoins : (p d : ℕ) → sizes (disjoins p d) ≡ 3
size_disjoins p d = simp all_forms

size_joins : (p : ℕ) (op : Op) (moves : Bool) (d : ℕ) → sizes (joins_lines p op moves d) ≡ 4
size_joins p op moves d = simp all_forms

size_variable : (p d x : ℕ) (k : Option Rational) → sizes (move_register p d x ∷ variable_slope k p d x ∷ []) ≡ 2
size_variable p d x None = simp all_forms
size_variable p d x (Some k) = simp all_forms

-- ---- expressions

module _ (p : ℕ) where
  abbrev Short : Expr → Type 0
  Short e = (d : ℕ) → sizes (value_code p d e) ≤ 2 * nodes e

  short : f.EachForm Short
  short = record {
    number =
        λ e q h d.
        let n : nodes e ≡ 1 = f.fold-Number ℕ nodes_layer e q h in
        let k : sizes (value_code p d e) ≡ 1 =
        ap (λ (x : Coded). sizes (x d)) (f.fold-Number Coded (value_layer p) e q h) ∙ (simp all_forms) in
        omega (arith, n, k);
    variable =
        λ e x h d.
        let n : nodes e ≡ 1 = f.fold-Variable ℕ nodes_layer e x h in
        let k : sizes (value_code p d e) ≡ 1 =
        ap (λ (y : Coded). sizes (y d)) (f.fold-Variable Coded (value_layer p) e x h) ∙ (simp all_forms) in
        omega (arith, n, k);
    negated =
        λ e a h i d.
        let n : nodes e ≡ 1 + nodes a = f.fold-Neg ℕ nodes_layer e a h in
        let one : sizes (negate p d ∷ []) ≡ 1 = simp all_forms in
        let k : sizes (value_code p d e) ≡ sizes (value_code p d a) + sizes (negate p d ∷ []) =
        ap (λ (x : Coded). sizes (x d)) (f.fold-Neg Coded (value_layer p) e a h) ∙ sizes-append (value_code p d a) (negate p d ∷ []) in
        let part = i d in
        omega (arith, n, k, one, part);
    joined =
        λ e op x y h i j d.
        let n : nodes e ≡ 1 + nodes x + nodes y = f.fold-Binary ℕ nodes_layer e op x y h in
        let two = size_guarded p d d (d + 1) op in
        let last = guarded (primitive_of op) p d d (d + 1) ∷ [] in
        let k : sizes (value_code p d e) ≡ sizes (value_code p d x) + sizes (value_code p (d + 1) y ++ last) =
        ap (λ (z : Coded). sizes (z d)) (f.fold-Binary Coded (value_layer p) e op x y h) ∙ sizes-append (value_code p d x) (value_code p (d + 1) y ++ last) in
        let l = sizes-append (value_code p (d + 1) y) last in
        let left = i d in
        let right = j (d + 1) in
        omega (arith, n, k, l, two, left, right);
  }

pub values_are_short : ValuesAreShort
values_are_short p d e = f.by_form (Short p) (short p) e d

-- ---- lines

module _ (p : ℕ) (pattern : Rates) where
  abbrev ShortLine : Expr → Type 0
  ShortLine e = (d : ℕ) → sizes (line_code p pattern d e) ≤ 4 * nodes e

  short_line : f.EachForm ShortLine
  short_line = record {
    number =
        λ e q h d.
        let n : nodes e ≡ 1 = f.fold-Number ℕ nodes_layer e q h in
        let k : sizes (line_code p pattern d e) ≡ 2 =
        ap (λ (x : Drawn). sizes (x.code d)) (f.fold-Number Drawn (drawn_layer p pattern) e q h) ∙ (simp all_forms) in
        omega (arith, n, k);
    variable =
        λ e x h d.
        let n : nodes e ≡ 1 = f.fold-Variable ℕ nodes_layer e x h in
        let k : sizes (line_code p pattern d e) ≡ 2 =
        ap (λ (y : Drawn). sizes (y.code d)) (f.fold-Variable Drawn (drawn_layer p pattern) e x h) ∙ size_variable p d x (slice_index_or pattern x None) in
        omega (arith, n, k);
    negated =
        λ e a h i d.
        let n : nodes e ≡ 1 + nodes a = f.fold-Neg ℕ nodes_layer e a h in
        let last = negate p d ∷ negate p (d + 1) ∷ [] in
        let two : sizes last ≡ 2 = simp all_forms in
        let k : sizes (line_code p pattern d e) ≡ sizes (line_code p pattern d a) + sizes last =
        ap (λ (x : Drawn). sizes (x.code d)) (f.fold-Neg Drawn (drawn_layer p pattern) e a h) ∙ sizes-append (line_code p pattern d a) last in
        let part = i d in
        omega (arith, n, k, two, part);
    joined =
        λ e op x y h i j d.
        let n : nodes e ≡ 1 + nodes x + nodes y = f.fold-Binary ℕ nodes_layer e op x y h in
        let moves = (drawn p pattern x).moves in
        let last = joins_lines p op moves d in
        let four = size_joins p op moves d in
        let k : sizes (line_code p pattern d e) ≡ sizes (line_code p pattern d x) + sizes (line_code p pattern (d + 2) y ++ last) =
        ap (λ (z : Drawn). sizes (z.code d)) (f.fold-Binary Drawn (drawn_layer p pattern) e op x y h)
        ∙ sizes-append (line_code p pattern d x) (line_code p pattern (d + 2) y ++ last) in
        let l = sizes-append (line_code p pattern (d + 2) y) last in
        let left = i d in
        let right = j (d + 2) in
        omega (arith, n, k, l, four, left, right);
  }

pub lines_are_short : LinesAreShort
lines_are_short p d pattern e = f.by_form (ShortLine p pattern) (short_line p pattern) e d

-- ---- conditions

module _ (p : ℕ) where
  abbrev ShortTest : Cond → Type 0
  ShortTest c = (d : ℕ) → sizes (truth_code p d c) ≤ 5 * nodes_in c

  joined_short : (e x y : Cond) (d : ℕ) (last : List CStmt) → nodes_in e ≡ 1 + nodes_in x + nodes_in y → sizes last ≡ 3 →
      truth_code p d e ≡ truth_code p d x ++ (truth_code p (d + 1) y ++ last) → ShortTest x → ShortTest y → sizes (truth_code p d e) ≤ 5 * nodes_in e
  joined_short e x y d last n three same i j =
      let k : sizes (truth_code p d e) ≡ sizes (truth_code p d x) + sizes (truth_code p (d + 1) y ++ last) =
      ap sizes same ∙ sizes-append (truth_code p d x) (truth_code p (d + 1) y ++ last) in
      let l = sizes-append (truth_code p (d + 1) y) last in
      let left = i d in
      let right = j (d + 1) in
      omega (arith, n, k, l, three, left, right)

  short_test : c.EachForm ShortTest
  short_test = record {
    always =
        λ e h d.
        let n : nodes_in e ≡ 1 = c.fold-True ℕ nodes_in_layer e h in
        let k : sizes (truth_code p d e) ≡ 1 = ap (λ (x : Coded). sizes (x d)) (c.fold-True Coded (truth_layer p) e h) ∙ (simp all_forms) in
        omega (arith, n, k);
    never =
        λ e h d.
        let n : nodes_in e ≡ 1 = c.fold-False ℕ nodes_in_layer e h in
        let k : sizes (truth_code p d e) ≡ 1 = ap (λ (x : Coded). sizes (x d)) (c.fold-False Coded (truth_layer p) e h) ∙ (simp all_forms) in
        omega (arith, n, k);
    comparison =
        λ e how x y h d.
        let n : nodes_in e ≡ 1 + nodes x + nodes y = c.fold-Compare ℕ nodes_in_layer e how x y h in
        let last = compares p how d in
        let five = size_compares p how d in
        let k : sizes (truth_code p d e) ≡ sizes (value_code p d x) + sizes (value_code p (d + 1) y ++ last) =
        ap (λ (z : Coded). sizes (z d)) (c.fold-Compare Coded (truth_layer p) e how x y h)
        ∙ sizes-append (value_code p d x) (value_code p (d + 1) y ++ last) in
        let l = sizes-append (value_code p (d + 1) y) last in
        let left = values_are_short p d x in
        let right = values_are_short p (d + 1) y in
        omega (arith, n, k, l, five, left, right);
    negated =
        λ e a h i d.
        let n : nodes_in e ≡ 1 + nodes_in a = c.fold-Not ℕ nodes_in_layer e a h in
        let four = size_inverts p d in
        let k : sizes (truth_code p d e) ≡ sizes (truth_code p d a) + sizes (inverts p d) =
        ap (λ (x : Coded). sizes (x d)) (c.fold-Not Coded (truth_layer p) e a h) ∙ sizes-append (truth_code p d a) (inverts p d) in
        let part = i d in
        omega (arith, n, k, four, part);
    conjoined =
        λ e x y h i j d.
        joined_short e x y d (conjoins p d) (c.fold-And ℕ nodes_in_layer e x y h) (size_conjoins p d) (ap (λ (z : Coded). z d) (c.fold-And Coded (truth_layer p) e x y h)) i j;
    disjoined =
        λ e x y h i j d.
        joined_short e x y d (disjoins p d) (c.fold-Or ℕ nodes_in_layer e x y h) (size_disjoins p d) (ap (λ (z : Coded). z d) (c.fold-Or Coded (truth_layer p) e x y h)) i j;
  }

pub tests_are_short : TestsAreShort
tests_are_short p d e =
    let one : sizes (look p d ∷ []) ≡ 1 = simp all_forms in
    let k = sizes-append (truth_code p d e) (look p d ∷ []) in
    let part = c.by_form (ShortTest p) (short_test p) e d in
    omega (arith, one, k, part)
