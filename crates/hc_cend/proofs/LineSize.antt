-- The code of a line has at most four statements a node.
use Rattle.std.specs.Prelude.{◌≡◌, ◌≤◌, ℕ, ◌+◌, ◌*◌, [], ◌∷◌, ◌++◌, slice_index_or, Option, Some, None}
use Rattle.std.proofs.Common.{ap, arith}
use Rattle.hc_rational.specs.Words.{Rational}
use Rattle.hc_term.specs.declared.expr.Op.{Op}
use Rattle.hc_term.specs.declared.expr.Expr.{Expr}
use Rattle.hc_term.specs.declared.expr.Expr.TheOpen.{Expr-F}
use Rattle.hc_term.specs.declared.expr.Expr.TheVariants as plain
use Rattle.hc_term.specs.declared.expr.Expr.TheViews as seen
use Rattle.hc_term.specs.Motion.{Rates}
use Rattle.hc_term.specs.Profile.{nodes_layer, nodes}
use Rattle.hc_cvalue.specs.Values.{negate}
use Rattle.hc_cvalue.specs.Lines.{Drawn, drawn_layer, drawn, line_code, joins_lines, variable_slope}
use Rattle.hc_cvalue.proofs.Forms as forms
use Rattle.hc_cstep.specs.Size.{size, sizes}
use Rattle.hc_cstep.proofs.Sizes.{sizes-append}
use Rattle.hc_cend.proofs.StatementSizes.{sized}

slope_one : (o : Option Rational) (p d x : ℕ) → size (variable_slope o p d x) ≡ 1
slope_one None p d x = simp sized
slope_one (Some k) p d x = simp sized

module _ (p : ℕ) (pattern : Rates) where
  abbrev pub IsShort : Expr → Type 0
  IsShort e = (d : ℕ) → sizes (line_code p pattern d e) ≤ 4 * nodes e

  number : (e : Expr) (q : Rational) → e ≡ plain.Number q → IsShort e
  number e q h d =
      let k = ap (λ (x : Drawn). sizes (x.code d)) (forms.fold-Number Drawn (drawn_layer p pattern) e q h) in
      let n = forms.fold-Number ℕ nodes_layer e q h in
      let two : sizes ((drawn_layer p pattern (Expr-F.Number q)).code d) ≡ 2 = simp sized in
      omega (arith, k, n, two)

  variable : (e : Expr) (x : ℕ) → e ≡ plain.Variable x → IsShort e
  variable e x h d =
      let k = ap (λ (y : Drawn). sizes (y.code d)) (forms.fold-Variable Drawn (drawn_layer p pattern) e x h) in
      let n = forms.fold-Variable ℕ nodes_layer e x h in
      let slope = slope_one (slice_index_or pattern x None) p d x in
      let two : sizes ((drawn_layer p pattern (Expr-F.Variable x)).code d) ≡ 2 = simp (sized, slope) in
      omega (arith, k, n, two)

  negated : (e a : Expr) → e ≡ seen.Neg a → IsShort a → IsShort e
  negated e a h i d =
      let k = ap (λ (y : Drawn). sizes (y.code d)) (forms.fold-Neg Drawn (drawn_layer p pattern) e a h) in
      let n = forms.fold-Neg ℕ nodes_layer e a h in
      let two : sizes (negate p d ∷ negate p (d + 1) ∷ []) ≡ 2 = simp sized in
      let parts = sizes-append (line_code p pattern d a) (negate p d ∷ negate p (d + 1) ∷ []) in
      let first = i d in
      omega (arith, k, n, two, parts, first)

  joined : (e : Expr) (op : Op) (a b : Expr) → e ≡ seen.Binary op a b → IsShort a → IsShort b → IsShort e
  joined e op a b h i j d =
      let k = ap (λ (y : Drawn). sizes (y.code d)) (forms.fold-Binary Drawn (drawn_layer p pattern) e op a b h) in
      let n = forms.fold-Binary ℕ nodes_layer e op a b h in
      let both = joins_lines p op (drawn p pattern a).moves d in
      let four : sizes both ≡ 4 = simp sized in
      let parts = sizes-append (line_code p pattern d a) (line_code p pattern (d + 2) b ++ both) in
      let others = sizes-append (line_code p pattern (d + 2) b) both in
      let first = i d in
      let second = j (d + 2) in
      omega (arith, k, n, four, parts, others, first, second)

  pub line_short : (e : Expr) (d : ℕ) → sizes (line_code p pattern d e) ≤ 4 * nodes e
  line_short = forms.by_form IsShort (record { number = number; variable = variable; negated = negated; joined = joined })
