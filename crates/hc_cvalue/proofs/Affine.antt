-- Every affine expression: its code leaves its line.
use Rattle.std.specs.Prelude.{◌≡◌, ◌≤◌, ◌<◌, ℕ, ◌+◌, ◌*◌, max, Bool, true, ◌&&◌, List, [], ◌∷◌, ◌++◌, length, take, slice_set, slice_index_or, Option, Some, None}
use Rattle.std.proofs.Common.{refl, sym, ap, ◌∙◌, subst, arith}
use Rattle.std.proofs.lemmas.List.{get_or-take}
use Rattle.hc_rational.specs.Words.{Rational, zero_ℚ}
use Rattle.hc_term.specs.declared.expr.Op.{Op}
use Rattle.hc_term.specs.declared.expr.Expr.{Expr}
use Rattle.hc_term.specs.declared.expr.Expr.TheOpen.{Expr-F}
use Rattle.hc_term.specs.declared.expr.Expr.TheVariants as plain
use Rattle.hc_term.specs.declared.expr.Expr.TheViews as seen
use Rattle.hc_term.specs.declared.form.Form.{Form}
use Rattle.hc_term.specs.Value.{Store}
use Rattle.hc_term.specs.Motion.{Rates, Line, line_layer, line, rate_of, evolves, allowed, form_layer, form}
use Rattle.hc_term.specs.Profile.{nodes_layer, nodes, reach_layer, reach}
use Rattle.hc_cast.specs.declared.stmt.CStmt.{CStmt}
use Rattle.hc_cast.specs.declared.program.CProgram.{CProgram}
use Rattle.hc_cmach.specs.State.{width}
use Rattle.hc_clogic.specs.Runs.{Runs}
use Rattle.hc_cbuild.specs.Written.{set_register, move_register}
use Rattle.hc_cstep.specs.Locals.{Mine, Base, view}
use Rattle.hc_cstep.specs.Stands.{register, first_scratch}
use Rattle.hc_cstep.specs.Stands as stands
use Rattle.hc_cstep.specs.Parts.{RateIs, AreRates}
use Rattle.hc_cvalue.specs.Values.{height_layer, height, negate}
use Rattle.hc_cvalue.specs.Lines.{line_height, joins_lines, variable_slope, Drawn, drawn_layer, drawn, line_code}
use Rattle.hc_cvalue.proofs.Forms.{by_form, fold-Number, fold-Variable, fold-Neg, fold-Binary}
use Rattle.hc_cvalue.proofs.Rows.{SameBelow, same_register, same_fewer, same_on, same_set}
use Rattle.hc_cvalue.proofs.Pieces.{set_piece, move_piece}
use Rattle.hc_cvalue.proofs.Values.{all_three}
use Rattle.hc_cvalue.proofs.Slopes.{GoWith, slope_is, fares, no_zero_divisor, moves_known}
use Rattle.hc_cvalue.proofs.Lines.{Draws, draws_longer, draws_as, written, negated, both, joined}

-- rates that are held go with the pattern
pub rates_go : (pattern r : Rates) (row : List Rational) → AreRates pattern r row → GoWith pattern r
rates_go pattern r row h x = by (slice_index_or pattern x None) (slice_index_or r x None) (h x)
  where
    by : (k l : Option Rational) → RateIs k l (register row (stands.rate_of x)) → evolves k ≡ evolves l
    by None None i = refl
    by (Some k) (Some l) i = refl
    by None (Some l) i = absurd i
    by (Some k) None i = absurd i

module _ (g : CProgram) (p : ℕ) (low : p < 64) (b : Base) (vars : ℕ) (few : vars ≤ 64) (s : Store) (pattern r : Rates) (first : List Rational) (store_is : take vars first ≡ s) (rates : AreRates pattern r first) where
  abbrev Claim : Expr → Type 0
  Claim e =
      (d : ℕ) (m : Mine) → first_scratch ≤ d → d + line_height e < width → reach e ≤ vars → (form pattern e).affine ≡ true → length m.row ≡ width →
      SameBelow first_scratch m.row first → Draws g p low b (4 * nodes e) d (line_code p pattern d e) m (line s r e)

  -- what stands for e by its form
  shaped : (e : Expr) (n d : ℕ) (ss : List CStmt) (m : Mine) (l : Line) → n ≤ 4 * nodes e → line_code p pattern d e ≡ ss → line s r e ≡ l →
      Draws g p low b n d ss m l → Draws g p low b (4 * nodes e) d (line_code p pattern d e) m (line s r e)
  shaped e n d ss m l few_steps code is j =
      draws_longer g p low b n (4 * nodes e) d (line_code p pattern d e) m (line s r e) few_steps
      (draws_as g p low b n d (line_code p pattern d e) ss m (line s r e) l code is j)

  claims_number : (e : Expr) (q : Rational) → e ≡ plain.Number q → Claim e
  claims_number e q h d m above room reaches affine wide same =
      let n : nodes e ≡ 1 = fold-Number ℕ nodes_layer e q h in
      let inside : d + 1 < width = omega (arith, room) in
      let m1 = record m { row = slice_set m.row d q } in
      shaped e 2 d (set_register p d q ∷ set_register p (d + 1) zero_ℚ ∷ []) m (record { at = q; slope = zero_ℚ; fits_all = true }) (omega (arith, n))
      (ap (λ (f : Drawn). f.code d) (fold-Number Drawn (drawn_layer p pattern) e q h)) (fold-Number Line (line_layer s r) e q h)
      (
      written g p low b d (set_register p d q) (set_register p (d + 1) zero_ℚ) m q zero_ℚ inside wide (set_piece g p low b m d q (omega (arith, inside)))
      (set_piece g p low b m1 (d + 1) zero_ℚ inside)
      )

  -- the slope of a variable is written behind its value
  slope_piece : (m : Mine) (d x : ℕ) (k l : Option Rational) → d + 1 < width → x < 64 → RateIs k l (register m.row (stands.rate_of x)) →
      Runs g p 1 (variable_slope k p d x ∷ []) (view b m) (view b (record m { row = slice_set m.row (d + 1) (rate_of l) }))
  slope_piece m d x None None inside less h = set_piece g p low b m (d + 1) zero_ℚ inside
  slope_piece m d x (Some k) (Some rate) inside less h =
      subst (λ (z : Rational). Runs g p 1 (move_register p (d + 1) (stands.rate_of x) ∷ []) (view b m) (view b (record m { row = slice_set m.row (d + 1) z }))) h
      (move_piece g p low b m (d + 1) (stands.rate_of x) inside (omega (arith, less)))
  slope_piece m d x None (Some rate) inside less h = absurd h
  slope_piece m d x (Some k) None inside less h = absurd h

  claims_variable : (e : Expr) (x : ℕ) → e ≡ plain.Variable x → Claim e
  claims_variable e x h d m above room reaches affine wide same =
      let n : nodes e ≡ 1 = fold-Variable ℕ nodes_layer e x h in
      let far : reach e ≡ x + 1 = fold-Variable ℕ reach_layer e x h in
      let less : x < vars = omega (arith, far, reaches) in
      let inside : d + 1 < width = omega (arith, room) in
      let known = slice_index_or pattern x None in
      let rate = slice_index_or r x None in
      let value : register m.row x ≡ slice_index_or s x zero_ℚ =
      same_register first_scratch m.row first x (omega (arith, less, few)) same
      ∙ sym (get_or-take vars first x zero_ℚ less)
      ∙ ap (λ (l : List Rational). slice_index_or l x zero_ℚ) store_is in
      let m1 = record m { row = slice_set m.row d (register m.row x) } in
      let held : register m1.row (stands.rate_of x) ≡ register first (stands.rate_of x) =
      same_register first_scratch m1.row first (stands.rate_of x) (omega (arith, less, few))
      (same_on first_scratch m1.row m.row first (same_set first_scratch m.row d (register m.row x) above) same) in
      let rate_there : RateIs known rate (register m1.row (stands.rate_of x)) = subst (λ (z : Rational). RateIs known rate z) (sym held) (rates x) in
      shaped e 2 d (move_register p d x ∷ variable_slope known p d x ∷ []) m (record { at = register m.row x; slope = rate_of rate; fits_all = true }) (omega (arith, n))
      (ap (λ (f : Drawn). f.code d) (fold-Variable Drawn (drawn_layer p pattern) e x h))
      (fold-Variable Line (line_layer s r) e x h ∙ ap (λ (z : Rational). record { at = z; slope = rate_of rate; fits_all = true }) (sym value))
      (
      written g p low b d (move_register p d x) (variable_slope known p d x) m (register m.row x) (rate_of rate) inside wide
      (move_piece g p low b m d x (omega (arith, inside)) (omega (arith, less, few)))
      (slope_piece m1 d x known rate inside (omega (arith, less, few)) rate_there)
      )

  claims_negated : (e a : Expr) → e ≡ seen.Neg a → Claim a → Claim e
  claims_negated e a h of_a d m above room reaches affine wide same =
      let n : nodes e ≡ 1 + nodes a = fold-Neg ℕ nodes_layer e a h in
      let far : reach e ≡ reach a = fold-Neg ℕ reach_layer e a h in
      let high : height e ≡ height a = fold-Neg ℕ height_layer e a h in
      let is_affine : (form pattern a).affine ≡ true = sym (ap (λ (f : Form). f.affine) (fold-Neg Form (form_layer pattern) e a h)) ∙ affine in
      let j = of_a d m above (omega (arith, high, room)) (omega (arith, far, reaches)) is_affine wide same in
      shaped e (4 * nodes a + 2) d (line_code p pattern d a ++ negate p d ∷ negate p (d + 1) ∷ []) m (line_layer s r (Expr-F.Neg (line s r a))) (omega (arith, n))
      (ap (λ (f : Drawn). f.code d) (fold-Neg Drawn (drawn_layer p pattern) e a h)) (fold-Neg Line (line_layer s r) e a h)
      (negated g p low b (4 * nodes a) d (line_code p pattern d a) m (line s r a) (omega (arith, room)) j)

  claims_joined : (e : Expr) (op : Op) (x y : Expr) → e ≡ seen.Binary op x y → Claim x → Claim y → Claim e
  claims_joined e op x y h of_x of_y d m above room reaches affine wide same =
      let n : nodes e ≡ 1 + nodes x + nodes y = fold-Binary ℕ nodes_layer e op x y h in
      let far : reach e ≡ max (reach x) (reach y) = fold-Binary ℕ reach_layer e op x y h in
      let high : height e ≡ max (height x) (1 + height y) = fold-Binary ℕ height_layer e op x y h in
      let is_affine : (((form pattern x).affine && (form pattern y).affine) && allowed op (form pattern x) (form pattern y)) ≡ true =
      sym (ap (λ (f : Form). f.affine) (fold-Binary Form (form_layer pattern) e op x y h)) ∙ affine in
      let parts = all_three (form pattern x).affine (form pattern y).affine (allowed op (form pattern x) (form pattern y)) is_affine in
      let j = of_x d m above (omega (arith, high, room)) (omega (arith, far, reaches)) parts.0 wide same in
      let m1 = record m { row = j.row; ok = m.ok && (line s r x).fits_all } in
      let i = of_y (d + 2) m1 (omega (arith, above)) (omega (arith, high, room)) (omega (arith, far, reaches)) parts.1 j.wide
      (same_on first_scratch j.row m.row first (same_fewer first_scratch d j.row m.row above j.below) same) in
      let alike = rates_go pattern r first rates in
      let moves = (drawn p pattern x).moves in
      let slope_as =
      slope_is op (line s r x) (line s r y) (form pattern x) (form pattern y) parts.2 (λ k. (fares s pattern r alike x).still parts.0 k)
      (λ k. (fares s pattern r alike y).still parts.1 k) in
      shaped e (4 * nodes x + (4 * nodes y + 4)) d (line_code p pattern d x ++ (line_code p pattern (d + 2) y ++ joins_lines p op moves d)) m
      (both g p low b op (line s r x) (line s r y)) (omega (arith, n))
      (ap (λ (f : Drawn). f.code d) (fold-Binary Drawn (drawn_layer p pattern) e op x y h)) (fold-Binary Line (line_layer s r) e op x y h)
      (
      subst (λ (z : Bool). Draws g p low b (4 * nodes x + (4 * nodes y + 4)) d (line_code p pattern d x ++ (line_code p pattern (d + 2) y ++ joins_lines p op z d)) m (both g p low b op (line s r x) (line s r y)))
      (sym (moves_known p pattern x))
      (
      joined g p low b (4 * nodes x) (4 * nodes y) d (line_code p pattern d x) (line_code p pattern (d + 2) y) op (form pattern x).moves m (line s r x) (line s r y)
      (omega (arith, high, room)) (no_zero_divisor s pattern r alike op x y parts.2) slope_as j i
      )
      )

  pub line_draws : (e : Expr) → Claim e
  line_draws = by_form Claim (record { number = claims_number; variable = claims_variable; negated = claims_negated; joined = claims_joined })
