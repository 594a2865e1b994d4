-- A guarded call of arithmetic, `if (v_ok == 1) { v_ok = p(r, d, x, y); }`: it does nothing where v_ok is 0, and else v_ok
-- tells whether the result fits, which is then in register d.
use Rattle.std.specs.Prelude.{◌≡◌, ℕ, nat_lt, Bool, true, false, ◌&&◌, if◌then◌else◌, List, [], ◌∷◌, slice_set, slice_index_or}
use Rattle.std.proofs.Common.{refl, arith}
use Rattle.hc_schedule.proofs.SoloRuns.{set_twice}
use Rattle.hc_rational.specs.Words.{Rational, zero_ℚ, ◌+ℚ◌, ◌-ℚ◌, ◌*ℚ◌, ◌/ℚ◌, fits, is_zero}
use Rattle.hc_term.specs.declared.expr.Op.{Op}
use Rattle.hc_term.specs.declared.expr.Op.TheVariants as sign
use Rattle.hc_term.specs.Value.{applied, divides_by_zero}
use Rattle.hc_cast.specs.declared.primitive.Primitive.{Primitive}
use Rattle.hc_cast.specs.declared.primitive.Primitive.TheVariants.{FrAdd, FrSub, FrMul, FrDiv}
use Rattle.hc_cast.specs.declared.program.CProgram.{CProgram}
use Rattle.hc_cmach.specs.State.{place_of, width}
use Rattle.hc_cmach.specs.Expression.{int_of}
use Rattle.hc_cmach.proofs.Worths.{forms}
use Rattle.hc_clogic.specs.Runs.{View, Runs}
use Rattle.hc_clogic.proofs.Runs.{runs_straight, runs_longer}
use Rattle.hc_cbuild.specs.Written.{v_ok, guarded, primitive_of}
use Rattle.hc_cbuild.proofs.Fractions.{IsThread, is_row, not_common, own_row, seen, HasOk, ok_there}

-- the row behind it
abbrev pub put_if : Bool → List Rational → ℕ → Rational → List Rational
put_if b row d z = if b then slice_set row d z else row

module _ (g : CProgram) (t : ℕ) (own : IsThread t) (u : View) (h : HasOk u) where
  -- where v_ok is 0 it is passed by
  pub passes_by : (p : Primitive) (row : List Rational) (d x y : ℕ) → Runs g t 1 (guarded p t d x y ∷ []) (seen u row false) (seen u row false)
  passes_by p row d x y =
      runs_straight g t 1 (guarded p t d x y ∷ []) _ _ (λ rest target gives below. simp (forms, ok_there u false h))

  module _ (row : List Rational) (d x y : ℕ) (in_d : nat_lt d width ≡ true) (in_x : nat_lt x width ≡ true) (in_y : nat_lt y width ≡ true) where
    abbrev l : Rational
    l = slice_index_or row x zero_ℚ

    abbrev r : Rational
    r = slice_index_or row y zero_ℚ

    twice : (b c : Bool) → slice_set (slice_set u.values (place_of v_ok u.names) (int_of b)) (place_of v_ok u.names) (int_of c) ≡ slice_set u.values (place_of v_ok u.names) (int_of c)
    twice b c = set_twice u.values (place_of v_ok u.names) (int_of b) (int_of c)

    abbrev Goes : Primitive → Rational → Bool → Type 0
    Goes p z b = Runs g t 2 (guarded p t d x y ∷ []) (seen u row true) (seen u (put_if b row d z) b)

    adds : (b : Bool) → fits (l +ℚ r) ≡ b → Goes FrAdd (l +ℚ r) b
    adds true e = runs_straight g t 2 (guarded FrAdd t d x y ∷ []) _ _ (λ rest target gives below. simp (forms, ok_there u true h, is_row t own, not_common t own, own_row t, in_d, in_x, in_y, e, twice true true))
    adds false e = runs_straight g t 2 (guarded FrAdd t d x y ∷ []) _ _ (λ rest target gives below. simp (forms, ok_there u true h, is_row t own, not_common t own, own_row t, in_d, in_x, in_y, e, twice true false))

    subtracts : (b : Bool) → fits (l -ℚ r) ≡ b → Goes FrSub (l -ℚ r) b
    subtracts true e = runs_straight g t 2 (guarded FrSub t d x y ∷ []) _ _ (λ rest target gives below. simp (forms, ok_there u true h, is_row t own, not_common t own, own_row t, in_d, in_x, in_y, e, twice true true))
    subtracts false e = runs_straight g t 2 (guarded FrSub t d x y ∷ []) _ _ (λ rest target gives below. simp (forms, ok_there u true h, is_row t own, not_common t own, own_row t, in_d, in_x, in_y, e, twice true false))

    multiplies : (b : Bool) → fits (l *ℚ r) ≡ b → Goes FrMul (l *ℚ r) b
    multiplies true e = runs_straight g t 2 (guarded FrMul t d x y ∷ []) _ _ (λ rest target gives below. simp (forms, ok_there u true h, is_row t own, not_common t own, own_row t, in_d, in_x, in_y, e, twice true true))
    multiplies false e = runs_straight g t 2 (guarded FrMul t d x y ∷ []) _ _ (λ rest target gives below. simp (forms, ok_there u true h, is_row t own, not_common t own, own_row t, in_d, in_x, in_y, e, twice true false))

    divides : (b : Bool) → is_zero r ≡ false → fits (l /ℚ r) ≡ b → Goes FrDiv (l /ℚ r) b
    divides true some e = runs_straight g t 2 (guarded FrDiv t d x y ∷ []) _ _ (λ rest target gives below. simp (forms, ok_there u true h, is_row t own, not_common t own, own_row t, in_d, in_x, in_y, some, e, twice true true))
    divides false some e = runs_straight g t 2 (guarded FrDiv t d x y ∷ []) _ _ (λ rest target gives below. simp (forms, ok_there u true h, is_row t own, not_common t own, own_row t, in_d, in_x, in_y, some, e, twice true false))

    applies : (op : Op) (b : Bool) → divides_by_zero op r ≡ false → fits (applied op l r) ≡ b → Goes (primitive_of op) (applied op l r) b
    applies sign.Add b some e = adds b e
    applies sign.Sub b some e = subtracts b e
    applies sign.Mul b some e = multiplies b e
    applies sign.Div b some e = divides b some e

    -- the call of the sign's primitive, from v_ok either way
    pub works_out : (op : Op) (b : Bool) → (b ≡ true → divides_by_zero op r ≡ false) →
        Runs g t 2 (guarded (primitive_of op) t d x y ∷ []) (seen u row b)
        (seen u (put_if (b && fits (applied op l r)) row d (applied op l r)) (b && fits (applied op l r)))
    works_out op true some = applies op (fits (applied op l r)) (some refl) refl
    works_out op false some = runs_longer g t 1 2 (guarded (primitive_of op) t d x y ∷ []) _ _ (omega arith) (passes_by (primitive_of op) row d x y)
