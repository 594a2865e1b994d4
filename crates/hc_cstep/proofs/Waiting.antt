-- The bound of a wait, by how 0 lies to its value.
use Rattle.std.specs.Prelude.{◌≡◌, ◌<◌, ℕ, Bool, true, false, ◌&&◌, List, length, take, slice_set, slice_index_or, pos, unsigned_abs, Some}
use Rattle.std.specs.declared.cmp.Ordering.{Ordering}
use Rattle.std.specs.declared.cmp.Ordering.TheVariants as side
use Rattle.std.proofs.Common.{refl, sym, ap, ap₂, ◌∙◌, subst, arith}
use Rattle.std.proofs.lemmas.Bool.{lt-ltb, eq-eqb}
use Rattle.std.proofs.lemmas.List.{get_or-set_same, get_or-set_other, length-set, take-set-le}
use Rattle.hc_rational.specs.Rational.{zero_ℚ}
use Rattle.hc_rational.specs.Code.{den-pos, gcd-one}
use Rattle.hc_rational.specs.Words.{Rational, ratio, gcd, ◌+ℚ◌, rank, greater, fits, is_positive}
use Rattle.hc_rational.specs.Order.{by_rank}
use Rattle.hc_rational.proofs.FieldLaws.{ratio-own}
use Rattle.hc_rational.proofs.RankLaws.{rank_is, is_positive_is}
use Rattle.hc_term.specs.Silent.{due_fits}
use Rattle.hc_cast.specs.declared.program.CProgram.{CProgram}
use Rattle.hc_cmach.specs.State.{width}
use Rattle.hc_cmach.specs.Primitive.{is_literal}
use Rattle.hc_clogic.specs.Runs.{Runs}
use Rattle.hc_cmach.proofs.Worths.{forms}
use Rattle.hc_clogic.proofs.Blocks.{block_runs}
use Rattle.hc_cstep.proofs.OwnRow.{row_there, not_common, own_row}
use Rattle.hc_cstep.specs.Locals.{Mine, Base, view}
use Rattle.hc_cstep.specs.Stands.{register, first_scratch, the_clock}
use Rattle.hc_cstep.specs.Waiting.{bounds}

lowest : (q : Rational) → is_literal q.num (pos q.den) ≡ true
lowest q = ap₂ (λ (x y : Bool). x && y) (lt-ltb 0 q.den (den-pos q)) (eq-eqb (gcd (unsigned_abs q.num) q.den) 1 (gcd-one q))

pub zero_written : is_literal (pos 0) (pos 1) ≡ true
unfolding zero_ℚ
zero_written = lowest zero_ℚ

pub zero_ratio : ratio (pos 0) (pos 1) ≡ zero_ℚ
unfolding zero_ℚ
zero_ratio = ratio-own zero_ℚ

-- ---- when it runs out

abbrev pub due_by : Ordering → Rational → Rational → Bool
due_by side.Less clock v = fits (clock +ℚ v)
due_by side.Equal clock v = true
due_by side.Greater clock v = true

zero_not_positive : is_positive zero_ℚ ≡ false
unfolding zero_ℚ
zero_not_positive = refl

due_at : (clock v : Rational) (o : Ordering) → rank zero_ℚ v ≡ o → due_fits clock (Some (by_rank o v zero_ℚ)) ≡ due_by o clock v
due_at clock v side.Less h =
    let positive : is_positive v ≡ true = (is_positive_is v).1 ((rank_is zero_ℚ v).less.0 h) in simp positive
due_at clock v side.Equal h =
    let same : zero_ℚ ≡ v = (rank_is zero_ℚ v).equal.0 h in
    let none : is_positive v ≡ false = ap is_positive (sym same) ∙ zero_not_positive in simp none
due_at clock v side.Greater h = simp zero_not_positive

module _ (g : CProgram) (p : ℕ) (low : p < 64) (b : Base) (clock : Rational) (m : Mine) (wide : length m.row ≡ width) (now : register m.row the_clock ≡ clock) where
  abbrev value : Rational
  value = register m.row first_scratch

  abbrev zeroed : List Rational
  zeroed = slice_set m.row 321 zero_ℚ

  at_zero : slice_index_or zeroed 321 zero_ℚ ≡ zero_ℚ
  at_zero = get_or-set_same m.row 321 zero_ℚ zero_ℚ (omega (arith, wide))

  at_value : slice_index_or zeroed 320 zero_ℚ ≡ value
  at_value = get_or-set_other m.row 321 320 zero_ℚ zero_ℚ (λ e. omega (arith, e))

  at_clock : slice_index_or zeroed 64 zero_ℚ ≡ clock
  at_clock = get_or-set_other m.row 321 64 zero_ℚ zero_ℚ (λ e. omega (arith, e)) ∙ now

  zeroed_wide : length zeroed ≡ width
  zeroed_wide = length-set m.row 321 zero_ℚ ∙ wide

  zeroed_low : take first_scratch zeroed ≡ take first_scratch m.row
  zeroed_low = take-set-le first_scratch m.row 321 zero_ℚ (omega arith)

  -- the bound stands in register 320
  pub record Bounds (due : Bool) (bound : Rational) : Type 0 where
    pub row : List Rational
    pub runs : Runs g p 7 (bounds p) (view b m) (view b (record m { row = row; ok = m.ok && due; truth = false }))
    pub same_width : length row ≡ length m.row
    pub kept : take first_scratch row ≡ take first_scratch m.row
    pub bound_is : register row first_scratch ≡ bound

  -- row is what stands behind them
  from_runs : (due ok : Bool) (row : List Rational) → ok ≡ (m.ok && due) → Runs g p 7 (bounds p) (view b m) (view b (record m { row = row; ok = ok; truth = false })) →
      Runs g p 7 (bounds p) (view b m) (view b (record m { row = row; ok = m.ok && due; truth = false }))
  from_runs due ok row e r = subst (λ (x : Bool). Runs g p 7 (bounds p) (view b m) (view b (record m { row = row; ok = x; truth = false }))) e r

  less : rank zero_ℚ value ≡ side.Less → (ok fit : Bool) → m.ok ≡ ok → fits (clock +ℚ value) ≡ fit → Bounds fit value
  less h true true on f =
      let row = slice_set zeroed 322 (clock +ℚ value) in record {
        row = row;
        runs =
            from_runs true true row (sym (ap (λ (x : Bool). x && true) on))
            (block_runs g p 7 (bounds p) (view b m) (view b (record m { row = row; ok = true; truth = false }))
            (simp (forms, on, f, h, row_there p low, not_common p low, own_row p, at_zero, at_value, at_clock, zero_written, zero_ratio)));
        same_width = length-set zeroed 322 (clock +ℚ value) ∙ length-set m.row 321 zero_ℚ;
        kept = take-set-le first_scratch zeroed 322 (clock +ℚ value) (omega arith) ∙ zeroed_low;
        bound_is = get_or-set_other zeroed 322 320 (clock +ℚ value) zero_ℚ (λ e. omega (arith, e)) ∙ at_value;
      }
  less h true false on f = record {
    row = zeroed;
    runs =
        from_runs false false zeroed (sym (ap (λ (x : Bool). x && false) on))
        (block_runs g p 7 (bounds p) (view b m) (view b (record m { row = zeroed; ok = false; truth = false }))
        (simp (forms, on, f, h, row_there p low, not_common p low, own_row p, at_zero, at_value, at_clock, zero_written, zero_ratio)));
    same_width = length-set m.row 321 zero_ℚ;
    kept = zeroed_low;
    bound_is = at_value;
  }
  less h false fit off f = record {
    row = zeroed;
    runs =
        from_runs fit false zeroed (sym (ap (λ (x : Bool). x && fit) off))
        (block_runs g p 7 (bounds p) (view b m) (view b (record m { row = zeroed; ok = false; truth = false }))
        (simp (forms, off, h, row_there p low, not_common p low, own_row p, at_zero, at_value, at_clock, zero_written, zero_ratio)));
    same_width = length-set m.row 321 zero_ℚ;
    kept = zeroed_low;
    bound_is = at_value;
  }

  and_true : (ok : Bool) → ok ≡ (ok && true)
  and_true true = refl
  and_true false = refl

  equal : rank zero_ℚ value ≡ side.Equal → (ok : Bool) → m.ok ≡ ok → Bounds true value
  equal h ok is = record {
    row = zeroed;
    runs =
        from_runs true ok zeroed (and_true ok ∙ ap (λ (x : Bool). x && true) (sym is))
        (
        subst (λ (x : Bool). Runs g p 7 (bounds p) (view b m) (view b (record m { row = zeroed; ok = x; truth = false }))) is (by ok is)
        );
    same_width = length-set m.row 321 zero_ℚ;
    kept = zeroed_low;
    bound_is = at_value;
  }
    where
      by : (x : Bool) → m.ok ≡ x → Runs g p 7 (bounds p) (view b m) (view b (record m { row = zeroed; truth = false }))
      by true e =
          block_runs g p 7 (bounds p) (view b m) (view b (record m { row = zeroed; truth = false }))
          (simp (forms, e, h, row_there p low, not_common p low, own_row p, at_zero, at_value, at_clock, zero_written, zero_ratio))
      by false e =
          block_runs g p 7 (bounds p) (view b m) (view b (record m { row = zeroed; truth = false }))
          (simp (forms, e, h, row_there p low, not_common p low, own_row p, at_zero, at_value, at_clock, zero_written, zero_ratio))

  above : rank zero_ℚ value ≡ side.Greater → (ok : Bool) → m.ok ≡ ok → Bounds true zero_ℚ
  above h ok is = record {
    row = slice_set zeroed 320 zero_ℚ;
    runs =
        from_runs true ok (slice_set zeroed 320 zero_ℚ) (and_true ok ∙ ap (λ (x : Bool). x && true) (sym is))
        (
        subst (λ (x : Bool). Runs g p 7 (bounds p) (view b m) (view b (record m { row = slice_set zeroed 320 zero_ℚ; ok = x; truth = false }))) is (by ok is)
        );
    same_width = length-set zeroed 320 zero_ℚ ∙ length-set m.row 321 zero_ℚ;
    kept = take-set-le first_scratch zeroed 320 zero_ℚ (omega arith) ∙ zeroed_low;
    bound_is = get_or-set_same zeroed 320 zero_ℚ zero_ℚ (omega (arith, zeroed_wide));
  }
    where
      by : (x : Bool) → m.ok ≡ x → Runs g p 7 (bounds p) (view b m) (view b (record m { row = slice_set zeroed 320 zero_ℚ; truth = false }))
      by true e =
          block_runs g p 7 (bounds p) (view b m) (view b (record m { row = slice_set zeroed 320 zero_ℚ; truth = false }))
          (simp (forms, e, h, row_there p low, not_common p low, own_row p, at_zero, at_value, at_clock, zero_written, zero_ratio))
      by false e =
          block_runs g p 7 (bounds p) (view b m) (view b (record m { row = slice_set zeroed 320 zero_ℚ; truth = false }))
          (simp (forms, e, h, row_there p low, not_common p low, own_row p, at_zero, at_value, at_clock, zero_written, zero_ratio))

  by_order : (o : Ordering) → rank zero_ℚ value ≡ o → Bounds (due_by o clock value) (by_rank o value zero_ℚ)
  by_order side.Less h = less h m.ok (fits (clock +ℚ value)) refl refl
  by_order side.Equal h = equal h m.ok refl
  by_order side.Greater h = above h m.ok refl

  pub bounds_work : Bounds (due_fits clock (Some (greater zero_ℚ value))) (greater zero_ℚ value)
  bounds_work =
      subst (λ (x : Bool). Bounds x (greater zero_ℚ value)) (sym (due_at clock value (rank zero_ℚ value) refl)) (by_order (rank zero_ℚ value) refl)
