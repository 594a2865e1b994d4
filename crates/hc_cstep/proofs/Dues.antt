-- Whether the moment at which an evolution ends fits the clock.
use Rattle.std.specs.Prelude.{◌≡◌, ◌<◌, ℕ, Bool, true, false, List, take, slice_set, slice_index_or, Option, Some, None}
use Rattle.std.specs.declared.cmp.Ordering.{Ordering}
use Rattle.std.specs.declared.cmp.Ordering.TheVariants as side
use Rattle.std.proofs.Common.{refl, sym, ◌∙◌, subst, arith}
use Rattle.std.proofs.lemmas.List.{get_or-set_same, get_or-set_other, length-set, take-set-le}
use Rattle.hc_rational.specs.Rational.{zero_ℚ}
use Rattle.hc_rational.specs.Words.{Rational, ◌+ℚ◌, rank, fits, is_positive}
use Rattle.hc_rational.proofs.RankLaws.{rank_is, is_positive_is}
use Rattle.hc_term.specs.Silent.{due_fits}
use Rattle.hc_cast.specs.declared.program.CProgram.{CProgram}
use Rattle.hc_cmach.proofs.Worths.{forms}
use Rattle.hc_clogic.proofs.Blocks.{block_runs}
use Rattle.hc_cstep.proofs.OwnRow.{row_there, not_common, own_row}
use Rattle.hc_cstep.specs.Locals.{Mine, Base, view}
use Rattle.hc_cstep.specs.Stands.{register, first_scratch}
use Rattle.hc_cstep.specs.Parts.{MomentIs}
use Rattle.hc_cstep.specs.Evolving.{due_block}
use Rattle.hc_cstep.proofs.Prepared.{Ready, Prepares, after}
use Rattle.hc_cstep.proofs.Waiting.{zero_written, zero_ratio, due_by}

-- ---- when it runs out

due_one : (clock d : Rational) (o : Ordering) → rank zero_ℚ d ≡ o → (x : Bool) → is_positive d ≡ x → due_fits clock (Some d) ≡ due_by o clock d
due_one clock d side.Less h x e = let positive : is_positive d ≡ true = (is_positive_is d).1 ((rank_is zero_ℚ d).less.0 h) in simp positive
due_one clock d side.Equal h true e =
    let less : rank zero_ℚ d ≡ side.Less = (rank_is zero_ℚ d).less.1 ((is_positive_is d).0 e) in
    absurd (cc (sym less ∙ h))
due_one clock d side.Equal h false e = simp e
due_one clock d side.Greater h true e =
    let less : rank zero_ℚ d ≡ side.Less = (rank_is zero_ℚ d).less.1 ((is_positive_is d).0 e) in
    absurd (cc (sym less ∙ h))
due_one clock d side.Greater h false e = simp e

module _ (g : CProgram) (p : ℕ) (low : p < 64) (b : Base) (vars room : ℕ) (clock : Rational) (s : List Rational) (m : Mine) (ready : Ready vars room clock s m) where
  -- there is no end
  none : m.truth ≡ false → Prepares g p 7 b first_scratch (due_block p) m true (λ (row : List Rational) (truth : Bool). MomentIs truth row None)
  none off =
      let on = ready.on in record {
        row = m.row;
        truth = false;
        others = m.others;
        runs = block_runs g p 7 (due_block p) (view b m) (view b (after m m.row true false m.others)) (simp (forms, on, off));
        wide = refl;
        kept = refl;
        low = refl;
        such = λ h. refl;
      }

  module _ (d : Rational) (there : m.truth ≡ true) (is : register m.row first_scratch ≡ d) where
    abbrev zeroed : List Rational
    zeroed = slice_set m.row 321 zero_ℚ

    at_zero : slice_index_or zeroed 321 zero_ℚ ≡ zero_ℚ
    at_zero = let wide = ready.wide in get_or-set_same m.row 321 zero_ℚ zero_ℚ (omega (arith, wide))

    at_value : slice_index_or zeroed 320 zero_ℚ ≡ d
    at_value = get_or-set_other m.row 321 320 zero_ℚ zero_ℚ (λ e. omega (arith, e)) ∙ is

    at_clock : slice_index_or zeroed 64 zero_ℚ ≡ clock
    at_clock = get_or-set_other m.row 321 64 zero_ℚ zero_ℚ (λ e. omega (arith, e)) ∙ ready.now

    zeroed_low : take first_scratch zeroed ≡ take first_scratch m.row
    zeroed_low = take-set-le first_scratch m.row 321 zero_ℚ (omega arith)

    abbrev Due : Bool → Type 0
    Due x = Prepares g p 7 b first_scratch (due_block p) m x (λ (row : List Rational) (truth : Bool). MomentIs truth row (Some d))

    summed : rank zero_ℚ d ≡ side.Less → (x : Bool) → fits (clock +ℚ d) ≡ x → Due x
    summed h true f =
        let on = ready.on in
        let row = slice_set zeroed 322 (clock +ℚ d) in record {
          row = row;
          truth = true;
          others = m.others;
          runs =
              block_runs g p 7 (due_block p) (view b m) (view b (after m row true true m.others))
              (simp (forms, on, there, f, h, row_there p low, not_common p low, own_row p, at_zero, at_value, at_clock, zero_written, zero_ratio));
          wide = length-set zeroed 322 (clock +ℚ d) ∙ length-set m.row 321 zero_ℚ;
          kept = refl;
          low = take-set-le first_scratch zeroed 322 (clock +ℚ d) (omega arith) ∙ zeroed_low;
          such = λ k. (refl, get_or-set_other zeroed 322 320 (clock +ℚ d) zero_ℚ (λ e. omega (arith, e)) ∙ at_value);
        }
    summed h false f =
        let on = ready.on in record {
          row = zeroed;
          truth = true;
          others = m.others;
          runs =
              block_runs g p 7 (due_block p) (view b m) (view b (after m zeroed false true m.others))
              (simp (forms, on, there, f, h, row_there p low, not_common p low, own_row p, at_zero, at_value, at_clock, zero_written, zero_ratio));
          wide = length-set m.row 321 zero_ℚ;
          kept = refl;
          low = zeroed_low;
          such = λ k. (refl, at_value);
        }

    at_once : (o : Ordering) → rank zero_ℚ d ≡ o → Due (due_by o clock d)
    at_once side.Less h = summed h (fits (clock +ℚ d)) refl
    at_once side.Equal h =
        let on = ready.on in record {
          row = zeroed;
          truth = true;
          others = m.others;
          runs =
              block_runs g p 7 (due_block p) (view b m) (view b (after m zeroed true true m.others))
              (simp (forms, on, there, h, row_there p low, not_common p low, own_row p, at_zero, at_value, at_clock, zero_written, zero_ratio));
          wide = length-set m.row 321 zero_ℚ;
          kept = refl;
          low = zeroed_low;
          such = λ k. (refl, at_value);
        }
    at_once side.Greater h =
        let on = ready.on in record {
          row = zeroed;
          truth = true;
          others = m.others;
          runs =
              block_runs g p 7 (due_block p) (view b m) (view b (after m zeroed true true m.others))
              (simp (forms, on, there, h, row_there p low, not_common p low, own_row p, at_zero, at_value, at_clock, zero_written, zero_ratio));
          wide = length-set m.row 321 zero_ℚ;
          kept = refl;
          low = zeroed_low;
          such = λ k. (refl, at_value);
        }

    some : Due (due_fits clock (Some d))
    some = subst (λ (x : Bool). Due x) (sym (due_one clock d (rank zero_ℚ d) refl (is_positive d) refl)) (at_once (rank zero_ℚ d) refl)

  pub due_works : (moment : Option Rational) → MomentIs m.truth m.row moment →
      Prepares g p 7 b first_scratch (due_block p) m (due_fits clock moment) (λ (row : List Rational) (truth : Bool). MomentIs truth row moment)
  due_works None h = none h
  due_works (Some d) h = some d h.0 h.1
