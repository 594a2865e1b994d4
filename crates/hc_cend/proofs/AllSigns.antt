-- The loop over the comparisons leaves in the register of each what stands for it.
use Rattle.std.specs.Prelude.{◌≡◌, ◌⊎◌, ◌<◌, ℕ, suc, ◌+◌, ◌==◌, nat_lt, Bool, true, false, List, length, slice_get, slice_set, ℤ, Some}
use Rattle.std.proofs.Common.{refl, sym, ap, ap₂, ◌∙◌, subst, arith, inl, inr}
use Rattle.std.proofs.lemmas.Bool.{ltb-true, ltb-false}
use Rattle.std.proofs.lemmas.List.{length-set, get_or-set_other}
use Rattle.std.proofs.lemmas.Option.{slice_get-get_or}
use Rattle.std.proofs.lemmas.Option.{same_Some}
use Rattle.hc_rational.specs.Words.{Rational, zero_ℚ, ◌≤ℚ◌}
use Rattle.hc_term.specs.Motion.{Line}
use Rattle.hc_term.specs.EndMoment.{crossing}
use Rattle.hc_cast.specs.declared.program.CProgram.{CProgram}
use Rattle.hc_cast.specs.declared.expr.CExpr.TheVariants as e
use Rattle.hc_cast.specs.declared.expr.COp.TheVariants as op
use Rattle.hc_cmach.specs.Expression.{int_of}
use Rattle.hc_clogic.specs.Runs.{View, Runs, Is}
use Rattle.hc_cmach.proofs.Worths.{forms}
use Rattle.hc_clogic.specs.Loops.{rounds}
use Rattle.hc_clogic.proofs.Values.{is_worth}
use Rattle.hc_cend.specs.Candidates.{stand_in, crossing_of, stand_by}
use Rattle.hc_cend.specs.Searching as seen
use Rattle.hc_cend.specs.Searching.{Mine, Around, register, v_i}
use Rattle.hc_cend.specs.Places.{Places, AreApart, IsGiven}
use Rattle.hc_cend.specs.Written.{number, one_sign, all_signs}
use Rattle.hc_cend.proofs.Registers.{Same, same_register, same_set, same_less, set_there}
use Rattle.hc_cend.proofs.Given.{are_there, is_small, given_still, same_stand}
use Rattle.hc_cend.proofs.Counting.{counts_up}
use Rattle.hc_cend.proofs.OneSign as one

-- what the loop writes
pub record Spot : Type 0 where
  pub row : List Rational
  pub i : ℕ
  pub x : ℤ
  pub y : ℤ

-- The first i comparisons have what stands for them, and nothing in front of their registers has changed.
pub record IsFilled (p : Places) (ls : List Line) (after : Bool) (was row : List Rational) (i : ℕ) : Type 0 where
  pub long : length row ≡ length was
  pub same : Same p.sign row was
  pub stands : (j : ℕ) (l : Line) → j < i → slice_get ls j ≡ Some l → register row (p.sign + j) ≡ stand_in after (register was p.moment) l

module _ (g : CProgram) (t : ℕ) (low : nat_lt t 65 ≡ true) (not_last : (t == 64) ≡ false) (self : (t == t) ≡ true) (p : Places) (around : Around)
    (f deep : ℕ) (ls : List Line) (apart : AreApart f p (length ls) deep) (m : Mine) (given : IsGiven p ls m.row) (not_past : zero_ℚ ≤ℚ register m.row p.moment) where
  abbrev here : Spot → Mine
  here s = record m { row = s.row; i = s.i; x = s.x; y = s.y }

  abbrev view : Spot → View
  view s = seen.view around (here s)

  abbrev Filled : ℕ → Spot → Type 0
  Filled i s = (s.i ≡ i) × IsFilled p ls m.after m.row s.row i

  tested : (i : ℕ) (s : Spot) → Filled i s → Is g t (view s) (e.Binary op.Less (e.Local v_i) (number (length ls))) (int_of (nat_lt i (length ls)))
  tested i s h =
      subst (λ (k : ℕ). Is g t (view s) (e.Binary op.Less (e.Local v_i) (number (length ls))) (int_of (nat_lt k (length ls)))) h.0
      (is_worth g t (view s) (e.Binary op.Less (e.Local v_i) (number (length ls))) (int_of (nat_lt s.i (length ls))) (simp forms))

  -- the line of comparison i, and that its registers hold it
  line_of : (i : ℕ) → i < length ls → (l : Line) × (slice_get ls i ≡ Some l)
  line_of i less =
      let d : Line = record { at = zero_ℚ; slope = zero_ℚ; fits_all = true } in
      (_, slice_get-get_or ls i d less)

  still : (i : ℕ) (row : List Rational) → IsFilled p ls m.after m.row row i → IsGiven p ls row
  still i row h =
      given_still f p deep ls row m.row apart given h.long
      (same_less p.moment p.sign row m.row (omega (arith, apart.best, apart.sign)) h.same)

  same_moment : (i : ℕ) (row : List Rational) → IsFilled p ls m.after m.row row i → register row p.moment ≡ register m.row p.moment
  same_moment i row h = same_register p.sign row m.row h.same p.moment (omega (arith, apart.best, apart.sign))

  -- comparison i, which has line l
  module _ (s : Spot) (less : s.i < length ls) (h : IsFilled p ls m.after m.row s.row s.i) (l : Line) (has : slice_get ls s.i ≡ Some l) where
    abbrev now : IsGiven p ls s.row
    now = still s.i s.row h

    abbrev right : Rational
    right = one.right_one g t low not_last self p around (here s)

    knows : one.KnowsCrossing g t low not_last self p around s.row s.i
    knows = λ x c. now.crossings s.i l x has (ap₂ crossing (sym (now.values s.i l has)) (sym (now.slopes s.i l has)) ∙ c)

    ready : one.IsReady g t low not_last self p around (here s)
    ready = record {
      there = are_there f p (length ls) deep s.i apart less;
      count = is_small (s.i + 1) (omega (arith, less, apart.truth, apart.end, apart.at, apart.slope, apart.crossing, apart.moment, apart.best, apart.sign));
      zero = now.zero;
      not_past = subst (λ (q : Rational). zero_ℚ ≤ℚ q) (sym (same_moment s.i s.row h)) not_past;
      knows = knows;
    }

    right_is : right ≡ stand_in m.after (register m.row p.moment) l
    right_is =
        let read : Line = record { at = register s.row (p.at + s.i); slope = register s.row (p.slope + s.i); fits_all = true } in
        ap (λ (q : Rational). stand_in m.after q read) (same_moment s.i s.row h)
        ∙ same_stand m.after (register m.row p.moment) read l (crossing_of read) (now.values s.i l has) (now.slopes s.i l has)
        ∙ ap (stand_by m.after (register m.row p.moment) l) (ap₂ crossing (now.values s.i l has) (now.slopes s.i l has))

    abbrev written : List Rational
    written = slice_set s.row (p.sign + s.i) right

    stands_by : (j : ℕ) (k : Line) → j < suc s.i → slice_get ls j ≡ Some k → (j ≡ s.i) ⊎ (j < s.i) →
        register written (p.sign + j) ≡ stand_in m.after (register m.row p.moment) k
    stands_by j k low' e (inl same) =
        let at : p.sign + j ≡ p.sign + s.i = ap (λ (n : ℕ). p.sign + n) same in
        let there : p.sign + s.i < length s.row = omega (arith, less, now.wide, apart.truth, apart.end) in
        let which : l ≡ k = same_Some l k (sym has ∙ ap (slice_get ls) (sym same) ∙ e) in
        ap (register written) at ∙ set_there s.row (p.sign + s.i) right there ∙ right_is ∙ ap (stand_in m.after (register m.row p.moment)) which
    stands_by j k low' e (inr before) =
        get_or-set_other s.row (p.sign + s.i) (p.sign + j) right zero_ℚ (λ same. omega (arith, same, before)) ∙ h.stands j k before e

    filled : IsFilled p ls m.after m.row written (suc s.i)
    filled = record {
      long = length-set s.row (p.sign + s.i) right ∙ h.long;
      same = same_set p.sign s.row m.row (p.sign + s.i) right h.same (omega arith);
      stands = λ j k before e. stands_by j k before e (at_most j before);
    }
      where
        at_most : (j : ℕ) → j < suc s.i → (j ≡ s.i) ⊎ (j < s.i)
        at_most j before = by (nat_lt j s.i) refl
          where
            by : (b : Bool) → nat_lt j s.i ≡ b → (j ≡ s.i) ⊎ (j < s.i)
            by true q = inr (ltb-true j s.i q)
            by false q = inl (omega (arith, before, ltb-false j s.i q))

    turn : (w : Spot) × Filled (suc s.i) w × Runs g t 8 (one_sign t p) (view s) (view w)
    turn =
        let r = one.one_sign_runs g t low not_last self p around (here s) ready in
        let count : s.i + 1 ≡ suc s.i = omega arith in
        (record { row = written; i = s.i + 1; x = r.0; y = r.1 }, (count, filled), r.2)

  turns : (i : ℕ) (s : Spot) → i < length ls → Filled i s → (w : Spot) × Filled (suc i) w × Runs g t 8 (one_sign t p) (view s) (view w)
  turns i s less h =
      let here_less : s.i < length ls = omega (arith, less, h.0) in
      let k = line_of s.i here_less in
      let filled : IsFilled p ls m.after m.row s.row s.i = subst (λ (j : ℕ). IsFilled p ls m.after m.row s.row j) (sym h.0) h.1 in
      subst (λ (j : ℕ). (w : Spot) × Filled (suc j) w × Runs g t 8 (one_sign t p) (view s) (view w)) h.0 (turn s here_less filled k.0 k.1)

  abbrev begins : Spot
  begins = record { row = m.row; i = m.i; x = m.x; y = m.y }

  -- Begun at the first comparison, it is done with all of them.
  pub all_signs_run : m.i ≡ 0 →
      (w : Spot) × IsFilled p ls m.after m.row w.row (length ls) × Runs g t (rounds 8 (length ls)) (all_signs t p (length ls)) (seen.view around m) (view w)
  all_signs_run first =
      let none : IsFilled p ls m.after m.row m.row 0 = record { long = refl; same = refl; stands = λ j l less e. absurd (omega (arith, less)) } in
      let r =
      counts_up g t Spot view Filled (length ls) 8 (e.Binary op.Less (e.Local v_i) (number (length ls))) (one_sign t p) tested turns (length ls) 0 begins
      (omega arith) (first, none) in
      (r.0, r.1.1, r.2)
