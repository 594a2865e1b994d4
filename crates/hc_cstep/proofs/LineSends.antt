-- A branch of an evolution that sends: value and slope of what it sends.
use Rattle.std.specs.Prelude.{◌≡◌, ◌<◌, ℕ, ◌+◌, nat_lt, Bool, true, ◌&&◌, List, [], ◌∷◌, length, take, slice_set, slice_index_or, IsTrue}
use Rattle.std.proofs.Common.{refl, ◌∙◌, subst, arith}
use Rattle.std.proofs.lemmas.Bool.{lt-ltb, and_parts}
use Rattle.std.proofs.lemmas.List.{get_or-set_other}
use Rattle.hc_rational.specs.Words.{Rational, zero_ℚ}
use Rattle.hc_term.specs.declared.expr.Expr.{Expr}
use Rattle.hc_term.specs.declared.stmt.Rate.{Rate}
use Rattle.hc_term.specs.Motion.{Rates, rates_in, line, form}
use Rattle.hc_term.specs.Profile.{is_expr, pattern_of}
use Rattle.hc_cast.specs.declared.stmt.CStmt.{CStmt}
use Rattle.hc_cast.specs.declared.program.CProgram.{CProgram}
use Rattle.hc_clogic.specs.Runs.{Runs}
use Rattle.hc_cmach.proofs.Worths.{forms}
use Rattle.hc_clogic.proofs.Blocks.{block_runs}
use Rattle.hc_cstep.proofs.OwnRow.{row_there, not_common, own_row}
use Rattle.hc_cstep.specs.Locals.{Mine, Base, view}
use Rattle.hc_cstep.specs.Stands.{register, value_of, slope_of, first_scratch}
use Rattle.hc_cstep.specs.Words.{move}
use Rattle.hc_cstep.specs.Parts.{Parts, AreRates}
use Rattle.hc_cstep.specs.Sending.{sends_line}
use Rattle.hc_cstep.specs.Premises.{PartsWork}
use Rattle.hc_cstep.proofs.Prepared.{same_below, Ready, Prepares, after, prepares_scratch, prepares_so, prepares_more}
use Rattle.hc_cstep.proofs.Sends.{Sent, with_sent, sent_there, sent_low, sent_wide}
use Rattle.hc_cstep.proofs.Branches.{with_line}

-- an expression of the profile, affine by a pattern, for whose line there is code
abbrev pub good_line : ℕ → Rates → (Expr → Bool) → Expr → Bool
good_line n pattern f e = is_expr n e && with_line pattern f e

module _ (g : CProgram) (p : ℕ) (low : p < 64) (b : Base) (vars : ℕ) (room : ℕ) (n late : ℕ) (c : Parts) (works : PartsWork g p n late b vars room c) where
  abbrev puts : ℕ → List CStmt
  puts k = move p (value_of k) first_scratch ∷ move p (slope_of k) (first_scratch + 1) ∷ []

  module _ (s : List Rational) (rates : List Rate) (m : Mine) (k : ℕ) (e : Expr) (less : k < 64) where
    abbrev r : Rates
    r = rates_in rates s

    abbrev There : List Rational → Bool → Type 0
    There row truth = Sent k m.row (line s r e).at (line s r e).slope row

    -- scratch alone has changed, and the line stands there
    abbrev Lined : List Rational → Type 0
    Lined row =
        (take first_scratch row ≡ take first_scratch m.row) × (register row first_scratch ≡ (line s r e).at) × (register row (first_scratch + 1) ≡ (line s r e).slope)

    put_runs : (m1 : Mine) → length m1.row ≡ length m.row → length m.row ≡ 20480 → (x : Bool) → m1.ok ≡ x → (x ≡ true → Lined m1.row) → Prepares g p 2 b 192 (puts k) m1 x There
    put_runs m1 same_width wide x on is =
        let value = register m1.row first_scratch in
        let slope = register m1.row 321 in
        let row = with_sent k m1.row value slope in
        let first : nat_lt (192 + k) 20480 ≡ true = lt-ltb (192 + k) 20480 (omega (arith, less)) in
        let second : nat_lt (256 + k) 20480 ≡ true = lt-ltb (256 + k) 20480 (omega (arith, less)) in
        let beyond : slice_index_or (slice_set m1.row (192 + k) value) 321 zero_ℚ ≡ slice_index_or m1.row 321 zero_ℚ =
        get_or-set_other m1.row (192 + k) 321 value zero_ℚ (λ f. omega (arith, f, less)) in
        record {
          row = row;
          truth = m1.truth;
          others = m1.others;
          runs =
              subst (λ (y : Bool). Runs g p 2 (puts k) (view b m1) (view b (record m1 { row = row; ok = y }))) on
              (block_runs g p 2 (puts k) (view b m1) (view b (record m1 { row = row })) (simp (forms, row_there p low, not_common p low, own_row p, first, second, beyond)));
          wide = sent_wide k less m.row m1.row value slope (same_width ∙ wide);
          kept = refl;
          low = sent_low k less m.row m1.row value slope (same_width ∙ wide);
          such =
              λ h.
              let now = is h in
              subst (λ (w : Rational). Sent k m.row (line s r e).at w row) now.2
              (
              subst (λ (v : Rational). Sent k m.row v slope row) now.1
              (sent_there k less m.row m1.row value slope (same_width ∙ wide) (λ i below. same_below 320 m1.row m.row i below now.0))
              );
        }

    pub line_sent : (clock : Rational) → Ready vars room clock s m → AreRates (pattern_of vars rates) r m.row → IsTrue (good_line vars (pattern_of vars rates) c.is_line e) →
        Prepares g p (n + 2) b 192 (sends_line c p rates k e) m (line s r e).fits_all There
    line_sent clock ready rated good =
        let parts = and_parts (is_expr vars e) (with_line (pattern_of vars rates) c.is_line e) good in
        let more = and_parts (form (pattern_of vars rates) e).affine (c.is_line e) parts.1 in
        let v = works.line m s rates e ready.on ready.wide ready.spare ready.same_store rated parts.0 more.0 more.1 in
        let a = prepares_scratch g p b n (c.line rates e) m (line s r e).fits_all
        (λ (row : List Rational) (truth : Bool). (register row first_scratch ≡ (line s r e).at) × (register row (first_scratch + 1) ≡ (line s r e).slope)) v.does
        (λ h. (v.at h, v.slope h)) in
        let a1 = prepares_so g p b n first_scratch 192 (c.line rates e) m (line s r e).fits_all
        (λ (row : List Rational) (truth : Bool). (register row first_scratch ≡ (line s r e).at) × (register row (first_scratch + 1) ≡ (line s r e).slope))
        (λ (row : List Rational) (truth : Bool). Lined row) (omega arith) a (λ same h. (same, h.0, h.1)) in
        prepares_more g p b n 2 192 (c.line rates e) (puts k) m (line s r e).fits_all (λ (row : List Rational) (truth : Bool). Lined row) There a1
        (put_runs (after m a1.row (line s r e).fits_all a1.truth a1.others) a1.wide ready.wide (line s r e).fits_all refl a1.such)
