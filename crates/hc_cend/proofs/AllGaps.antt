-- The code of all lines, one comparison behind the other.
use Rattle.std.specs.Prelude.{◌≡◌, ◌<◌, ◌≤◌, ℕ, zero, suc, ◌+◌, ◌*◌, ◌==◌, nat_lt, Bool, true, false, ◌&&◌, List, [], ◌∷◌, length, slice_get, ℤ, Some, None, IsTrue}
use Rattle.std.specs.List.{list_all}
use Rattle.std.proofs.Common.{refl, ap, ◌∙◌, subst, arith}
use Rattle.std.proofs.lemmas.Bool.{and_parts}
use Rattle.std.proofs.lemmas.Option.{same_Some}
use Rattle.hc_rational.specs.Words.{Rational}
use Rattle.hc_term.specs.declared.expr.Expr.{Expr}
use Rattle.hc_term.specs.Value.{Store}
use Rattle.hc_term.specs.Motion.{Rates}
use Rattle.hc_cast.specs.declared.stmt.CStmt.{CStmt}
use Rattle.hc_cast.specs.declared.program.CProgram.{CProgram}
use Rattle.hc_clogic.specs.Runs.{Runs}
use Rattle.hc_clogic.proofs.Runs.{runs_on, runs_longer, runs_none}
use Rattle.hc_cstep.specs.Locals.{Mine, Base, view}
use Rattle.hc_cend.specs.Searching.{register}
use Rattle.hc_cend.specs.Places.{Places, AreApart}
use Rattle.hc_cend.specs.Lining.{Compared, gap_of_sides, line_fits, gap_code, gaps_code, is_side, are_sides, SideWorks}
use Rattle.hc_cend.proofs.Registers.{Same}
use Rattle.hc_cend.proofs.OneGap.{IsReady, ready_still, and_first, and_second}
use Rattle.hc_cend.proofs.OneGap as one

and_assoc : (a b c : Bool) → ((a && b) && c) ≡ (a && (b && c))
and_assoc true b c = refl
and_assoc false b c = refl

and_one : (b : Bool) → b ≡ (b && true)
and_one true = refl
and_one false = refl

module _ (g : CProgram) (t : ℕ) (low : nat_lt t 65 ≡ true) (not_last : (t == 64) ≡ false) (self : (t == t) ≡ true) (b : Base) (p : Places)
    (n deep : ℕ) (apart : AreApart 320 p n deep) (vars room : ℕ) (few : vars ≤ 64) (pattern : Rates) (long : length pattern ≡ vars)
    (is_line : Expr → Bool) (side : ℕ → Expr → List CStmt) (s : Store) (r : Rates) (steps : ℕ)
    (works : SideWorks g t steps b vars room pattern is_line side p.crossing s r) where
  abbrev gap_steps : ℕ
  gap_steps = one.gap_steps g t low not_last self b p n deep apart vars room few pattern long is_line side s r steps works

  pub record AllGapped (i : ℕ) (m : Mine) (qs : List Compared) : Type 0 where
    pub row : List Rational
    pub truth : Bool
    pub others : List ℤ
    pub runs : Runs g t (length qs * gap_steps) (gaps_code side t p i qs) (view b m)
        (view b (record m { row = row; ok = m.ok && list_all (line_fits s r) qs; truth = truth; others = others }))
    pub wide : length row ≡ length m.row
    pub spare : length others ≡ length m.others
    pub beneath : Same 320 row m.row
    pub old_at : (j : ℕ) → j < i → register row (p.at + j) ≡ register m.row (p.at + j)
    pub old_slope : (j : ℕ) → j < i → register row (p.slope + j) ≡ register m.row (p.slope + j)
    pub at : (m.ok && list_all (line_fits s r) qs) ≡ true → (j : ℕ) (q : Compared) → slice_get qs j ≡ Some q → register row (p.at + (i + j)) ≡ (gap_of_sides s r q).at
    pub slope : (m.ok && list_all (line_fits s r) qs) ≡ true → (j : ℕ) (q : Compared) → slice_get qs j ≡ Some q → register row (p.slope + (i + j)) ≡ (gap_of_sides s r q).slope

  none : (i : ℕ) (m : Mine) → AllGapped i m []
  none i m = record {
    row = m.row;
    truth = m.truth;
    others = m.others;
    runs =
        subst (λ (o : Bool). Runs g t (0 * gap_steps) [] (view b m) (view b (record m { ok = o }))) (and_one m.ok)
        (runs_longer g t 0 (0 * gap_steps) [] (view b m) (view b m) (omega arith) (runs_none g t (view b m)));
    wide = refl;
    spare = refl;
    beneath = refl;
    old_at = λ j less. refl;
    old_slope = λ j less. refl;
    at = λ e j q h. absurd (let no : None ≡ Some q = h in cc);
    slope = λ e j q h. absurd (let no : None ≡ Some q = h in cc);
  }

  abbrev First : ℕ → Mine → Compared → Type 0
  First i m q = one.Gapped g t low not_last self b p n deep apart vars room few pattern long is_line side s r steps works i m q

  module _ (i : ℕ) (m : Mine) (q : Compared) (qs : List Compared) (fits : i + length (q ∷ qs) ≤ n) (h : First i m q) where
    abbrev mid : Mine
    mid = record m { row = h.row; ok = m.ok && line_fits s r q; truth = h.truth; others = h.others }

    module _ (k : AllGapped (suc i) mid qs) where
      abbrev all : Bool
      all = m.ok && (line_fits s r q && list_all (line_fits s r) qs)

      same_ok : ((m.ok && line_fits s r q) && list_all (line_fits s r) qs) ≡ all
      same_ok = and_assoc m.ok (line_fits s r q) (list_all (line_fits s r) qs)

      other_at : (j : ℕ) → j < i → one.IsOther g t low not_last self b p n deep apart vars room few pattern long is_line side s r steps works i (p.at + j)
      other_at j less = record {
        below = omega (arith, less, fits, apart.slope, apart.crossing);
        not_at = λ e. omega (arith, e, less);
        not_slope = λ e. omega (arith, e, less, fits, apart.slope);
      }

      other_slope : (j : ℕ) → j < i → one.IsOther g t low not_last self b p n deep apart vars room few pattern long is_line side s r steps works i (p.slope + j)
      other_slope j less = record {
        below = omega (arith, less, fits, apart.crossing);
        not_at = λ e. omega (arith, e, less, fits, apart.slope);
        not_slope = λ e. omega (arith, e, less);
      }

      at_by : all ≡ true → (j : ℕ) (u : Compared) → slice_get (q ∷ qs) j ≡ Some u → register k.row (p.at + (i + j)) ≡ (gap_of_sides s r u).at
      at_by e zero u is =
          let here : i + 0 ≡ i = omega arith in
          let which : q ≡ u = same_Some q u is in
          ap (λ (x : ℕ). register k.row (p.at + x)) here
          ∙ k.old_at i (omega arith)
          ∙ h.at (and_first (m.ok && line_fits s r q) (list_all (line_fits s r) qs) (same_ok ∙ e))
          ∙ ap (λ (x : Compared). (gap_of_sides s r x).at) which
      at_by e (suc j) u is =
          let there : i + suc j ≡ suc i + j = omega arith in
          ap (λ (x : ℕ). register k.row (p.at + x)) there ∙ k.at (same_ok ∙ e) j u is

      slope_by : all ≡ true → (j : ℕ) (u : Compared) → slice_get (q ∷ qs) j ≡ Some u → register k.row (p.slope + (i + j)) ≡ (gap_of_sides s r u).slope
      slope_by e zero u is =
          let here : i + 0 ≡ i = omega arith in
          let which : q ≡ u = same_Some q u is in
          ap (λ (x : ℕ). register k.row (p.slope + x)) here
          ∙ k.old_slope i (omega arith)
          ∙ h.slope (and_first (m.ok && line_fits s r q) (list_all (line_fits s r) qs) (same_ok ∙ e))
          ∙ ap (λ (x : Compared). (gap_of_sides s r x).slope) which
      slope_by e (suc j) u is =
          let there : i + suc j ≡ suc i + j = omega arith in
          ap (λ (x : ℕ). register k.row (p.slope + x)) there ∙ k.slope (same_ok ∙ e) j u is

      ran : Runs g t (length (q ∷ qs) * gap_steps) (gaps_code side t p i (q ∷ qs)) (view b m)
          (view b (record m { row = k.row; ok = all; truth = k.truth; others = k.others }))
      ran =
          let count : gap_steps + length qs * gap_steps ≡ length (q ∷ qs) * gap_steps = omega arith in
          subst (λ (c : ℕ). Runs g t c (gaps_code side t p i (q ∷ qs)) (view b m) (view b (record m { row = k.row; ok = all; truth = k.truth; others = k.others }))) count
          (
          subst (λ (o : Bool). Runs g t (gap_steps + length qs * gap_steps) (gaps_code side t p i (q ∷ qs)) (view b m) (view b (record m { row = k.row; ok = o; truth = k.truth; others = k.others })))
          same_ok
          (
          runs_on g t gap_steps (length qs * gap_steps) (gap_code side t p i q) (gaps_code side t p (suc i) qs) (view b m) (view b mid)
          (view b (record mid { row = k.row; ok = mid.ok && list_all (line_fits s r) qs; truth = k.truth; others = k.others })) h.runs k.runs
          )
          )

      joined : AllGapped i m (q ∷ qs)
      joined = record {
        row = k.row;
        truth = k.truth;
        others = k.others;
        runs = ran;
        wide = k.wide ∙ h.wide;
        spare = k.spare ∙ h.spare;
        beneath = k.beneath ∙ h.beneath;
        old_at = λ j less. k.old_at j (omega (arith, less)) ∙ h.same (p.at + j) (other_at j less);
        old_slope = λ j less. k.old_slope j (omega (arith, less)) ∙ h.same (p.slope + j) (other_slope j less);
        at = at_by;
        slope = slope_by;
      }

  pub gaps_run : (qs : List Compared) (i : ℕ) (m : Mine) → i + length qs ≤ n → IsReady vars room pattern s r m → IsTrue (list_all (are_sides vars pattern is_line) qs) → AllGapped i m qs
  gaps_run [] i m fits ready good = none i m
  gaps_run (q ∷ qs) i m fits ready good =
      let parts = and_parts (are_sides vars pattern is_line q) (list_all (are_sides vars pattern is_line) qs) good in
      let sides = and_parts (is_side vars pattern is_line q.left) (is_side vars pattern is_line q.right) parts.0 in
      let h =
      one.gap_runs g t low not_last self b p n deep apart vars room few pattern long is_line side s r steps works i (omega (arith, fits)) m ready q sides.0 sides.1 in
      let still =
      ready_still vars room pattern s r m (record m { row = h.row; ok = m.ok && line_fits s r q; truth = h.truth; others = h.others }) few long h.wide h.spare h.beneath ready in
      joined i m q qs fits h
      (gaps_run qs (suc i) (record m { row = h.row; ok = m.ok && line_fits s r q; truth = h.truth; others = h.others }) (omega (arith, fits)) still parts.1)
