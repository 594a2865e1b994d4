-- A loop that counts up to a number.
use Rattle.std.specs.Prelude.{◌≡◌, ◌<◌, ℕ, zero, suc, ◌+◌, nat_lt, Bool, true, false, List, [], ◌∷◌}
use Rattle.std.proofs.Common.{ap, ◌∙◌, subst, arith}
use Rattle.std.proofs.lemmas.Bool.{lt-ltb}
use Rattle.std.proofs.lemmas.Bool.Decides.{nat_tests}
use Rattle.hc_cast.specs.declared.expr.CExpr.{CExpr}
use Rattle.hc_cast.specs.declared.stmt.CStmt.{CStmt}
use Rattle.hc_cast.specs.declared.stmt.CStmt.TheVariants as a
use Rattle.hc_cast.specs.declared.program.CProgram.{CProgram}
use Rattle.hc_cmach.specs.Expression.{is_true, int_of}
use Rattle.hc_clogic.specs.Runs.{View, Runs, Is}
use Rattle.hc_clogic.proofs.Runs.{runs_longer}
use Rattle.hc_clogic.specs.Loops.{rounds}
use Rattle.hc_clogic.proofs.Loops.{while_stops, while_goes_on}

not_below : (n : ℕ) → nat_lt n n ≡ false
not_below n = grind (arith, nat_tests)

-- `P i m` is what holds of m when the count is i. The test says whether it is below n, and each turn counts one up.
module _ (g : CProgram) (t : ℕ) (S : Type 0) (seen : S → View) (P : ℕ → S → Type 0) (n cost : ℕ) (test : CExpr) (body : List CStmt)
    (tested : (i : ℕ) (m : S) → P i m → Is g t (seen m) test (int_of (nat_lt i n)))
    (turns : (i : ℕ) (m : S) → i < n → P i m → (w : S) × P (suc i) w × Runs g t cost body (seen m) (seen w)) where
  abbrev pub Counted : ℕ → S → Type 0
  Counted k m = (w : S) × P n w × Runs g t (rounds cost k) (a.While test body ∷ []) (seen m) (seen w)

  pub counts_up : (k i : ℕ) (m : S) → i + k ≡ n → P i m → Counted k m
  counts_up zero i m e h =
      let same : i ≡ n = omega (arith, e) in
      let off : is_true (int_of (nat_lt i n)) ≡ false =
      ap (λ (b : Bool). is_true (int_of b)) (ap (λ (j : ℕ). nat_lt j n) same ∙ not_below n) in (
        m,
        subst (λ (j : ℕ). P j m) same h,
        runs_longer g t 1 (rounds cost 0) (a.While test body ∷ []) (seen m) (seen m) (omega arith)
            (while_stops g t test body (seen m) (int_of (nat_lt i n)) (tested i m h) off),
      )
  counts_up (suc k) i m e h =
      let less : i < n = omega (arith, e) in
      let on : is_true (int_of (nat_lt i n)) ≡ true = ap (λ (b : Bool). is_true (int_of b)) (lt-ltb i n less) in
      let r = turns i m less h in
      let further : suc i + k ≡ n = omega (arith, e) in
      let rest = counts_up k (suc i) r.0 further r.1 in
      let same : 1 + (cost + rounds cost k) ≡ rounds cost (suc k) = omega arith in (
        rest.0,
        rest.1,
        subst (λ (j : ℕ). Runs g t j (a.While test body ∷ []) (seen m) (seen rest.0)) same
            (while_goes_on g t test body cost (rounds cost k) (seen m) (seen r.0) (seen rest.0) (int_of (nat_lt i n)) (tested i m h) on r.2 rest.2),
      )
