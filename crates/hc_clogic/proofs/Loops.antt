-- Loops with tests of any number, and their cost in closed form.
use Rattle.std.specs.Prelude.{◌≡◌, ◌<◌, ℕ, zero, suc, ◌+◌, Bool, true, false, if◌then◌else◌, List, [], ◌∷◌, ◌++◌, ℤ, None, Ok}
use Rattle.std.proofs.Common.{refl, sym, ◌∙◌, subst, arith}
use Rattle.std.proofs.lemmas.List.{append-nil}
use Rattle.hc_cast.specs.declared.expr.CExpr.{CExpr}
use Rattle.hc_cast.specs.declared.stmt.CStmt.{CStmt}
use Rattle.hc_cast.specs.declared.stmt.CStmt.TheVariants as a
use Rattle.hc_cast.specs.declared.program.CProgram.{CProgram}
use Rattle.hc_cmach.specs.Expression.{is_true}
use Rattle.hc_clogic.specs.Runs.{View, Runs, Is}
use Rattle.hc_clogic.proofs.Runs.{runs_none, runs_on, runs_longer}
use Rattle.hc_clogic.specs.Block.{value_at}
use Rattle.hc_clogic.specs.Loops.{repeated, rounds, Turning}
use Rattle.hc_clogic.proofs.Blocks.{into_runs}

module _ (g : CProgram) (t : ℕ) (test : CExpr) (body : List CStmt) where
  abbrev loop : List CStmt
  loop = a.While test body ∷ []

  pub while_stops : (v : View) (z : ℤ) → Is g t v test z → is_true z ≡ false → Runs g t 1 loop v v
  while_stops v z h off =
      let test_is : value_at g v test ≡ Ok z = h [] None false in
      into_runs g t 0 v v (a.While test body) [] [] (simp (a.outs-While, test_is, off)) (runs_none g t v)

  pub while_goes_on : (m n : ℕ) (v w u : View) (z : ℤ) → Is g t v test z → is_true z ≡ true → Runs g t m body v w → Runs g t n loop w u →
      Runs g t (1 + (m + n)) loop v u
  while_goes_on m n v w u z h on k l =
      let test_is : value_at g v test ≡ Ok z = h [] None false in
      into_runs g t (m + n) v u (a.While test body) (body ++ loop) [] (simp (a.outs-While, test_is, on))
      (subst (λ (ss : List CStmt). Runs g t (m + n) ss v u) (sym (append-nil (body ++ loop))) (runs_on g t m n body loop v w u k l))

module _ (g : CProgram) (t : ℕ) (Q : Type 0) (stands : Q → View → Type 0) (on : Q → Bool) (next : Q → Q) (measure : Q → ℕ) (n : ℕ) (test : CExpr) (body : List CStmt)
    (loops : Turning g t Q stands on next measure n test body) where
  abbrev Goes : ℕ → Q → View → Type 0
  Goes m q v = (w : View) × stands (repeated on next m q) w × Runs g t (rounds n m) (a.While test body ∷ []) v w

  round_by : (m : ℕ) → ((q : Q) (v : View) → measure q < m → stands q v → Goes m q v) → (q : Q) (v : View) → measure q < suc m → stands q v →
      (b : Bool) → on q ≡ b → Goes (suc m) q v
  round_by m rest q v less h false e =
      let z = loops.tested q v h in (
        v,
        subst (λ (x : Bool). stands (if x then repeated on next m (next q) else q) v) (sym e) h,
        runs_longer g t 1 (rounds n (suc m)) (a.While test body ∷ []) v v (omega arith) (while_stops g t test body v z.0 z.1 (z.2 ∙ e)),
      )
  round_by m rest q v less h true e =
      let z = loops.tested q v h in
      let k = loops.turns q v h e in
      let lower : measure (next q) < m = omega (arith, less, loops.lower q e) in
      let r = rest (next q) k.0 lower k.1 in
      let same : 1 + (n + rounds n m) ≡ rounds n (suc m) = omega arith in (
        r.0,
        subst (λ (x : Bool). stands (if x then repeated on next m (next q) else q) r.0) (sym e) r.1,
        subst (λ (j : ℕ). Runs g t j (a.While test body ∷ []) v r.0) same
            (while_goes_on g t test body n (rounds n m) v k.0 r.0 z.0 z.1 (z.2 ∙ e) k.2 r.2),
      )

  -- the loop does what the function does, in m rounds at most
  pub loop_goes : (m : ℕ) (q : Q) (v : View) → measure q < m → stands q v → Goes m q v
  loop_goes zero q v less h = absurd (omega (arith, less))
  loop_goes (suc m) q v less h = round_by m (loop_goes m) q v less h (on q) refl
