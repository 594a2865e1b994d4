-- A loop that does what a function of something does.
use Rattle.std.specs.Prelude.{◌≡◌, ◌<◌, ℕ, zero, suc, ◌+◌, ◌*◌, Bool, true, if◌then◌else◌, List, ℤ}
use Rattle.hc_cast.specs.declared.expr.CExpr.{CExpr}
use Rattle.hc_cast.specs.declared.stmt.CStmt.{CStmt}
use Rattle.hc_cast.specs.declared.program.CProgram.{CProgram}
use Rattle.hc_cmach.specs.Expression.{is_true}
use Rattle.hc_clogic.specs.Runs.{View, Is, Runs}

-- next, as long as on says so, at most m times
abbrev pub repeated : {Q : Type 0} → (Q → Bool) → (Q → Q) → ℕ → Q → Q
repeated on next zero q = q
repeated on next (suc m) q = if on q then repeated on next m (next q) else q

-- the steps of a loop that goes round m times at most, n steps each
abbrev pub rounds : ℕ → ℕ → ℕ
rounds n m = 1 + m * (n + 1)

-- Each turn of the loop leads from a view that stands for q to one that stands for next q. The test may be any number.
pub record Turning (g : CProgram) (t : ℕ) (Q : Type 0) (stands : Q → View → Type 0) (on : Q → Bool) (next : Q → Q) (measure : Q → ℕ) (n : ℕ) (test : CExpr) (body : List CStmt) : Type 0 where
  pub tested : (q : Q) (v : View) → stands q v → (z : ℤ) × Is g t v test z × (is_true z ≡ on q)
  pub turns : (q : Q) (v : View) → stands q v → on q ≡ true → (w : View) × stands (next q) w × Runs g t n body v w
  pub lower : (q : Q) → on q ≡ true → measure (next q) < measure q
