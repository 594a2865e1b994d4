-- A pair of threads that take turns: each locks the mutex, waits in a loop until it is its turn, prints, hands the turn on, and gives the mutex up.
use Rattle.std.specs.Prelude.{ℕ, List, [], ◌∷◌, map, pos, Option, Some, None, codes}
use Rattle.hc_cast.specs.declared.expr.COp.TheVariants as op
use Rattle.hc_cast.specs.declared.expr.CExpr.{CExpr}
use Rattle.hc_cast.specs.declared.expr.CExpr.TheVariants as e
use Rattle.hc_cast.specs.declared.stmt.CStmt.{CStmt}
use Rattle.hc_cast.specs.declared.stmt.CStmt.TheVariants as a
use Rattle.hc_cast.specs.declared.program.CBody.{CBody}
use Rattle.hc_cast.specs.declared.program.CProgram.{CProgram}
use Rattle.hc_schedule.specs.Sections.{Item, IsSafe}
use Rattle.hc_schedule.specs.Schedule.{moves}
use Rattle.hc_cmach.specs.Turn.{c_code}
use Rattle.hc_cmach.specs.Machine.{opening}

abbrev number : ℕ → CExpr
number n = e.Number (pos n)

abbrev call : List ℕ → List ℕ → CStmt
call what ns = a.Call None what (map number ns)

-- a_turn[0]
abbrev turn : CExpr
turn = e.Element (codes "a_turn") (number 0)

-- c_wait(p);
abbrev pub waits : ℕ → CStmt
waits p = call (codes "c_wait") (p ∷ [])

-- while (a_turn[0] != p) { c_wait(p); }
abbrev pub waits_for : ℕ → CStmt
waits_for p = a.While (e.Binary op.NotEqual turn (number p)) (waits p ∷ [])

-- return 0;
abbrev pub last : List CStmt
last = a.Return (Some (number 0)) ∷ []

-- m_unlock(); return 0;
abbrev pub unlocks : List CStmt
unlocks = call (codes "m_unlock") [] ∷ last

-- out_log(64, 0, p, 0); a_turn[0] = q; c_wake(q); m_unlock(); return 0;
abbrev pub works : ℕ → ℕ → List CStmt
works p q =
    call (codes "out_log") (64 ∷ 0 ∷ p ∷ 0 ∷ []) ∷ a.Store (codes "a_turn") (number 0) (number q) ∷ call (codes "c_wake") (q ∷ []) ∷ unlocks

-- m_lock(); and these
abbrev pub body : ℕ → ℕ → CBody
body p q = record { locals = []; statements = call (codes "m_lock") [] ∷ waits_for p ∷ works p q }

abbrev pub pair : CProgram
pair = record {
  arrays = record { name = codes "a_turn"; length = 1 } ∷ [];
  channels = [];
  processes = codes "P" ∷ codes "Q" ∷ [];
  functions = [];
  threads = body 0 1 ∷ body 1 0 ∷ [];
}

-- under no schedule they meet an undefined step
abbrev pub PairIsSafe : Type 0
PairIsSafe = (w : List Item) → IsSafe (moves (c_code pair)) (opening pair) w
