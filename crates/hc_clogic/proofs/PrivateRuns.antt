-- From a run of statements outside a section to steps of a schedule.
use Rattle.std.specs.Prelude.{◌≡◌, ◌≤◌, ℕ, Bool, true, List, [], ◌++◌, ℤ, Option, Some, None}
use Rattle.hc_rational.specs.Words.{Rational}
use Rattle.hc_cast.specs.declared.stmt.CStmt.{CStmt}
use Rattle.hc_cast.specs.declared.program.CProgram.{CProgram}
use Rattle.hc_schedule.specs.Threads.{hold}
use Rattle.hc_schedule.specs.Schedule.{is_aside}
use Rattle.hc_schedule.specs.Solo.{alone}
use Rattle.hc_cmach.specs.State.{Word, Frame, Own}
use Rattle.hc_cmach.specs.Machine.{CState}
use Rattle.hc_cmach.specs.Turn.{c_code}
use Rattle.hc_clogic.specs.Runs.{View, at, Runs}
use Rattle.hc_clogic.proofs.Runs.{alone_of}
use Rattle.hc_clogic.specs.Private.{IsReady, IsPrivateRun}
use Rattle.hc_clogic.proofs.Private.{private_runs_alone}

-- a view outside a section
abbrev pub private_view : List Rational → List Word → List ℤ → View
private_view row names values = record { row = row; shared = None; names = names; values = values; lines = []; wakes = [] }

module _ (g : CProgram) (t n : ℕ) (ss rest : List CStmt) (target : Option Word) (gives : Bool) (below : List Frame)
    (row : List Rational) (names : List Word) (values : List ℤ) (w : View) (runs : Runs g t n ss (private_view row names values) w) where
  abbrev before : Own
  before = (at (private_view row names values) (ss ++ rest) target gives below).own

  abbrev behind : Own
  behind = (at w rest target gives below).own

  -- alone, in n steps at most
  pub runs_alone : (k : ℕ) × (k ≤ n) × (alone (c_code g) t k before ≡ Some behind)
  runs_alone =
      let h = runs.by rest target gives below in
      (h.steps, h.few, alone_of g t h.steps before [] [] (at w rest target gives below) h.comes)

  -- and so in each state in which the thread is ready there and doesn't own the mutex
  pub runs_private : (a : CState) → is_aside (hold a.world.owner t) ≡ true → IsReady a t before →
      (k : ℕ) × (k ≤ n) × IsPrivateRun (c_code g) a t k behind
  runs_private a aside there =
      let k = runs_alone in
      (k.0, k.1, private_runs_alone (c_code g) a t k.0 before behind aside there k.2)
