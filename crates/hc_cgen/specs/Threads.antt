-- The pieces of a thread's body, as they are put together.
use Rattle.std.specs.Prelude.{ℕ, List, [], ◌∷◌, ◌++◌, None, codes}
use Rattle.hc_term.specs.declared.task.Task.{Task}
use Rattle.hc_cast.specs.declared.expr.CExpr.TheVariants as e
use Rattle.hc_cast.specs.declared.stmt.CStmt.{CStmt}
use Rattle.hc_cast.specs.declared.stmt.CStmt.TheVariants as a
use Rattle.hc_cbuild.specs.Written.{number, local, call}
use Rattle.hc_cthreads.specs.Bodies.{goes_on_test, last}
use Rattle.hc_cthreads.specs.Bodies as bodies
use Rattle.hc_cstep.specs.Locals.{v_steps, v_end}
use Rattle.hc_csection.specs.Code.{has_room, pass_call, idle_test}

abbrev pub set_horizon : Task → CStmt
set_horizon t = call (codes "fr_set") (number 64 ∷ number 67 ∷ e.Number t.horizon.num ∷ number t.horizon.den ∷ [])

abbrev pub enters : ℕ → CStmt
enters n = call (codes "f_enter") (number n ∷ local v_steps ∷ local v_end ∷ [])

abbrev pub shows_and_passes : List CStmt → List CStmt
shows_and_passes show = a.If has_room show None ∷ pass_call

abbrev pub waits : ℕ → CStmt
waits n = a.While bodies.idle_test (bodies.waits_on n ∷ idle_test n)

abbrev pub round : ℕ → List CStmt → List CStmt → List CStmt → List CStmt
round n stretch report take =
    stretch ++ (bodies.locks ∷ (report ++ (idle_test n ++ (waits n ∷ (take ++ (bodies.unlocks ∷ []))))))

abbrev pub rounds : List CStmt → List CStmt
rounds body = a.While goes_on_test body ∷ last
