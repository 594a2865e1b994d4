-- What is asked of the code of a task's processes, and of the private code of a thread, as its crate proves it.
use Rattle.std.specs.Prelude.{◌≡◌, ◌<◌, ◌^◌, ℕ, List, ◌∷◌, length, slice_get, Some}
use Rattle.hc_rational.specs.Words.{Rational}
use Rattle.hc_term.specs.declared.system.Process.{Process}
use Rattle.hc_term.specs.declared.task.Task.{Task}
use Rattle.hc_term.specs.declared.model.ProcessState.{ProcessState}
use Rattle.hc_term.specs.Event.{Progress, progress}
use Rattle.hc_code.specs.Stands as code
use Rattle.hc_cast.specs.declared.stmt.CStmt.{CStmt}
use Rattle.hc_cast.specs.declared.stmt.CStmt.TheVariants.{Set}
use Rattle.hc_cast.specs.declared.program.CProgram.{CProgram}
use Rattle.hc_clogic.specs.Runs.{Runs}
use Rattle.hc_cthreads.specs.Views.{own_view}
use Rattle.hc_cstep.specs.Locals.{Mine, v_most}
use Rattle.hc_csection.specs.Values.{values_of}
use Rattle.hc_cstep.specs.Stands.{StandsFor}
use Rattle.hc_cstep.specs.Law.{end_number, LogIs}
use Rattle.hc_cbuild.specs.Written.{number}
use Rattle.hc_csection.specs.Words.{Codes, thread_names, variables, room}

-- each process has its code
abbrev pub AreCoded : Codes → Task → Type 0
AreCoded k t = (p : ℕ) (x : Process) → slice_get t.system.processes p ≡ Some x → code.StandsFor (k.code p) x.body (k.table p)

-- from here the statements lead to what stands for the configuration after these steps
pub record IsStretch (g : CProgram) (k : Codes) (t : Task) (p : ℕ) (clock : Rational) (ss : List CStmt) (m : Mine) (h : Progress) : Type 0 where
  pub then : Mine
  pub size : ℕ
  pub runs : Runs g p size ss (own_view (thread_names k p) m.row (values_of m)) (own_view (thread_names k p) then.row (values_of then))
  pub stands : StandsFor (k.table p) (variables t p) (room k p) clock then h.next
  pub counted : then.steps ≡ length h.logs
  pub ended : then.end ≡ end_number h.end
  pub logged : LogIs then h.end

-- the law of private code
abbrev pub PrivateLaw : CProgram → Codes → Task → ℕ → List CStmt → Type 0
PrivateLaw g k t p ss =
    (clock : Rational) (m : Mine) (q : ProcessState) → StandsFor (k.table p) (variables t p) (room k p) clock m q → m.most < 2 ^ 31 →
    IsStretch g k t p clock ss m (progress m.most t.seed p clock q)

-- v_most = limit; and the private code
abbrev pub stretch_of : Task → List CStmt → List CStmt
stretch_of t private = Set v_most (number t.limit) ∷ private
