-- The body by which a thread takes the silent steps of its process: what it is, and what it does.
use Rattle.std.specs.Prelude.{◌≡◌, ◌<◌, ◌+◌, ◌^◌, ℕ, List, [], length, slice_get, Some, IsTrue}
use Rattle.hc_limits.specs.Limits.{most_nodes}
use Rattle.hc_rational.specs.Words.{Rational}
use Rattle.hc_term.specs.declared.system.Process.{Process}
use Rattle.hc_term.specs.declared.task.Task.{Task}
use Rattle.hc_term.specs.declared.model.ProcessState.{ProcessState}
use Rattle.hc_term.specs.Rules.{is_process}
use Rattle.hc_term.specs.Event.{progress}
use Rattle.hc_code.specs.declared.code.Instr.{Instr}
use Rattle.hc_code.specs.Kept.{KeepsRules}
use Rattle.hc_code.specs.Stands.{Table, At, Stands}
use Rattle.hc_cast.specs.declared.stmt.CStmt.{CStmt}
use Rattle.hc_cast.specs.declared.program.CBody.{CBody}
use Rattle.hc_cast.specs.declared.program.CProgram.{CProgram}
use Rattle.hc_cmach.specs.State.{Word}
use Rattle.hc_cmach.specs.Line.{Line}
use Rattle.hc_cstep.specs.Locals.{Mine, names}
use Rattle.hc_cstep.specs.Stands.{StandsFor}
use Rattle.hc_cstep.specs.Premises.{case_steps}
use Rattle.hc_cstep.specs.Written.{private_code}
use Rattle.hc_cstep.specs.Law.{cost}
use Rattle.hc_cstep.specs.Laws.{StretchAlone}
use Rattle.hc_cvalue.specs.Laws.{steps_for}
use Rattle.hc_cend.specs.Searching.{search_names}
use Rattle.hc_cend.specs.Law.{enough_for}
use Rattle.hc_cprivate.specs.Whole.{parts, most_blocks}

-- ---- what it is

-- v_place, v_choices, v_mark, v_bounded, v_most, v_steps, v_end, v_ok, v_truth; v_done, v_x; and those of the search for an end moment
abbrev pub thread_locals : List Word
thread_locals = names (search_names [])

-- the first nine
abbrev pub own_locals : List Word
own_locals = names []

-- how many stand behind
abbrev pub other_locals : ℕ
other_locals = length (search_names [])

-- the statements of thread p, whose process has so many variables and this flat code
abbrev pub private_statements : ℕ → ℕ → ℕ → List Instr → List CStmt
private_statements p vars seed code = private_code (parts p vars most_nodes) p seed code

-- the body of this process, of number p: by a flat code of its statements
pub record IsPrivateBody (p seed : ℕ) (x : Process) (body : CBody) : Type 0 where
  pub code : List Instr
  pub compiled : Stands code x.body
  pub kept : KeepsRules x.body code
  pub locals : body.locals ≡ thread_locals
  pub statements : body.statements ≡ private_statements p (length x.variables) seed code

-- ---- what it does

-- machine steps that are enough where so many silent steps are allowed
abbrev pub machine_steps : ℕ → ℕ
machine_steps most = 2 + cost (case_steps most_blocks (steps_for most_nodes) (enough_for most_nodes) + 3) most

-- There is a table, by which place 0 stands for the whole process, such that from every state that stands for a configuration at a moment, in every
-- program and whatever lines and wake-ups there were, thread p alone runs these statements to their end. Then its row and its locals stand for the
-- configuration after as many silent steps as v_steps counts, and v_end says why there were no more: all as `progress` has it.
pub record TakesSilentSteps (p seed : ℕ) (x : Process) (ss : List CStmt) : Type 0 where
  pub table : Table
  pub begins : At table 0 x.body
  pub steps : (g : CProgram) (lines : List Line) (wakes : List ℕ) (clock : Rational) (m : Mine) (q : ProcessState) →
      StandsFor table (length x.variables) other_locals clock m q → m.most < 2 ^ 31 →
      StretchAlone g p (machine_steps m.most) (search_names []) lines wakes table (length x.variables) other_locals clock ss m (progress m.most seed p clock q)

-- The body of a process that keeps the rules takes its silent steps.
abbrev pub BodiesTakeSteps : Type 0
BodiesTakeSteps =
    (p seed channels : ℕ) (x : Process) (body : CBody) → p < 64 → IsTrue (is_process channels x) → IsPrivateBody p seed x body → TakesSilentSteps p seed x body.statements

-- ---- of a process of a task

abbrev pub IsBodyOf : Task → ℕ → CBody → Type 0
IsBodyOf t p body = (x : Process) → slice_get t.system.processes p ≡ Some x → IsPrivateBody p t.seed x body

abbrev pub StepsAsIn : Task → ℕ → CBody → Type 0
StepsAsIn t p body = (x : Process) → slice_get t.system.processes p ≡ Some x → TakesSilentSteps p t.seed x body.statements
