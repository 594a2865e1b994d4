-- What is made of a task.
use Rattle.std.specs.Prelude.{◌≡◌, ℕ, suc, List, [], ◌∷◌}
use Rattle.hc_term.specs.declared.system.Process.{Process}
use Rattle.hc_term.specs.declared.task.Task.{Task}
use Rattle.hc_code.specs.declared.code.Instr.{Instr}
use Rattle.hc_code.specs.Stands.{Stands}
use Rattle.hc_code.specs.Kept.{KeepsRules}
use Rattle.hc_code.specs.Measure.{IsMeasured}
use Rattle.hc_cast.specs.declared.program.CBody.{CBody}
use Rattle.hc_cast.specs.declared.program.CProgram.{CProgram}
use Rattle.hc_cgen.specs.Program.{Codes, AreCompiled, thread_of, program}
use Rattle.hc_cgen.specs.Size.{AreMeasured}

-- the thread of process x, of number p, by a code that the process is compiled to
pub record IsThreadFor (t : Task) (p : ℕ) (x : Process) (b : CBody) : Type 0 where
  pub code : List Instr
  pub stands : Stands code x.body
  pub keeps : KeepsRules x.body code
  pub measured : IsMeasured x code
  pub made : b ≡ thread_of t p code

-- those of these processes, of which the first has number p
abbrev pub AreThreadsFor : Task → ℕ → List Process → List CBody → Type 0
AreThreadsFor t p [] [] = Unit {0}
AreThreadsFor t p (x ∷ xs) (b ∷ bs) = IsThreadFor t p x b × AreThreadsFor t (suc p) xs bs
AreThreadsFor t p _ _ = ⊥

-- the program of the task, by codes that its processes are compiled to
pub record IsProgramFor (t : Task) (g : CProgram) : Type 0 where
  pub code : Codes
  pub compiled : AreCompiled t code
  pub measured : AreMeasured t code
  pub is : g ≡ program t code
