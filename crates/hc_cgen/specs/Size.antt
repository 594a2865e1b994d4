-- How many statements a program of C has, and the size of a task.
use Rattle.std.specs.Prelude.{◌≡◌, ◌≤◌, ℕ, ◌+◌, ◌-◌, ◌*◌, sum, List, map, length, slice_get, Some}
use Rattle.hc_term.specs.declared.system.Process.{Process}
use Rattle.hc_term.specs.declared.task.Task.{Task}
use Rattle.hc_code.specs.Measure.{measure, IsMeasured}
use Rattle.hc_cast.specs.declared.program.CBody.{CBody}
use Rattle.hc_cast.specs.declared.program.CFunction.{CFunction}
use Rattle.hc_cast.specs.declared.program.CProgram.{CProgram}
use Rattle.hc_cstep.specs.Size.{total, sizes}
use Rattle.hc_csection.specs.Words.{processes, channels}
use Rattle.hc_cgen.specs.Program.{Codes}

-- ---- a program

abbrev pub body_sizes : List CBody → ℕ
body_sizes bs = total (map (λ b. sizes b.statements) bs)

abbrev pub function_sizes : List CFunction → ℕ
function_sizes fs = total (map (λ f. sizes f.body.statements) fs)

-- its statements, those inside others counted
abbrev pub all_statements : CProgram → ℕ
all_statements g = function_sizes g.functions + body_sizes g.threads

-- ---- a task

-- those of all processes, the processes, the channels, the variables, and 20
abbrev pub task_size : Task → ℕ
task_size t =
    total (map measure t.system.processes) + processes t + channels t + total (map (λ x. length x.variables) t.system.processes) + 20

-- the code of each process counts no more than the process, and one more for its end
abbrev pub AreMeasured : Task → Codes → Type 0
AreMeasured t code = (p : ℕ) (x : Process) → slice_get t.system.processes p ≡ Some x → IsMeasured x (code p)

-- whatever the limit and the horizon are
abbrev pub HasFewStatements : Task → CProgram → Type 0
HasFewStatements t g = all_statements g ≤ 200 * task_size t
