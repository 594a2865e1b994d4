-- What holds of the program of every task.
use Rattle.std.specs.Prelude.{◌≡◌, true}
use Rattle.hc_term.specs.declared.task.Task.{Task}
use Rattle.hc_runs.specs.Fractions.{task_numbers}
use Rattle.hc_cgen.specs.Program.{Codes, AreCompiled, program}
use Rattle.hc_cgen.specs.Size.{AreMeasured}
use Rattle.hc_cgen.specs.Generated.{IsGenerated}

-- The numbers of the task are fractions, and each process has the code that it is compiled to: then the program keeps its promises.
abbrev pub ProgramsAreGenerated : Type 0
ProgramsAreGenerated =
    (t : Task) (code : Codes) → AreCompiled t code → AreMeasured t code → task_numbers t ≡ true → IsGenerated t (program t code)
