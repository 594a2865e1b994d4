-- What an advance keeps: once it is worked, its end is the silent run from its start by its code.
use Rattle.std.specs.Prelude.{◌≡◌, ◌<◌, ℕ, List, length, slice_get, Option, Some, None, IsTrue}
use Rattle.hc_limits.specs.Limits.{most_silent_steps}
use Rattle.hc_rational.specs.Words.{Rational, zero_ℚ}
use Rattle.hc_term.specs.declared.system.Process.{Process}
use Rattle.hc_term.specs.declared.task.Task.{Task}
use Rattle.hc_term.specs.declared.model.ProcessState.{ProcessState}
use Rattle.hc_term.specs.Step.{opening_of}
use Rattle.hc_term.specs.Event.{progress}
use Rattle.hc_code.specs.Stands.{Table, AllAgree, Stands, StandsFor}
use Rattle.hc_step.specs.Usable.{is_usable_code}
use Rattle.hc_step.specs.Represents.{Represents, Keeps, Takes}
use Rattle.hc_advance.specs.Lead.{Lead, Worked}

-- From each state of a process for which the start stands, the stretch took exactly the silent steps that the definition
-- has, at most as many as one event may have; and the end stands for the state after them.
pub record Ran (a : Lead) (w : Worked) : Type 0 where
  pub keeps : Keeps (length a.code.instrs) a.start w.end
  pub takes : (t : Table) (q : ProcessState) → AllAgree t a.code.instrs t → Represents t a.clock a.start q →
      Takes t a.clock w.stretch w.end (progress most_silent_steps a.seed a.start.process a.clock q)

-- the code can be run from the start; and what was worked out, if it was, is the run from there
pub record IsLead (a : Lead) : Type 0 where
  pub usable : IsTrue (is_usable_code a.start.variables a.code.instrs)
  pub within : a.start.place < length a.code.instrs
  pub ran : (w : Worked) → a.worked ≡ Some w → Ran a w

-- worked or not, the other advance starts where this one does
pub record SameStart (a b : Lead) : Type 0 where
  pub same_code : b.code ≡ a.code
  pub same_start : b.start ≡ a.start
  pub same_clock : b.clock ≡ a.clock
  pub same_seed : b.seed ≡ a.seed

-- the advance starts at the opening of this process, of which it has the code, and isn't worked
pub record IsAtOpening (process : Process) (number seed : ℕ) (a : Lead) : Type 0 where
  pub number_is : a.start.process ≡ number
  pub code : Stands a.code.instrs process.body
  pub start : (table : Table) → StandsFor a.code.instrs process.body table → Represents table zero_ℚ a.start (opening_of process)
  pub clock : a.clock ≡ zero_ℚ
  pub seed_is : a.seed ≡ seed
  pub not_worked : a.worked ≡ None

-- it is process number p of the task, with its seed
abbrev pub IsOpening : Task → ℕ → Lead → Type 0
IsOpening t p a = (process : Process) → slice_get t.system.processes p ≡ Some process → IsAtOpening process p t.seed a
