-- What contracts see of an advance.
use Rattle.std.specs.Prelude.{◌≡◌, ℕ, Option, Some, None}
use Rattle.hc_rational.specs.Words.{Rational, zero_ℚ}
use Rattle.hc_term.specs.declared.system.Process.{Process}
use Rattle.hc_term.specs.declared.task.Task.{Task}
use Rattle.hc_code.specs.declared.code.ProcCode.{ProcCode}
use Rattle.hc_step.specs.declared.local.Local.{Local}
use Rattle.hc_step.specs.declared.stretch.Stretch.{Stretch}

-- the stretch that was worked out, and what the process keeps after it
pub record Worked : Type 0 where
  pub stretch : Stretch
  pub end : Local

-- the code of the process; what the process keeps where the advance starts, the clock and the seed there; and what was
-- worked out from there, if it was
pub record Lead : Type 0 where
  pub code : ProcCode
  pub start : Local
  pub clock : Rational
  pub seed : ℕ
  pub worked : Option Worked

abbrev pub worked_by : Option Stretch → Local → Option Worked
worked_by None end = None
worked_by (Some stretch) end = Some (record { stretch = stretch; end = end })

abbrev pub lead : ProcCode → Local → Rational → ℕ → Option Worked → Lead
lead code start clock seed worked = record { code = code; start = start; clock = clock; seed = seed; worked = worked }

-- an advance of this code that starts there, and isn't worked
abbrev pub begun : ProcCode → Local → Rational → ℕ → Lead
begun code start clock seed = lead code start clock seed None

-- by this code, the advance starts from what the process keeps, at this clock, with this seed
pub record StartsAt (a : Lead) (code : ProcCode) (start : Local) (clock : Rational) (seed : ℕ) : Type 0 where
  pub same_code : a.code ≡ code
  pub same_start : a.start ≡ start
  pub same_clock : a.clock ≡ clock
  pub same_seed : a.seed ≡ seed

abbrev pub steps_of : Option Worked → Option ℕ
steps_of None = None
steps_of (Some w) = Some w.stretch.steps
