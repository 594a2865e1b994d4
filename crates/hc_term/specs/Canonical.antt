-- The canonical run: at each configuration the ready channel of least number; else the silent step of the least process that wants one; else the delay.
use Rattle.std.specs.Prelude.{ℕ, zero, suc, ◌+◌, if◌then◌else◌, List, [], ◌∷◌, Option, Some, None}
use Rattle.hc_term.specs.declared.task.Task.{Task}
use Rattle.hc_term.specs.declared.run.Step.{Step}
use Rattle.hc_term.specs.declared.run.Step.TheVariants.{Silent, Comm, Delay}
use Rattle.hc_term.specs.declared.run.Item.{Item}
use Rattle.hc_term.specs.declared.run.Stop.{Stop}
use Rattle.hc_term.specs.declared.run.Stop.TheVariants.{Terminated, Deadlock, Horizon, Limit, Overflow}
use Rattle.hc_term.specs.declared.model.ProcessState.{ProcessState}
use Rattle.hc_term.specs.declared.model.Meeting.{Meeting}
use Rattle.hc_term.specs.declared.model.Configuration.{Configuration}
use Rattle.hc_term.specs.Process.{wants}
use Rattle.hc_term.specs.Silent.{Outcome, Idle, Unfit, Did}
use Rattle.hc_term.specs.Posts.{Passing, NoBound, AtHorizon, Overflows, Took}
use Rattle.hc_term.specs.Step.{opening, ready, all_ended, passing_quiet, silent_of, replaced, met, delayed}

-- what a configuration does next: a step, or a stop
pub data Turn : Type 0 where
  Goes : (step : Step) (next : Configuration) → Turn
  Halts : (stop : Stop) → Turn

-- the least process that wants a silent step, from number p on
abbrev pub wanting_from : ℕ → List ProcessState → Option ℕ
wanting_from p [] = None
wanting_from p (q ∷ qs) = if wants q then Some p else wanting_from (p + 1) qs

abbrev pub turn_silent : Configuration → ℕ → Outcome → Turn
turn_silent c p (Did logged q) = Goes (Silent p logged) (replaced c p q)
turn_silent c p Unfit = Halts (Overflow (Some p))
turn_silent c p Idle = Halts Deadlock  -- never, since p wants a step

abbrev pub ended_by : Configuration → Stop
ended_by c = if all_ended c.processes then Terminated else Deadlock

abbrev pub turn_passing : Configuration → Passing → Turn
turn_passing c (Took d) = Goes (Delay d) (delayed d c)
turn_passing c Overflows = Halts (Overflow None)
turn_passing c AtHorizon = Halts Horizon
turn_passing c NoBound = Halts (ended_by c)

abbrev pub turn_quiet : Task → Configuration → Option ℕ → Turn
turn_quiet t c (Some p) = turn_silent c p (silent_of t c p)
turn_quiet t c None = turn_passing c (passing_quiet t c)

abbrev pub turn_by : Task → Configuration → Option Meeting → Turn
turn_by t c (Some m) = Goes (Comm m.channel m.value) (met m c)
turn_by t c None = turn_quiet t c (wanting_from 0 c.processes)

-- the step that the canonical run takes, or the stop with which it ends
abbrev pub turn : Task → Configuration → Turn
turn t c = turn_by t c (ready t c)

-- steps that were taken, the configuration reached, and the stop there
pub record Course : Type 0 where
  pub items : List Item
  pub end : Configuration
  pub stop : Stop

abbrev pub preceded : Item → Course → Course
preceded i k = record k { items = i ∷ k.items }

abbrev pub course_by : Configuration → (Configuration → Course) → Turn → Course
course_by c later (Goes step next) = preceded (record { at = c.clock; step = step }) (later next)
course_by c later (Halts stop) = record { items = []; end = c; stop = stop }

-- the canonical steps from a configuration, of which so many are left to the limit
abbrev pub course : ℕ → Task → Configuration → Course
course zero t c = record { items = []; end = c; stop = Limit }
course (suc n) t c = course_by c (course n t) (turn t c)

abbrev pub canonical : Task → Course
canonical t = course t.limit t (opening t)
