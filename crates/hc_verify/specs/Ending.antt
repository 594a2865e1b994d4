-- What comes of an end line.
use Rattle.std.specs.Prelude.{◌≡◌, ◌<◌, ◌≤◌, ℕ, ◌-◌, Bool, true, false, not, Option, Some, None}
use Rattle.hc_rational.specs.Words.{Rational}
use Rattle.hc_term.specs.declared.task.Task.{Task}
use Rattle.hc_term.specs.declared.run.Stop.{Stop}
use Rattle.hc_term.specs.declared.run.Stop.TheVariants.{Deadlock, Horizon, Limit, Overflow}
use Rattle.hc_term.specs.declared.run.StretchEnd.{StretchEnd}
use Rattle.hc_term.specs.declared.run.StretchEnd.TheVariants as ends
use Rattle.hc_term.specs.declared.model.ProcessState.{ProcessState}
use Rattle.hc_term.specs.declared.model.Configuration.{Configuration}
use Rattle.hc_term.specs.Posts.{Passing}
use Rattle.hc_term.specs.Silent.{Did, silent}
use Rattle.hc_term.specs.Step.{replaced}
use Rattle.hc_term.specs.Stop.{StopsAt}
use Rattle.hc_board.specs.declared.delayed.Delayed.{Delayed}
use Rattle.hc_board.specs.declared.delayed.Delayed.TheVariants as delayed
use Rattle.hc_board.specs.Answers.{answer_of}
use Rattle.hc_order.specs.Demand.{Strolls, Advances, AreHalted, everyone}
use Rattle.hc_order.specs.Verified.{asked_at_stop}
use Rattle.hc_trace.specs.declared.traces.TraceEnd.{TraceEnd}
use Rattle.hc_verify.specs.declared.walk.Walk.{Walk}
use Rattle.hc_verify.specs.Named.{IsStopOf}
use Rattle.hc_verify.specs.Stands.{IsAt}

-- ---- the stops

-- Those whom the stop asks for took so many steps, fewer than were left, and it stands there at this clock; or it can't be
-- reached in fewer steps than are left.
abbrev pub Reaches : Task → Stop → Rational → ℕ → Configuration → Option ℕ → Type 0
Reaches t stop at room c (Some m) =
    (m < room) × ((d : Configuration) × Advances (asked_at_stop stop) t m c d × (at ≡ d.clock) × StopsAt t d stop)
Reaches t stop at room c None =
    (m : ℕ) (d : Configuration) → Advances (asked_at_stop stop) t m c d → at ≡ d.clock → StopsAt t d stop → m < room → ⊥

-- The limit: all steps that were left are taken by invisible steps, of any processes, and the clock is this; or that can't be.
abbrev pub ReachesLimit : Task → Rational → ℕ → Configuration → Option ℕ → Type 0
ReachesLimit t at room c (Some m) = (m ≡ room) × ((d : Configuration) × Advances (asked_at_stop Limit) t m c d × (at ≡ d.clock))
ReachesLimit t at room c None = (d : Configuration) → Advances (asked_at_stop Limit) t room c d → at ≡ d.clock → ⊥

-- the stop that an end line says, whichever it is
abbrev pub ReachesEnd : Task → Stop → Rational → ℕ → Configuration → Option ℕ → Type 0
ReachesEnd t Limit at room c result = ReachesLimit t at room c result
ReachesEnd t stop at room c result = Reaches t stop at room c result

-- so it is with the stop that an end line names; or the line names none that can be reached so
abbrev pub ReachesEndLine : Task → TraceEnd → ℕ → Configuration → Option ℕ → Type 0
ReachesEndLine t line room c (Some m) =
    (stop : Stop) × IsStopOf t.system line.kind line.who stop × ReachesEnd t stop line.at room c (Some m)
ReachesEndLine t line room c None =
    (stop : Stop) → IsStopOf t.system line.kind line.who stop → ReachesEnd t stop line.at room c None

-- ---- what shows them

-- the steps of a stretch that ended before a step that doesn't fit
abbrev pub unfit_steps : StretchEnd → ℕ → Option ℕ
unfit_steps ends.Unfit n = Some n
unfit_steps ends.Waits n = None
unfit_steps ends.Ended n = None
unfit_steps (ends.Logged v) n = None
unfit_steps ends.Spent n = None

-- what time does, as a board says it, or none where it does nothing
abbrev pub answered : Option Passing → Option Delayed
answered None = None
answered (Some what) = Some (answer_of what)

-- the stops of time: nothing waits for it though not all have ended, the horizon, and a delay that doesn't fit
abbrev pub is_of_time : Stop → Bool
is_of_time Deadlock = true
is_of_time Horizon = true
is_of_time (Overflow None) = true
is_of_time stop = false

-- whether what time does is this stop, where all have ended or not
abbrev pub stops_time : Stop → Delayed → Bool → Bool
stops_time Deadlock delayed.NoBound all_ended = not all_ended
stops_time Horizon delayed.AtHorizon all_ended = true
stops_time (Overflow None) delayed.Unfit all_ended = true
stops_time stop told all_ended = false

-- ---- invisible steps up to the limit

-- the invisible steps of a stretch: all but a log behind them
abbrev pub invisible_steps : StretchEnd → ℕ → ℕ
invisible_steps (ends.Logged v) n = n - 1
invisible_steps ends.Waits n = n
invisible_steps ends.Ended n = n
invisible_steps ends.Unfit n = n
invisible_steps ends.Spent n = n

-- Process p took so many invisible steps from q, at most as many as there is room for, and where they are fewer it has none
-- left. What it did behind them, if anything, concerns no other process.
pub record Spends (t : Task) (p room : ℕ) (c : Configuration) (q : ProcessState) (new : Walk) (m : ℕ) : Type 0 where
  pub within : m ≤ room
  pub to : ProcessState
  pub strolls : Strolls t c.clock p m q to
  pub no_more : m < room → (x : ProcessState) → silent t.seed p c.clock to ≡ Did None x → ⊥
  pub behind : ProcessState
  pub at : IsAt t.system new (replaced c p behind)

-- so it is with all processes
pub record AllSpend (t : Task) (room : ℕ) (c : Configuration) (m : ℕ) : Type 0 where
  pub within : m ≤ room
  pub to : Configuration
  pub advances : Advances everyone t m c to
  pub no_more : m < room → AreHalted everyone t to
