-- Turns: one after the other, a process that wants a silent step has its event.
use Rattle.std.specs.Prelude.{◌≡◌, ℕ, ◌+◌, ◌-◌, true, List, [], ◌++◌, length, slice_get, Option, Some, None}
use Rattle.hc_term.specs.declared.task.Task.{Task}
use Rattle.hc_term.specs.declared.run.Item.{Item}
use Rattle.hc_term.specs.declared.run.Stop.{Stop}
use Rattle.hc_term.specs.declared.model.ProcessState.{ProcessState}
use Rattle.hc_term.specs.declared.model.Configuration.{Configuration}
use Rattle.hc_term.specs.Process.{wants}
use Rattle.hc_term.specs.Step.{opening}
use Rattle.hc_term.specs.Canonical.{wanting_from, Course, course}
use Rattle.hc_term.specs.Event.{Event, event}

-- process number p wants a silent step
abbrev pub WantsAt : ℕ → Configuration → Type 0
WantsAt p c = (q : ProcessState) × (slice_get c.processes p ≡ Some q) × (wants q ≡ true)

-- it is the least process that wants one
abbrev pub IsLeast : ℕ → Configuration → Type 0
IsLeast p c = wanting_from 0 c.processes ≡ Some p

-- some process wants one
abbrev pub IsAble : Configuration → Type 0
IsAble c = (p : ℕ) × WantsAt p c

-- the event of process p in c, to which these items led: it has the room that they leave
abbrev pub event_behind : List Item → Task → ℕ → Configuration → Event
event_behind items t p c = event (t.limit - length items) t p c

-- So many turns lead from the opening by these items to this configuration, and may have set this stop.
-- Each is an event of a process that may have the turn; none follows a stop.
pub data TurnsOf (MayTurn : ℕ → Configuration → Type 0) (t : Task)
    : ℕ → List Item → Configuration → Option Stop → Type 0 where
  no_turn : TurnsOf MayTurn t 0 [] (opening t) None
  one_more : (n : ℕ) (items : List Item) (c : Configuration) (p : ℕ)
      → TurnsOf MayTurn t n items c None → MayTurn p c
      → TurnsOf MayTurn t (n + 1)
      (items ++ (event_behind items t p c).items)
      (event_behind items t p c).end
      (event_behind items t p c).stop

-- turns of any processes that want a silent step
abbrev pub Turns : Task → ℕ → List Item → Configuration → Option Stop → Type 0
Turns = TurnsOf WantsAt

-- each turn is that of the least process that wants one
abbrev pub LeastTurns : Task → ℕ → List Item → Configuration → Option Stop → Type 0
LeastTurns = TurnsOf IsLeast

-- these items, and behind them the canonical steps from c, to which they led
abbrev pub completed : Task → List Item → Configuration → Course
completed t items c = let k = course (t.limit - length items) t c in record k { items = items ++ k.items }
