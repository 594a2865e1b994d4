-- What a joint keeps at every moment at which one is held.
use Rattle.std.specs.Prelude.{◌≡◌, ◌≤◌, ◌+◌, ◌++◌, ℕ, List, [], Bool, true, false, Option, Some, None}
use Rattle.hc_rational.specs.Words.{Rational, zero_ℚ}
use Rattle.hc_term.specs.declared.task.Task.{Task}
use Rattle.hc_term.specs.declared.run.Item.{Item}
use Rattle.hc_term.specs.declared.run.Stop.{Stop}
use Rattle.hc_term.specs.declared.model.Configuration.{Configuration}
use Rattle.hc_term.specs.Step.{opening, Leads, IsRun}
use Rattle.hc_term.specs.Stop.{IsBehaviour}
use Rattle.hc_term.specs.Canonical.{Course}
use Rattle.hc_term.specs.Event.{Event}
use Rattle.hc_runs.specs.Turns.{IsLeast, event_behind, Turns, completed}
use Rattle.hc_runs.specs.Laws.{GoesOn}
use Rattle.hc_joint.specs.declared.scene.Scene.{Scene}
use Rattle.hc_joint.specs.Seen.{Seen}
use Rattle.hc_joint.specs.Stands.{IsAt}

-- ---- inside

-- The locals, the board and the clock stand for the configuration to which the history leads; the history is made of so
-- many turns, each an event of a process that wanted a silent step, and the stop is that of the last.
pub record IsMade (s : Scene) (stop : Option Stop) (turns recomputed : ℕ) : Type 0 where
  pub reached : Configuration
  pub at : IsAt s reached
  pub turned : Turns s.task turns s.history.items reached stop
  pub compared : recomputed ≤ turns

-- ---- seen from outside

abbrev pub seen : Task → Rational → List Item → Option Stop → ℕ → ℕ → Seen
seen task clock history stop turns recomputed =
    record { task = task; clock = clock; history = history; stop = stop; turns = turns; recomputed = recomputed }

-- the history leads to the configuration c, at its clock
pub record IsReached (s : Seen) (c : Configuration) : Type 0 where
  pub leads : Leads s.task (opening s.task) s.history c
  pub clock : s.clock ≡ c.clock

-- what every joint keeps
pub record Keeps (s : Seen) : Type 0 where
  -- the configuration to which the history leads, and no other
  pub reached : Configuration
  pub is_reached : IsReached s reached
  pub only : (c : Configuration) → Leads s.task (opening s.task) s.history c → c ≡ reached
  -- the history is a run
  pub is_run : IsRun s.task s.history reached
  -- it is made of exactly so many events, one after the other, each of a process that wanted a silent step; none before
  -- the last sets a stop
  pub turned : Turns s.task s.turns s.history reached s.stop
  pub compared : s.recomputed ≤ s.turns
  -- a stop that stands is set by the last event, and holds
  pub stops : (stop : Stop) → s.stop ≡ Some stop → IsBehaviour s.task s.history reached stop
  -- where none stands no channel is ready, some process is able, and there is room
  pub goes_on : s.stop ≡ None → GoesOn s.task s.history reached

-- ---- what the calls do

-- a joint that has done nothing yet
abbrev pub opened : Task → Seen
opened t = seen t zero_ℚ [] None 0 0

-- one more turn: the event's items are behind the history, and its stop is set
abbrev pub turned : Seen → Event → Seen
turned s e = record s { clock = e.end.clock; history = s.history ++ e.items; stop = e.stop; turns = s.turns + 1 }

-- the least process had its event
pub record HasTurn (old new : Seen) : Type 0 where
  pub before : Configuration
  pub is_reached : IsReached old before
  pub process : ℕ
  pub least : IsLeast process before
  pub after : new ≡ turned old (event_behind old.history old.task process before)

-- where a stop stood nothing changes; else the least process has a turn
abbrev pub GoesForward : Option Stop → Seen → Seen → Bool → Type 0
GoesForward (Some stop) old new went = (went ≡ false) × (new ≡ old)
GoesForward None old new went = (went ≡ true) × HasTurn old new

-- the joint's history, clock and stop are those of this course
pub record HasCourse (s : Seen) (k : Course) : Type 0 where
  pub items : s.history ≡ k.items
  pub clock : s.clock ≡ k.end.clock
  pub stop : s.stop ≡ Some k.stop

-- the canonical steps are behind the history, up to their stop, where none stood before
abbrev pub IsFinished : Option Stop → Seen → Seen → Type 0
IsFinished (Some stop) old new = new ≡ old
IsFinished None old new = (c : Configuration) → IsReached old c → HasCourse new (completed old.task old.history c)
