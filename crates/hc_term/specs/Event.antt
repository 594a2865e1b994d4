-- One event of the program that runs on threads: what one process does, and what follows from it.
use Rattle.std.specs.Prelude.{◌≡◌, ◌<◌, ℕ, zero, suc, ◌-◌, min, if◌then◌else◌, List, [], ◌∷◌, ◌++◌, length, slice_get, Option, Some, None, ◌⊎◌}
use Rattle.hc_limits.specs.Limits.{most_silent_steps}
use Rattle.hc_rational.specs.Words.{Rational}
use Rattle.hc_term.specs.declared.task.Task.{Task}
use Rattle.hc_term.specs.declared.run.Step.TheVariants.{Silent, Comm, Delay}
use Rattle.hc_term.specs.declared.run.Item.{Item}
use Rattle.hc_term.specs.declared.run.Stop.{Stop}
use Rattle.hc_term.specs.declared.run.Stop.TheVariants.{Horizon, Limit, Overflow}
use Rattle.hc_term.specs.declared.run.StretchEnd.{StretchEnd}
use Rattle.hc_term.specs.declared.run.StretchEnd.TheVariants as ends
use Rattle.hc_term.specs.declared.model.ProcessState.{ProcessState}
use Rattle.hc_term.specs.declared.model.Meeting.{Meeting}
use Rattle.hc_term.specs.declared.model.Configuration.{Configuration}
use Rattle.hc_term.specs.Process.{is_done}
use Rattle.hc_term.specs.Silent.{Outcome, Idle, Unfit, Did, silent}
use Rattle.hc_term.specs.Posts.{Passing, NoBound, AtHorizon, Overflows, Took}
use Rattle.hc_term.specs.Step.{ready, passing, replaced, met, delayed}
use Rattle.hc_term.specs.Stop.{StopsAt}
use Rattle.hc_term.specs.Canonical.{ended_by}

-- ---- a stretch of silent steps of one process

-- the steps with what each logged, the process after them, and why they ended
pub record Progress : Type 0 where
  pub logs : List (Option Rational)
  pub next : ProcessState
  pub end : StretchEnd

abbrev pub stopped : ProcessState → StretchEnd → Progress
stopped q end = record { logs = []; next = q; end = end }

abbrev pub idle_end : ProcessState → StretchEnd
idle_end q = if is_done q.todo then ends.Ended else ends.Waits

abbrev pub with_silent : Progress → Progress
with_silent g = record g { logs = None ∷ g.logs }

abbrev pub progress_by : ProcessState → (ProcessState → Progress) → Outcome → Progress
progress_by q later Idle = stopped q (idle_end q)
progress_by q later Unfit = stopped q ends.Unfit
progress_by q later (Did (Some v) next) = record { logs = Some v ∷ []; next = next; end = ends.Logged v }
progress_by q later (Did None next) = with_silent (later next)

abbrev pub spent_by : ProcessState → Outcome → Progress
spent_by q Idle = stopped q (idle_end q)
spent_by q Unfit = stopped q ends.Unfit
spent_by q (Did logged next) = stopped q ends.Spent

-- at most n silent steps, up to a log
abbrev pub progress : ℕ → ℕ → ℕ → Rational → ProcessState → Progress
progress zero seed p clock q = spent_by q (silent seed p clock q)
progress (suc n) seed p clock q = progress_by q (progress n seed p clock) (silent seed p clock q)

-- ---- the event

pub record Event : Type 0 where
  pub items : List Item
  pub end : Configuration
  pub stop : Option Stop

abbrev pub still : Configuration → Option Stop → Event
still c stop = record { items = []; end = c; stop = stop }

abbrev pub event_after : List Item → Event → Event
event_after before e = record e { items = before ++ e.items }

abbrev pub stop_of_passing : Configuration → Option Passing → Option Stop
stop_of_passing c (Some NoBound) = Some (ended_by c)
stop_of_passing c (Some AtHorizon) = Some Horizon
stop_of_passing c (Some Overflows) = None
stop_of_passing c (Some (Took d)) = None
stop_of_passing c None = None

-- after the delay, where so many steps are left to the limit
abbrev pub stop_after : ℕ → Task → Configuration → Option Stop
stop_after zero t c = Some Limit
stop_after (suc n) t c = stop_of_passing c (passing t c)

abbrev pub last_part_by : ℕ → Task → Configuration → Option Passing → Event
last_part_by n t c (Some (Took d)) = record {
  items = record { at = c.clock; step = Delay d } ∷ [];
  end = delayed d c;
  stop = stop_after n t (delayed d c);
}
last_part_by n t c (Some Overflows) = still c (Some (Overflow None))
last_part_by n t c (Some NoBound) = still c (stop_of_passing c (Some NoBound))
last_part_by n t c (Some AtHorizon) = still c (stop_of_passing c (Some AtHorizon))
last_part_by n t c None = still c None

abbrev pub meetings_by : Configuration → (Configuration → Event) → Event → Option Meeting → Event
meetings_by c later last None = last
meetings_by c later last (Some m) = event_after (record { at = c.clock; step = Comm m.channel m.value } ∷ []) (later (met m c))

-- the communications, least channel first, and then the delay, where so many steps are left
abbrev pub meetings : ℕ → Task → Configuration → Event
meetings zero t c = still c (Some Limit)
meetings (suc n) t c = meetings_by c (meetings n t) (last_part_by n t c (passing t c)) (ready t c)

abbrev pub second_part : ℕ → Task → ℕ → Configuration → StretchEnd → Event
second_part zero t p c end = still c (Some Limit)
second_part (suc n) t p c ends.Unfit = still c (Some (Overflow (Some p)))
second_part (suc n) t p c (ends.Logged v) = meetings (suc n) t c
second_part (suc n) t p c ends.Waits = meetings (suc n) t c
second_part (suc n) t p c ends.Ended = meetings (suc n) t c
second_part (suc n) t p c ends.Spent = meetings (suc n) t c

abbrev pub silent_items : Rational → ℕ → List (Option Rational) → List Item
silent_items clock p [] = []
silent_items clock p (l ∷ ls) = record { at = clock; step = Silent p l } ∷ silent_items clock p ls

abbrev pub event_by : ℕ → Task → ℕ → Configuration → Progress → Event
event_by room t p c g =
    event_after (silent_items c.clock p g.logs) (second_part (room - length g.logs) t p (replaced c p g.next) g.end)

abbrev pub event_of : ℕ → Task → ℕ → Configuration → Option ProcessState → Event
event_of room t p c (Some q) = event_by room t p c (progress (min most_silent_steps room) t.seed p c.clock q)
event_of room t p c None = still c None

-- what process p does next, and what follows, where so many steps are left to the limit
abbrev pub event : ℕ → Task → ℕ → Configuration → Event
event room t p c = event_of room t p c (slice_get c.processes p)

-- how a list of n steps ends, where there is room for so many
abbrev pub EndsWell : Task → ℕ → ℕ → Configuration → Option Stop → Type 0
EndsWell t room n end None = n < room
EndsWell t room n end (Some stop) = ((n ≡ room) × (stop ≡ Limit)) ⊎ ((n < room) × StopsAt t end stop)
