-- What holds of delays, of all that a run reaches, of turns, and of the numbers of a run.
use Rattle.std.specs.Prelude.{◌≡◌, ◌≢◌, ◌<◌, ◌≤◌, ℕ, ◌+◌, ◌-◌, Bool, true, List, [], ◌∷◌, ◌++◌, map, length, IsTrue, slice_get, slice_set, Option, Some, None, ◌⊎◌}
use Rattle.std.specs.List.{list_all}
use Rattle.hc_rational.specs.Words.{Rational, zero_ℚ, ◌+ℚ◌, ◌≤ℚ◌, fits}
use Rattle.hc_term.specs.declared.stmt.Stmt.{Stmt, out-Stmt}
use Rattle.hc_term.specs.declared.stmt.Stmt.TheOpen.{Stmt-F}
use Rattle.hc_term.specs.declared.task.Task.{Task}
use Rattle.hc_term.specs.declared.run.Item.{Item}
use Rattle.hc_term.specs.declared.run.Stop.{Stop}
use Rattle.hc_term.specs.declared.model.ProcessState.{ProcessState}
use Rattle.hc_term.specs.declared.model.Meeting.{Meeting}
use Rattle.hc_term.specs.declared.model.Configuration.{Configuration}
use Rattle.hc_term.specs.Process.{Layer, bound}
use Rattle.hc_term.specs.Offers.{post}
use Rattle.hc_term.specs.Communication.{sent, received, moved}
use Rattle.hc_term.specs.Posts.{Passing, NoBound, AtHorizon, Took, sent_on, receives_on, delay_fits}
use Rattle.hc_term.specs.Step.{opening, posts, ready, rests, passing, met, delayed, Leads, IsRun}
use Rattle.hc_term.specs.Stop.{IsBehaviour}
use Rattle.hc_term.specs.Canonical.{wanting_from, canonical}
use Rattle.hc_term.specs.Event.{Event, event}
use Rattle.hc_term.specs.Profile.{is_evolution, ios_in}
use Rattle.hc_term.specs.Rules.{is_stmt}
use Rattle.hc_term.specs.Moved.{IsWithin, moved_post, fired}
use Rattle.hc_term.specs.Together.{is_within, ArePaired}
use Rattle.hc_runs.specs.Turns.{WantsAt, IsLeast, IsAble, event_behind, Turns, LeastTurns, completed}
use Rattle.hc_runs.specs.Fractions.{task_numbers, has_fractions, is_item_fraction}

-- whether a statement of a process with n variables keeps the profile, if it evolves
abbrev pub in_profile : ℕ → Layer → Bool
in_profile n (Stmt-F.Evolve rates domain branches) = is_evolution n rates domain (ios_in branches)
in_profile n _ = true

abbrev pub heads_in_profile : ℕ → List Stmt → Bool
heads_in_profile n [] = true
heads_in_profile n (head ∷ rest) = in_profile n (out-Stmt head)

-- whether the evolution at which a process may stand keeps the profile
abbrev pub keeps_profile : ProcessState → Bool
keeps_profile q = heads_in_profile (length q.store) q.todo

-- After a delay that is at most its bound, a process shows what it showed before, moved.
abbrev pub PostsMove : Type 0
PostsMove =
    (clock d : Rational) (q : ProcessState) → IsTrue (keeps_profile q) → zero_ℚ ≤ℚ d → IsWithin d (bound q) →
    post (clock +ℚ d) (moved d q) ≡ moved_post d (post clock q)

-- The delay that a configuration takes is at least 0 and at most the bound of each process, so that all posts move.
abbrev pub AllPostsMove : Type 0
AllPostsMove =
    (t : Task) (c : Configuration) (d : Rational) → IsTrue (list_all keeps_profile c.processes) → passing t c ≡ Some (Took d) →
    (zero_ℚ ≤ℚ d) × IsTrue (list_all (λ p. is_within d p.bound) (posts c)) × (posts (delayed d c) ≡ map (moved_post d) (posts c))

-- time does nothing more: nothing waits for it, or the horizon is reached
abbrev pub IsOver : Option Passing → Type 0
IsOver o = (o ≡ Some NoBound) ⊎ (o ≡ Some AtHorizon)

-- A delay lasts to the least bound or to the horizon: where no process wants a silent step after it, there is no other delay.
abbrev pub DelaysEnd : Type 0
DelaysEnd =
    (t : Task) (c : Configuration) (d : Rational) → IsTrue (list_all keeps_profile c.processes) → passing t c ≡ Some (Took d) →
    IsTrue (rests (delayed d c).processes) → IsOver (passing t (delayed d c))

-- The working values of the delay that a configuration takes fit.
abbrev pub DelayFits : Type 0
DelayFits = (t : Task) (c : Configuration) (d : Rational) → passing t c ≡ Some (Took d) → IsTrue (delay_fits d c.clock (posts c))

-- ---- meetings

-- After a meeting the two that met show what their new states show, and all others what they showed.
abbrev pub PostsMeet : Type 0
PostsMeet =
    (c : Configuration) (m : Meeting) (sender receiver : ProcessState) → m.sender ≢ m.receiver →
    slice_get c.processes m.sender ≡ Some sender → slice_get c.processes m.receiver ≡ Some receiver →
    let after_sending = post c.clock (sent m.channel sender) in
    let after_receiving = post c.clock (received m.channel m.value receiver) in
    posts (met m c) ≡ slice_set (slice_set (fired m (posts c)) m.sender after_sending) m.receiver after_receiving

-- ---- runs from the opening

-- whether all that a process still has to do keeps the rules, in a system with so many channels
abbrev pub is_ruled : ℕ → ProcessState → Bool
is_ruled channels q = list_all (is_stmt channels (length q.store)) q.todo

-- in what a run reaches, each process keeps the rules, and so the evolution at which it may stand the profile
abbrev pub RunsKeepRules : Type 0
RunsKeepRules =
    (t : Task) (items : List Item) (c : Configuration) → Leads t (opening t) items c →
    IsTrue (list_all (is_ruled (length t.system.channels)) c.processes) × IsTrue (list_all keeps_profile c.processes)

-- at the opening the first process wants a silent step
abbrev pub OpeningGoesOn : Type 0
OpeningGoesOn = (t : Task) → wanting_from 0 (opening t).processes ≡ Some 0

-- an event of what a run reaches that sets no stop leaves a process that wants a silent step
abbrev pub EventsGoOn : Type 0
EventsGoOn =
    (room : ℕ) (t : Task) (items : List Item) (p : ℕ) (c : Configuration) (q : ProcessState) → Leads t (opening t) items c →
    slice_get c.processes p ≡ Some q → let e = event room t p c in
    e.stop ≡ None → (next : ℕ) × (wanting_from 0 e.end.processes ≡ Some next)

-- in what a run reaches, no channel is offered twice in one direction, nor in both by one process, and no bound is less than 0
abbrev pub PostsArePaired : Type 0
PostsArePaired =
    (t : Task) (items : List Item) (c : Configuration) → Leads t (opening t) items c → ArePaired (length t.system.channels) (posts c)

-- the meeting joins two processes, of which one offers to send the value on the channel and the other to receive there
pub record Joins (m : Meeting) (c : Configuration) : Type 0 where
  pub sender : ProcessState
  pub receiver : ProcessState
  pub differ : m.sender ≢ m.receiver
  pub sender_is : slice_get c.processes m.sender ≡ Some sender
  pub receiver_is : slice_get c.processes m.receiver ≡ Some receiver
  pub sends : sent_on m.channel (post c.clock sender).offers ≡ Some m.value
  pub receives : receives_on m.channel (post c.clock receiver).offers ≡ true

-- in what a run reaches, the meeting on the ready channel joins two processes
abbrev pub ReadyJoins : Type 0
ReadyJoins =
    (t : Task) (items : List Item) (c : Configuration) (m : Meeting) → Leads t (opening t) items c → ready t c ≡ Some m →
    (m.channel < length t.system.channels) × Joins m c

-- ---- turns

-- where some process wants a silent step, one of them is the least
abbrev pub AbleHasLeast : Type 0
AbleHasLeast = (c : Configuration) → IsAble c → (p : ℕ) × IsLeast p c

-- and the least that wants one does want it
abbrev pub LeastWants : Type 0
LeastWants = (c : Configuration) (p : ℕ) → IsLeast p c → WantsAt p c

-- turns are a run, which ends where they do
abbrev pub TurnsAreRun : Type 0
TurnsAreRun =
    (t : Task) (n : ℕ) (items : List Item) (end : Configuration) (stop : Option Stop) →
    Turns t n items end stop → IsRun t items end

-- the stop that the last turn set holds there
abbrev pub TurnsStop : Type 0
TurnsStop =
    (t : Task) (n : ℕ) (items : List Item) (end : Configuration) (stop : Stop) →
    Turns t n items end (Some stop) → IsBehaviour t items end stop

-- no channel is ready, some process wants a silent step, and these items leave room for one
pub record GoesOn (t : Task) (items : List Item) (c : Configuration) : Type 0 where
  pub quiet : ready t c ≡ None
  pub able : (p : ℕ) × IsLeast p c
  pub room : length items < t.limit

-- where the last turn set no stop, there may be one more
abbrev pub TurnsGoOn : Type 0
TurnsGoOn =
    (t : Task) (n : ℕ) (items : List Item) (end : Configuration) → Turns t n items end None → GoesOn t items end

-- what a run keeps
pub record Keeps (t : Task) (c : Configuration) : Type 0 where
  pub ruled : IsTrue (list_all (is_ruled (length t.system.channels)) c.processes)
  pub in_profile : IsTrue (list_all keeps_profile c.processes)
  pub paired : ArePaired (length t.system.channels) (posts c)
  pub in_time : c.clock ≤ℚ t.horizon
  pub fractions : IsTrue (task_numbers t) →
      IsTrue (fits c.clock) × IsTrue (list_all (has_fractions c.clock) c.processes)

-- turns keep it
abbrev pub TurnsKeep : Type 0
TurnsKeep =
    (t : Task) (n : ℕ) (items : List Item) (end : Configuration) (stop : Option Stop) →
    Turns t n items end stop → Keeps t end

-- a turn that sets no stop has an item at least
abbrev pub TurnsAreVisible : Type 0
TurnsAreVisible =
    (room : ℕ) (t : Task) (p : ℕ) (c : Configuration) → WantsAt p c →
    let e = event room t p c in e.stop ≡ None → 0 < length e.items

-- and so leaves less room than there was
abbrev pub TurnsEnd : Type 0
TurnsEnd =
    (t : Task) (items : List Item) (p : ℕ) (c : Configuration) → WantsAt p c →
    let e = event_behind items t p c in
    e.stop ≡ None → t.limit - length (items ++ e.items) < t.limit - length items

-- There are no more turns than items, but for one that sets the stop, and no more than the limit; where there is an
-- item or a stop, there was a turn.
pub record AreFew (t : Task) (n : ℕ) (items : List Item) (stop : Option Stop) : Type 0 where
  pub going : stop ≡ None → n ≤ length items
  pub in_all : n ≤ length items + 1
  pub within : n ≤ t.limit
  pub begun : (0 < length items) ⊎ (stop ≢ None) → 0 < n

abbrev pub TurnsAreFew : Type 0
TurnsAreFew =
    (t : Task) (n : ℕ) (items : List Item) (end : Configuration) (stop : Option Stop) →
    Turns t n items end stop → AreFew t n items stop

-- ---- turns of the least process

-- the least process wants its step, so these are turns
abbrev pub LeastTurnsAreTurns : Type 0
LeastTurnsAreTurns =
    (t : Task) (n : ℕ) (items : List Item) (end : Configuration) (stop : Option Stop) →
    LeastTurns t n items end stop → Turns t n items end stop

-- the event goes on as the canonical steps from c do, to which these items led, or ends where they end
pub record Advances (t : Task) (items : List Item) (c : Configuration) (e : Event) : Type 0 where
  pub going : e.stop ≡ None → completed t items c ≡ completed t (items ++ e.items) e.end
  pub stopped : (stop : Stop) → e.stop ≡ Some stop →
      completed t items c ≡ record { items = items ++ e.items; end = e.end; stop = stop }

-- so does a turn of the least process, whoever had turns before it
abbrev pub LeastTurnAdvances : Type 0
LeastTurnAdvances =
    (t : Task) (n : ℕ) (items : List Item) (p : ℕ) (c : Configuration) → Turns t n items c None → IsLeast p c →
    Advances t items c (event_behind items t p c)

-- where the least process has each turn, the canonical run begins with them
abbrev pub LeastTurnsBegin : Type 0
LeastTurnsBegin =
    (t : Task) (n : ℕ) (items : List Item) (end : Configuration) →
    LeastTurns t n items end None → canonical t ≡ completed t items end

-- and with a stop they are the canonical run
abbrev pub LeastTurnsAreCanonical : Type 0
LeastTurnsAreCanonical =
    (t : Task) (n : ℕ) (items : List Item) (end : Configuration) (stop : Stop) →
    LeastTurns t n items end (Some stop) → canonical t ≡ record { items = items; end = end; stop = stop }

-- ---- fractions

-- where the numbers of a task are fractions, so are the clock and all numbers of what a run reaches
abbrev pub RunsKeepFractions : Type 0
RunsKeepFractions =
    (t : Task) (items : List Item) (c : Configuration) → IsTrue (task_numbers t) → Leads t (opening t) items c →
    IsTrue (fits c.clock) × IsTrue (list_all (has_fractions c.clock) c.processes)

-- and so are all numbers in the items of the run
abbrev pub ItemsAreFractions : Type 0
ItemsAreFractions =
    (t : Task) (items : List Item) (c : Configuration) → IsTrue (task_numbers t) → Leads t (opening t) items c → IsTrue (list_all is_item_fraction items)
