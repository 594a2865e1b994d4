-- What holds of every task.
use Rattle.std.specs.Prelude.{◌≡◌, ◌≢◌, ◌<◌, ◌≤◌, ℕ, ◌-◌, List, ◌++◌, length, IsTrue, slice_get, Option, Some, None, ◌⊎◌}
use Rattle.hc_rational.specs.Words.{Rational, ◌≤ℚ◌}
use Rattle.hc_term.specs.declared.expr.Expr.{Expr}
use Rattle.hc_term.specs.declared.expr.Cond.{Cond}
use Rattle.hc_term.specs.declared.task.Task.{Task}
use Rattle.hc_term.specs.declared.run.Step.{Step}
use Rattle.hc_term.specs.declared.run.Step.TheVariants.{Silent, Comm}
use Rattle.hc_term.specs.declared.run.Item.{Item}
use Rattle.hc_term.specs.declared.run.Stop.{Stop}
use Rattle.hc_term.specs.declared.run.Stop.TheVariants.{Horizon}
use Rattle.hc_term.specs.declared.model.ProcessState.{ProcessState}
use Rattle.hc_term.specs.declared.model.Meeting.{Meeting}
use Rattle.hc_term.specs.declared.model.Configuration.{Configuration}
use Rattle.hc_term.specs.Value.{Store, is_defined, is_defined_test}
use Rattle.hc_term.specs.Motion.{Rates, form}
use Rattle.hc_term.specs.EndMoment.{is_domain}
use Rattle.hc_term.specs.Posts.{Took}
use Rattle.hc_term.specs.Step.{opening, ready, passing, delayed, Meets, StepTo, IsRun, Leads}
use Rattle.hc_term.specs.Stop.{StopsAt, IsBehaviour}
use Rattle.hc_term.specs.Canonical.{canonical, course, wanting_from}
use Rattle.hc_term.specs.Ends.{ends_of}
use Rattle.hc_term.specs.Event.{Event, event, EndsWell}

-- ---- any configuration

-- the canonical run is a run with one of its stops
abbrev pub CanonicalIsBehaviour : Type 0
CanonicalIsBehaviour = (t : Task) → IsBehaviour t (canonical t).items (canonical t).end (canonical t).stop

-- short of the limit there is a step or a stop
abbrev pub GoesOnOrStops : Type 0
GoesOnOrStops =
    (t : Task) (c : Configuration) → ((step : Step) × (next : Configuration) × StepTo t c step next) ⊎ ((stop : Stop) × StopsAt t c stop)

-- silent steps of two processes may be taken in either order
abbrev pub SilentStepsCommute : Type 0
SilentStepsCommute =
    (t : Task) (c one two : Configuration) (p q : ℕ) (logged_p logged_q : Option Rational) → p ≢ q →
    StepTo t c (Silent p logged_p) one → StepTo t c (Silent q logged_q) two →
    (both : Configuration) × StepTo t one (Silent q logged_q) both × StepTo t two (Silent p logged_p) both

-- a silent step and a communication that are both possible may be taken in either order
abbrev pub SilentAndCommCommute : Type 0
SilentAndCommCommute =
    (t : Task) (c one two : Configuration) (p channel : ℕ) (logged : Option Rational) (value : Rational) →
    StepTo t c (Silent p logged) one → StepTo t c (Comm channel value) two →
    (both : Configuration) × StepTo t one (Comm channel value) both × StepTo t two (Silent p logged) both

-- a delay makes no channel ready
abbrev pub DelaysKeepQuiet : Type 0
DelaysKeepQuiet = (t : Task) (c : Configuration) (d : Rational) → passing t c ≡ Some (Took d) → ready t (delayed d c) ≡ None

-- an event is a piece of a run, and the stop that it sets holds at its end
abbrev pub EventIsRun : Type 0
EventIsRun =
    (room : ℕ) (t : Task) (p : ℕ) (c : Configuration) (q : ProcessState) → slice_get c.processes p ≡ Some q →
    let e = event room t p c in Leads t c e.items e.end × (length e.items ≤ room) × EndsWell t room (length e.items) e.end e.stop

-- ---- runs from the opening

-- each run can be led on to a behaviour
abbrev pub RunIsPrefix : Type 0
RunIsPrefix =
    (t : Task) (items : List Item) (end : Configuration) → IsRun t items end →
    (more : List Item) × (last : Configuration) × (stop : Stop) × IsBehaviour t (items ++ more) last stop

-- in what a run reaches, the clock is at the horizon at most
abbrev pub ClockKeepsHorizon : Type 0
ClockKeepsHorizon = (t : Task) (items : List Item) (c : Configuration) → Leads t (opening t) items c → c.clock ≤ℚ t.horizon

-- where a run stops at the horizon, the clock has reached it
abbrev pub HorizonIsReached : Type 0
HorizonIsReached =
    (t : Task) (items : List Item) (c : Configuration) → Leads t (opening t) items c → StopsAt t c Horizon → c.clock ≡ t.horizon

-- in what a run reaches, a communication joins two processes
abbrev pub MeetingsJoinTwo : Type 0
MeetingsJoinTwo =
    (t : Task) (items : List Item) (c : Configuration) (m : Meeting) → Leads t (opening t) items c →
    m.channel < length t.system.channels → Meets m c → m.sender ≢ m.receiver

-- and each channel has one meeting at most
abbrev pub MeetingsAreUnique : Type 0
MeetingsAreUnique =
    (t : Task) (items : List Item) (c : Configuration) (m n : Meeting) → Leads t (opening t) items c →
    m.channel < length t.system.channels → m.channel ≡ n.channel → Meets m c → Meets n c → m ≡ n

-- and its ends are the two processes that meet on it, by which the text of a run names them
abbrev pub MeetingsJoinEnds : Type 0
MeetingsJoinEnds =
    (t : Task) (items : List Item) (c : Configuration) (m : Meeting) → Leads t (opening t) items c →
    m.channel < length t.system.channels → Meets m c →
    ends_of t.system m.channel ≡ record { sender = Some m.sender; receiver = Some m.receiver }

-- ---- events and the canonical run

-- no channel is ready at the opening
abbrev pub OpeningIsQuiet : Type 0
OpeningIsQuiet = (t : Task) → ready t (opening t) ≡ None

-- an event that sets no stop leaves no channel ready
abbrev pub EventsEndQuiet : Type 0
EventsEndQuiet =
    (room : ℕ) (t : Task) (p : ℕ) (c : Configuration) (q : ProcessState) → slice_get c.processes p ≡ Some q →
    let e = event room t p c in e.stop ≡ None → ready t e.end ≡ None

-- the canonical steps from c are those of the event, and what follows them where it sets no stop
pub record BeginsWith (room : ℕ) (t : Task) (c : Configuration) (e : Event) : Type 0 where
  pub stopped : (stop : Stop) → e.stop ≡ Some stop → course room t c ≡ record { items = e.items; end = e.end; stop = stop }
  pub going : e.stop ≡ None → let k = course (room - length e.items) t e.end in course room t c ≡ record k { items = e.items ++ k.items }

-- where no channel is ready, the canonical steps begin with the event of the least process that wants a silent step
abbrev pub CanonicalByEvents : Type 0
CanonicalByEvents =
    (room : ℕ) (t : Task) (p : ℕ) (c : Configuration) → ready t c ≡ None → wanting_from 0 c.processes ≡ Some p →
    BeginsWith room t c (event room t p c)

-- ---- expressions

-- an expression whose divisors are numbers other than 0 divides by 0 in no store
abbrev pub AffineIsDefined : Type 0
AffineIsDefined = (s : Store) (r : Rates) (e : Expr) → IsTrue (form r e).affine → IsTrue (is_defined s e)

-- so does a condition
abbrev pub DomainIsDefined : Type 0
DomainIsDefined = (s : Store) (r : Rates) (c : Cond) → IsTrue (is_domain r c) → IsTrue (is_defined_test s c)
