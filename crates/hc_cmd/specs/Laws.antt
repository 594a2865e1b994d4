-- What holds of all texts.
use Rattle.std.specs.Prelude.{◌≡◌, ◌≤◌, ◌+◌, ◌↔◌, ℕ, suc, Bool, true, false, List, [], ◌∷◌, ◌++◌, length, take, drop, min, sum, slice_get, Option, Some, None, IsTrue}
use Rattle.hc_make.specs.Made.{made_text}
use Rattle.hc_check.specs.Accepted.{IsAccepted}
use Rattle.hc_rational.specs.Words.{Rational}
use Rattle.hc_term.specs.declared.run.Item.{Item}
use Rattle.hc_term.specs.declared.run.Stop.{Stop}
use Rattle.hc_term.specs.declared.model.Configuration.{Configuration}
use Rattle.hc_term.specs.declared.system.System.{System}
use Rattle.hc_term.specs.declared.task.Task.{Task}
use Rattle.hc_term.specs.Canonical.{canonical}
use Rattle.hc_term.specs.Given.{HasParts}
use Rattle.hc_term.specs.Stop.{IsBehaviour}
use Rattle.hc_term.specs.TraceText.{whole}
use Rattle.hc_runs.specs.Fractions.{task_numbers}
use Rattle.hc_runs.specs.Turns.{Turns}
use Rattle.hc_order.specs.Determinate.{is_determinate}
use Rattle.hc_order.specs.Laws.{IsSettled}
use Rattle.hc_det.specs.Text.{channels_text}
use Rattle.hc_cast.specs.declared.program.CProgram.{CProgram}
use Rattle.hc_cgrammar.specs.Text.{IsCText}
use Rattle.hc_schedule.specs.Schedule.{moves}
use Rattle.hc_schedule.specs.Sections as schedule
use Rattle.hc_schedule.specs.Sections.{Step, IsSafe}
use Rattle.hc_cmach.specs.declared.exec_end.ExecEnd.{ExecEnd}
use Rattle.hc_cmach.specs.declared.exec_end.ExecEnd.TheVariants.{Ended, UsedUp, Undefined}
use Rattle.hc_cmach.specs.declared.kind.Kind.{Kind}
use Rattle.hc_cmach.specs.declared.moved.Moved.TheVariants as said
use Rattle.hc_cmach.specs.Line.{Line, Ends, first_end}
use Rattle.hc_cmach.specs.Machine.{opening, scheduled, prints, step_said}
use Rattle.hc_cmach.specs.Seeded.{seeded}
use Rattle.hc_cmach.specs.Turn.{c_code}
use Rattle.hc_trace.specs.declared.traces.Trace.{Trace}
use Rattle.hc_trace.specs.Splitting.{IsFirstHeader}
use Rattle.hc_trace.specs.Traces.{IsTraceText}
use Rattle.hc_upgrade.specs.Upgraded.{upgraded_text}
use Rattle.hc_trace.specs.Written.{HasWords}
use Rattle.hc_verify.specs.Laws.{IsOfBehaviour}
use Rattle.hc_verify.specs.Texts.{IsFirstPart}
use Rattle.hc_words.specs.declared.requests.Request.{Request}
use Rattle.hc_words.specs.declared.requests.Request.TheVariants.{Check, Simulate, Channels, Convert, Verify, Make, Cexec}
use Rattle.hc_words.specs.declared.settings.ExecutionRequest.{ExecutionRequest}
use Rattle.hc_words.specs.declared.settings.Made.{Made}
use Rattle.hc_words.specs.declared.settings.RunRequest.{RunRequest}
use Rattle.hc_words.specs.declared.settings.Settings.{Settings}
use Rattle.hc_cmd.specs.Reply.{Reply}
use Rattle.hc_cmd.specs.Made.{IsMadeTask, line_of}
use Rattle.hc_cmd.specs.Sources.{OfSource, done}
use Rattle.hc_cmd.specs.Traced.{converted}
use Rattle.hc_cmd.specs.Executed.{status_by, end_text, moved_text}
use Rattle.hc_cmd.specs.Answers.{Answers, size_of, status_at}
use Rattle.hc_cmd.specs.Running.{Runs, report_for}

-- a text has at most one system
abbrev pub OneAcceptedSystem : Type 0
OneAcceptedSystem = (text : List ℕ) (s t : System) → IsAccepted text s → IsAccepted text t → s ≡ t

-- the request and the bytes of the text decide the reply; so no two rows of the table of statuses overlap
abbrev pub OneAnswer : Type 0
OneAnswer = (request : Request) (text : List ℕ) (r s : Reply) → Answers request text r → Answers request text s → r ≡ s

-- of an accepted text the size is told
abbrev pub AcceptedIsSized : Type 0
AcceptedIsSized =
    (text : List ℕ) (system : System) (reply : Reply) (accepted : IsAccepted text system) → Answers Check text reply →
    reply ≡ done (size_of accepted.flat system)

-- on output stands this text of a behaviour of the task, and the status is that of its stop
pub record TellsBehaviour (text : System → List Item → Rational → Stop → List ℕ) (task : Task) (reply : Reply) : Type 0 where
  pub items : List Item
  pub end : Configuration
  pub stop : Stop
  pub behaviour : IsBehaviour task items end stop
  pub out : reply.out ≡ text task.system items end.clock stop
  pub err : reply.err ≡ []
  pub status : reply.status ≡ status_at stop

-- The headline: what `simulate` writes of an accepted text is the whole text of a behaviour of its system, with the seed,
-- the horizon and the limit of the words, and the status is that of the behaviour's stop.
abbrev pub SimulationIsBehaviour : Type 0
SimulationIsBehaviour =
    (settings : Settings) (text : List ℕ) (system : System) (reply : Reply) → IsAccepted text system → Answers (Simulate settings) text reply →
    (task : Task) × HasParts system settings.seed settings.horizon settings.limit task × TellsBehaviour whole task reply

-- What `channels` writes of an accepted text is what such a behaviour hands over on each channel, with the status of its stop.
abbrev pub ListingIsBehaviour : Type 0
ListingIsBehaviour =
    (settings : Settings) (text : List ℕ) (system : System) (reply : Reply) → IsAccepted text system → Answers (Channels settings) text reply →
    (task : Task) × HasParts system settings.seed settings.horizon settings.limit task × TellsBehaviour channels_text task reply

-- in front of the first line that is a header stands an accepted text with this system, and from there on the text of this trace
pub record IsTracedSource (text : List ℕ) (system : System) (trace : Trace) : Type 0 where
  pub place : ℕ
  pub cut_at : IsFirstHeader text place
  pub accepted : IsAccepted (take place text) system
  pub traced : IsTraceText (drop place text) trace

-- What `convert` writes of an accepted text with a trace behind it is that trace made new.
abbrev pub ConversionIsNew : Type 0
ConversionIsNew =
    (text : List ℕ) (system : System) (trace : Trace) (reply : Reply) → IsTracedSource text system trace → Answers Convert text reply →
    reply ≡ converted (upgraded_text system trace)

-- the status is 0 exactly where the trace is one of a behaviour of the task, or without an end line a first part of one, and else 15
pub record IsVerdict (task : Task) (trace : Trace) (reply : Reply) : Type 0 where
  pub yes : (reply.status ≡ 0) ↔ IsOfBehaviour task trace
  pub no : (reply.status ≡ 15) ↔ ¬ (IsOfBehaviour task trace)

-- What `verify` tells of an accepted text with a trace behind it: whether the trace is one of a behaviour of the system, with the
-- seed, the horizon and the limit of the words.
abbrev pub VerifiedIsOfBehaviour : Type 0
VerifiedIsOfBehaviour =
    (settings : Settings) (text : List ℕ) (system : System) (trace : Trace) (reply : Reply) → IsTracedSource text system trace →
    Answers (Verify settings) text reply →
    (task : Task) × HasParts system settings.seed settings.horizon settings.limit task × IsVerdict task trace reply

-- Where names are words and numbers fractions, as the types of a system and of a task say, its status is 0 exactly where what
-- stands behind the source is a first part of the text of a behaviour, in its version.
abbrev pub VerifiedIsFirstPart : Type 0
VerifiedIsFirstPart =
    (settings : Settings) (text : List ℕ) (system : System) (trace : Trace) (reply : Reply) (is : IsTracedSource text system trace) →
    Answers (Verify settings) text reply → HasWords system →
    (task : Task) × HasParts system settings.seed settings.horizon settings.limit task
    × (IsTrue (task_numbers task) → ((reply.status ≡ 0) ↔ IsFirstPart task trace.version (drop is.place text)))

-- on output stands the line that tells of a behaviour of the task
pub record CountsBehaviour (pairs : ℕ) (task : Task) (reply : Reply) : Type 0 where
  pub items : List Item
  pub end : Configuration
  pub stop : Stop
  pub behaviour : IsBehaviour task items end stop
  pub says : reply ≡ done (line_of pairs items stop)

-- What `make` tells, where the made source is accepted, is counted in a behaviour of its task.
abbrev pub MadeIsBehaviour : Type 0
MadeIsBehaviour =
    (made : Made) (text : List ℕ) (system : System) (reply : Reply) → IsAccepted (made_text made.pairs made.seed) system → Answers (Make made) text reply →
    (task : Task) × IsMadeTask system task × CountsBehaviour made.pairs task reply

-- the text of a behaviour that is asked for: its whole trace, or what it hands over on each channel
abbrev pub text_asked : Bool → System → List Item → Rational → Stop → List ℕ
text_asked false = whole
text_asked true = channels_text

-- On output stands the text of a behaviour of the task that is asked for, and the status is that of its stop. On error stand, where
-- they are asked for, the numbers of its events: there is one for each worker that counts, and with the caller's they add up to the events
-- of which the behaviour is made.
pub record RunsBehaviour (asked : RunRequest) (task : Task) (reply : Reply) : Type 0 where
  pub items : List Item
  pub end : Configuration
  pub stop : Stop
  pub behaviour : IsBehaviour task items end stop
  pub out : reply.out ≡ text_asked asked.channels task.system items end.clock stop
  pub status : reply.status ≡ status_at stop
  pub recomputed : ℕ
  pub turns : List ℕ
  pub own : ℕ
  pub workers : length turns ≡ min asked.workers (length task.system.processes)
  pub events : Turns task (sum turns + own) items end (Some stop)
  pub err : reply.err ≡ report_for asked.report recomputed turns own

-- The headline of `run`: what it writes of an accepted text is the whole text of a behaviour of its system, with the seed, the
-- horizon and the limit of the words, and the status is that of the behaviour's stop. With `--channels` it is what that behaviour
-- hands over on each channel.
abbrev pub RunIsBehaviour : Type 0
RunIsBehaviour =
    (asked : RunRequest) (text : List ℕ) (system : System) (reply : Reply) → IsAccepted text system → OfSource (λ flat. Runs asked) text reply →
    (task : Task) × HasParts system asked.settings.seed asked.settings.horizon asked.settings.limit task × RunsBehaviour asked task reply

-- What no schedule changes: where the system is determinate and its canonical run ends by termination, deadlock or the horizon,
-- `run --channels` lets the same stand on output as `channels` with the same settings, and has the same status.
abbrev pub RunListsTheSame : Type 0
RunListsTheSame =
    (asked : RunRequest) (text : List ℕ) (system : System) (task : Task) (reply other : Reply) → IsAccepted text system →
    is_determinate system ≡ true → HasParts system asked.settings.seed asked.settings.horizon asked.settings.limit task →
    IsSettled (canonical task).stop → asked.channels ≡ true →
    OfSource (λ flat. Runs asked) text reply → Answers (Channels asked.settings) text other →
    (reply.out ≡ other.out) × (reply.status ≡ other.status)

-- How a schedule is left behind its first items: at the first end line, which is the last line that is printed; with all items used and
-- no end line; or in front of a step that is undefined, with no end line before.
pub data IsLeft (g : CProgram) (w : List schedule.Item) (items : ℕ) (end : ExecEnd) : Type 0 where
  at_end : (lines : List (ℕ × Line)) (thread kind : ℕ) (clock : Rational) (who : Option ℕ) →
      (scheduled g (take items w)).lines ≡ lines ++ (thread, Ends kind clock who) ∷ [] → first_end lines ≡ None →
      end ≡ Ended kind → IsLeft g w items end
  used_up : items ≡ length w → first_end (scheduled g (take items w)).lines ≡ None → end ≡ UsedUp → IsLeft g w items end
  undefined : (thread : ℕ) (kind : Kind) → slice_get w items ≡ Some (Step thread) →
      step_said g (scheduled g (take items w)) thread ≡ said.Undefined kind → first_end (scheduled g (take items w)).lines ≡ None →
      end ≡ Undefined kind (suc items) → IsLeft g w items end

-- The first items of a schedule, none of which is an undefined step: on output stands what they print, and the status and the lines on
-- error tell how the schedule is left behind them.
pub record TellsSchedule (report : Bool) (g : CProgram) (w : List schedule.Item) (reply : Reply) : Type 0 where
  pub items : ℕ
  pub within : items ≤ length w
  pub safe : IsSafe (moves (c_code g)) (opening g) (take items w)
  pub end : ExecEnd
  pub left : IsLeft g w items end
  pub out : reply.out ≡ prints g (take items w)
  pub status : reply.status ≡ status_by end
  pub err : reply.err ≡ end_text end ++ moved_text report (scheduled g (take items w)).moved

-- Of a C text `cexec` writes what its program prints under a beginning of the schedule of the seed, which has as many items as the words
-- say steps.
abbrev pub ExecutionIsScheduled : Type 0
ExecutionIsScheduled =
    (asked : ExecutionRequest) (text : List ℕ) (g : CProgram) (reply : Reply) → IsCText text g → Answers (Cexec asked) text reply →
    (length (seeded g asked.seed asked.steps) ≡ asked.steps) × TellsSchedule asked.report g (seeded g asked.seed asked.steps) reply
