-- What is answered to a source with a trace behind it.
use Rattle.std.specs.Prelude.{◌≡◌, ◌<◌, ◌≤◌, ℕ, List, [], ◌∷◌, ◌++◌, length, take, drop, codes, decimal, Result, Ok, Err}
use Rattle.hc_limits.specs.Limits.{most_source_bytes}
use Rattle.hc_term.specs.declared.system.System.{System}
use Rattle.hc_term.specs.declared.task.Task.{Task}
use Rattle.hc_term.specs.Given.{HasParts}
use Rattle.hc_trace.specs.declared.reading.TraceStop.TheVariants.{Line}
use Rattle.hc_trace.specs.declared.traces.Trace.{Trace}
use Rattle.hc_trace.specs.Traces.{IsTraceText}
use Rattle.hc_trace.specs.Reading.{IsRefusedAt}
use Rattle.hc_trace.specs.Splitting.{HasHeaderAt, IsFirstHeader}
use Rattle.hc_upgrade.specs.declared.whole.UpgradeStop.TheVariants.{Channel}
use Rattle.hc_upgrade.specs.Upgraded.{upgraded_text}
use Rattle.hc_verify.specs.declared.verdict.Verdict.{Verdict}
use Rattle.hc_verify.specs.declared.verdict.Verdict.TheVariants.{Yes, No}
use Rattle.hc_verify.specs.Judging.{JudgesTrace}
use Rattle.hc_words.specs.declared.settings.Settings.{Settings}
use Rattle.hc_cmd.specs.declared.refusal.Refusal.TheVariants.{NoTrace, TooLong, Untraced, Unconverted}
use Rattle.hc_cmd.specs.Reply.{Reply}
use Rattle.hc_cmd.specs.Refusals.{refused}
use Rattle.hc_cmd.specs.Sources.{OfSource, done}

-- bytes: where they are no trace, the first line that can't stand there; else what their trace gives
pub data OfTrace (Gives : Trace → Reply → Type 0) (bytes : List ℕ) (reply : Reply) : Type 0 where
  refused_at_line : (line : ℕ) → IsRefusedAt bytes line → reply ≡ refused (Untraced (Line line)) → OfTrace Gives bytes reply
  traced : (trace : Trace) → IsTraceText bytes trace → Gives trace reply → OfTrace Gives bytes reply

-- A text that is cut at its first line that is a header: what is in front of it is a source, and the rest a trace. Without
-- such a line it's refused, and so is a source that is too long; else the source is answered first, then the trace.
pub data OfTraced (Gives : System → Trace → Reply → Type 0) (text : List ℕ) (reply : Reply) : Type 0 where
  no_trace : ((place : ℕ) → ¬ (HasHeaderAt text place)) → reply ≡ refused NoTrace → OfTraced Gives text reply
  long_source : (place : ℕ) → IsFirstHeader text place → most_source_bytes < place → reply ≡ refused (TooLong most_source_bytes) →
      OfTraced Gives text reply
  cut : (place : ℕ) → IsFirstHeader text place → place ≤ most_source_bytes →
      OfSource (λ flat system. OfTrace (Gives system) (drop place text)) (take place text) reply → OfTraced Gives text reply

-- the trace in the last version, or the line at which it can't be made so
abbrev pub converted : Result (List ℕ) ℕ → Reply
converted (Ok text) = done text
converted (Err line) = refused (Unconverted (Channel line))

-- what the trace of a system lets stand where it's converted
abbrev pub Converts : System → Trace → Reply → Type 0
Converts system trace reply = reply ≡ converted (upgraded_text system trace)

-- what tells that the trace is one of a behaviour, with its visible lines and the steps of a run
abbrev pub verified_line : ℕ → ℕ → List ℕ
verified_line lines steps = codes "verified lines " ++ decimal lines ++ codes " steps " ++ decimal steps ++ 10 ∷ []

-- what tells that it isn't; the header is line 1
abbrev pub failing_line : ℕ → List ℕ
failing_line line = codes "not a behaviour at line " ++ decimal line ++ 10 ∷ []

-- what is told of a trace with so many lines: the least number of steps with which a run shows it, or the first line up to and
-- with which no run has it
abbrev pub judged : ℕ → Verdict → Reply
judged lines (Yes steps) = done (verified_line lines steps)
judged lines (No line) = record { status = 15; out = failing_line line; err = [] }

-- what the trace of a system with these settings lets stand where it's judged
pub record Judges (settings : Settings) (system : System) (trace : Trace) (reply : Reply) : Type 0 where
  pub task : Task
  pub parts : HasParts system settings.seed settings.horizon settings.limit task
  pub verdict : Verdict
  pub judges : JudgesTrace task trace verdict
  pub stands : reply ≡ judged (length trace.lines) verdict
