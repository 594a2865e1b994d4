-- What is answered to a run on threads: the history of some joint of the task.
use Rattle.std.specs.Prelude.{◌≡◌, ◌+◌, ℕ, Bool, true, List, [], ◌∷◌, ◌++◌, length, min, Option, Some, None, codes, decimal, if◌then◌else◌}
use Rattle.hc_limits.specs.Limits.{most_source_bytes}
use Rattle.hc_term.specs.declared.run.Stop.{Stop}
use Rattle.hc_term.specs.declared.system.System.{System}
use Rattle.hc_term.specs.declared.task.Task.{Task}
use Rattle.hc_term.specs.Given.{HasParts}
use Rattle.hc_joint.specs.Seen.{Seen}
use Rattle.hc_sim.specs.Told.{history_text}
use Rattle.hc_det.specs.Text.{text_at}
use Rattle.hc_run.specs.Outcomes.{IsOutcome}
use Rattle.hc_words.specs.declared.settings.RunRequest.{RunRequest}
use Rattle.hc_words.specs.Requests.{AskRun}
use Rattle.hc_cmd.specs.Reply.{Reply}
use Rattle.hc_cmd.specs.Calls.{Call}
use Rattle.hc_cmd.specs.Sources.{OfSource}
use Rattle.hc_cmd.specs.Answers.{status_at}

-- ---- the numbers of a run

abbrev pub worker_line : ℕ → ℕ → List ℕ
worker_line worker turns = codes "worker " ++ decimal worker ++ codes " turns " ++ decimal turns ++ 10 ∷ []

-- the lines of the workers from this one on
abbrev pub worker_lines : ℕ → List ℕ → List ℕ
worker_lines worker [] = []
worker_lines worker (n ∷ ns) = worker_line worker n ++ worker_lines (worker + 1) ns

abbrev pub recomputed_line : ℕ → List ℕ
recomputed_line recomputed = codes "recomputed " ++ decimal recomputed ++ 10 ∷ []

abbrev pub caller_line : ℕ → List ℕ
caller_line own = codes "caller turns " ++ decimal own ++ 10 ∷ []

-- how many turns were worked out anew, the turns of each worker, and the caller's
abbrev pub report_text : ℕ → List ℕ → ℕ → List ℕ
report_text recomputed turns own = recomputed_line recomputed ++ worker_lines 0 turns ++ caller_line own

-- what stands on error: nothing, or where it's asked for the report
abbrev pub report_for : Bool → ℕ → List ℕ → ℕ → List ℕ
report_for asked recomputed turns own = if asked then report_text recomputed turns own else []

-- ---- the answer

-- the status by the stop, which stands in what is told
abbrev pub status_by : Option Stop → ℕ
status_by None = 0
status_by (Some stop) = status_at stop

-- the text of a joint's history with its stop: the trace, or where they are asked for what it hands over on the channels
abbrev pub text_for : Bool → Seen → List ℕ
text_for channels joint = if channels then text_at joint.stop joint else history_text joint

-- that text, the stop's status, and this on error
abbrev pub told : Bool → Seen → List ℕ → Reply
told channels joint err = record { status = status_by joint.stop; out = text_for channels joint; err = err }

-- some outcome of running a system with these settings is told, with its numbers where they are asked for
pub record Runs (asked : RunRequest) (system : System) (reply : Reply) : Type 0 where
  pub task : Task
  pub parts : HasParts system asked.settings.seed asked.settings.horizon asked.settings.limit task
  pub joint : Seen
  pub turns : List ℕ
  pub own : ℕ
  pub outcome : IsOutcome task (min asked.workers (length task.system.processes)) joint turns own
  pub stands : reply ≡ told asked.channels joint (report_for asked.report joint.recomputed turns own)

-- the call `answer_run`
abbrev pub running : Call RunRequest
running = record { asks = AskRun; reads = λ _. true; most_of = λ _. most_source_bytes; answers = λ asked. OfSource (λ flat. Runs asked) }
