-- What is answered to the requests of a call.
use Rattle.std.specs.Prelude.{◌≡◌, ℕ, Bool, true, false, List, [], ◌∷◌, ◌++◌, length, codes, decimal}
use Rattle.hc_limits.specs.Limits.{most_source_bytes, most_text_bytes}
use Rattle.hc_print.specs.Canonical.{canonical as canonical_spelling}
use Rattle.hc_modules.specs.declared.flat.Flat.{Flat}
use Rattle.hc_rational.specs.Words.{Rational}
use Rattle.hc_term.specs.declared.run.Item.{Item}
use Rattle.hc_term.specs.declared.run.Stop.{Stop}
use Rattle.hc_term.specs.declared.run.Stop.TheVariants.{Terminated, Deadlock, Horizon, Limit, Overflow}
use Rattle.hc_term.specs.declared.system.System.{System}
use Rattle.hc_term.specs.declared.task.Task.{Task}
use Rattle.hc_term.specs.Given.{HasParts}
use Rattle.hc_term.specs.Canonical.{canonical}
use Rattle.hc_term.specs.TraceText as trace
use Rattle.hc_det.specs.Text.{channels_text}
use Rattle.hc_make.specs.Made.{made_text}
use Rattle.hc_words.specs.declared.requests.Request.{Request}
use Rattle.hc_words.specs.declared.requests.Request.TheVariants.{Check, Print, Simulate, Channels, Convert, Verify, Make, Cexec}
use Rattle.hc_words.specs.declared.settings.Made.{Made}
use Rattle.hc_words.specs.declared.settings.Settings.{Settings}
use Rattle.hc_words.specs.Requests.{Ask}
use Rattle.hc_cmd.specs.Reply.{Reply}
use Rattle.hc_cmd.specs.Calls.{Call}
use Rattle.hc_cmd.specs.Sources.{OfText, OfSource, done}
use Rattle.hc_cmd.specs.Made.{TellsRun}
use Rattle.hc_cmd.specs.Executed.{OfC, executed}
use Rattle.hc_cmd.specs.Traced.{OfTraced, Converts, Judges}

-- ---- what the actions give

-- how large an accepted source is: its processes, its channels and its statements with those inside others
abbrev pub size_of : Flat → System → List ℕ
size_of flat system =
    codes "accepted processes " ++ decimal (length system.processes) ++ codes " channels " ++ decimal (length system.channels)
    ++ codes " statements " ++ decimal flat.statements ++ 10 ∷ []

-- the status of a run by its stop
abbrev pub status_at : Stop → ℕ
status_at Terminated = 0
status_at Horizon = 0
status_at Deadlock = 10
status_at (Overflow p) = 11
status_at Limit = 12

-- a text of the task's canonical run with its stop, and the stop's status
abbrev pub telling : (System → List Item → Rational → Stop → List ℕ) → Task → Reply
telling text t =
    let run = canonical t in
    record { status = status_at run.stop; out = text t.system run.items run.end.clock run.stop; err = [] }

-- its whole trace
abbrev pub simulated : Task → Reply
simulated = telling trace.whole

-- what it hands over on each channel
abbrev pub listed : Task → Reply
listed = telling channels_text

-- what is told of the task of a system with these settings
pub record OfTask (told : Task → Reply) (settings : Settings) (system : System) (reply : Reply) : Type 0 where
  pub task : Task
  pub parts : HasParts system settings.seed settings.horizon settings.limit task
  pub stands : reply ≡ told task

-- what a made source with its system lets stand: the line that tells of its run
pub record SumsUp (made : Made) (system : System) (reply : Reply) : Type 0 where
  pub line : List ℕ
  pub tells : TellsRun made.pairs system line
  pub stands : reply ≡ done line

-- what may be answered, one line an action; `make` answers to the made source, and not to the text that is read
abbrev pub Answers : Request → List ℕ → Reply → Type 0
Answers Check = OfSource (λ flat system reply. reply ≡ done (size_of flat system))
Answers Print = OfText (λ tree reply. reply ≡ done (canonical_spelling tree))
Answers (Simulate settings) = OfSource (λ flat. OfTask simulated settings)
Answers (Channels settings) = OfSource (λ flat. OfTask listed settings)
Answers Convert = OfTraced Converts
Answers (Verify settings) = OfTraced (Judges settings)
Answers (Make made) = λ text. OfSource (λ flat. SumsUp made) (made_text made.pairs made.seed)
Answers (Cexec asked) = OfC (λ g reply. reply ≡ executed asked g)

-- all but `make` read a source
abbrev pub reads_source : Request → Bool
reads_source (Make made) = false
reads_source _ = true

-- the most bytes that are read: a source alone is shorter than one with a trace behind it, or than a C text
abbrev pub most_bytes_of : Request → ℕ
most_bytes_of Convert = most_text_bytes
most_bytes_of (Verify settings) = most_text_bytes
most_bytes_of (Cexec asked) = most_text_bytes
most_bytes_of _ = most_source_bytes

-- the call `answer`
abbrev pub answering : Call Request
answering = record { asks = Ask; reads = reads_source; most_of = most_bytes_of; answers = Answers }
