-- What the words of a call ask for.
use Rattle.std.specs.Prelude.{◌≡◌, ℕ, List, Option, Some, None, pos, slice_get, IsTrue}
use Rattle.hc_limits.specs.Limits.{most_pairs, most_steps, most_machine_steps, most_workers, default_steps, default_machine_steps, default_horizon}
use Rattle.clap.specs.Walk.{Text}
use Rattle.hc_rational.specs.Words.{Rational, is_positive}
use Rattle.hc_rational.specs.Rational.{whole}
use Rattle.hc_words.specs.declared.actions.Action.{Action}
use Rattle.hc_words.specs.declared.actions.Action.TheVariants as act
use Rattle.hc_words.specs.declared.requests.Request.{Request}
use Rattle.hc_words.specs.declared.requests.Request.TheVariants.{Check, Print, Simulate, Channels, Convert, Verify, Make, Cexec}
use Rattle.hc_words.specs.declared.settings.ExecutionRequest.{ExecutionRequest}
use Rattle.hc_words.specs.declared.settings.Made.{Made}
use Rattle.hc_words.specs.declared.settings.RunRequest.{RunRequest}
use Rattle.hc_words.specs.declared.settings.Settings.{Settings}
use Rattle.hc_words.specs.Actions.{name_of_action, name_of_run, room_of_run, fits, belongs}
use Rattle.hc_words.specs.Line.{Given, is_taken, given}
use Rattle.hc_words.specs.Numbers.{number_within, IsFractionText}

-- the seed: 0 where it isn't given, and at most 2^64 - 1
abbrev pub seed_in : Option Text → Option ℕ
seed_in None = Some 0
seed_in (Some t) = number_within 0 18446744073709551615 t

-- the limit of steps: 10,000 where it isn't given, and 1 to 1,000,000
abbrev pub limit_in : Option Text → Option ℕ
limit_in None = Some default_steps
limit_in (Some t) = number_within 1 most_steps t

-- the horizon in time units: the default where it isn't given, and positive
abbrev pub IsHorizon : Option Text → Rational → Type 0
IsHorizon None q = q ≡ whole (pos default_horizon)
IsHorizon (Some t) q = IsFractionText t q × IsTrue (is_positive q)

-- these are the settings of a simulation
pub record AreSettings (g : Given) (s : Settings) : Type 0 where
  pub seed : seed_in g.seed ≡ Some s.seed
  pub horizon : IsHorizon g.horizon s.horizon
  pub limit : limit_in g.limit ≡ Some s.limit

-- the pairs of a made source: N, which has to be given, and 1 to 32
abbrev pub pairs_in : Option Text → Option ℕ
pairs_in None = None
pairs_in (Some t) = number_within 1 most_pairs t

-- this is the source that is to be made
pub record IsMade (g : Given) (m : Made) : Type 0 where
  pub pairs : pairs_in g.number ≡ Some m.pairs
  pub seed : seed_in g.seed ≡ Some m.seed

-- the steps of the thread machine: 100,000 where they aren't given, and 1 to 10,000,000
abbrev pub machine_steps_in : Option Text → Option ℕ
machine_steps_in None = Some default_machine_steps
machine_steps_in (Some t) = number_within 1 most_machine_steps t

-- this is the execution on the thread machine that is to be made
pub record IsExecution (g : Given) (e : ExecutionRequest) : Type 0 where
  pub seed : seed_in g.seed ≡ Some e.seed
  pub steps : machine_steps_in g.steps ≡ Some e.steps
  pub report : e.report ≡ g.report

-- what an action asks for, by the values that stand behind it
abbrev pub Asks : Action → Given → Request → Type 0
Asks act.Check g r = r ≡ Check
Asks act.Print g r = r ≡ Print
Asks act.Simulate g r = (s : Settings) × AreSettings g s × (r ≡ Simulate s)
Asks act.Channels g r = (s : Settings) × AreSettings g s × (r ≡ Channels s)
Asks act.Convert g r = r ≡ Convert
Asks act.Verify g r = (s : Settings) × AreSettings g s × (r ≡ Verify s)
Asks act.Make g r = (m : Made) × IsMade g m × (r ≡ Make m)
Asks act.Cexec g r = (e : ExecutionRequest) × IsExecution g e × (r ≡ Cexec e)

-- the words ask for this: clap takes them, and behind the program's name stands an action with what belongs to it
pub record Ask (words : List Text) (request : Request) : Type 0 where
  pub action : Action
  pub named : slice_get words 1 ≡ Some (name_of_action action)
  pub taken : IsTrue (is_taken words)
  pub belonging : IsTrue (belongs action (given words))
  pub asked : Asks action (given words) request

-- the workers: where they aren't given, as many as there can be processes; and 1 to 64
abbrev pub workers_in : Option Text → Option ℕ
workers_in None = Some most_workers
workers_in (Some t) = number_within 1 most_workers t

-- this is the run on threads that is to be made
pub record IsRun (g : Given) (r : RunRequest) : Type 0 where
  pub set : AreSettings g r.settings
  pub workers : workers_in g.workers ≡ Some r.workers
  pub report : r.report ≡ g.report
  pub channels : r.channels ≡ g.channels

-- the words ask for this run: clap takes them, and behind the program's name stands `run` with what belongs to it
pub record AskRun (words : List Text) (request : RunRequest) : Type 0 where
  pub named : slice_get words 1 ≡ Some name_of_run
  pub taken : IsTrue (is_taken words)
  pub belonging : IsTrue (fits room_of_run (given words))
  pub asked : IsRun (given words) request
