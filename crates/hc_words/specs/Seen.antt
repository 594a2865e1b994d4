-- What the program reads of the words, as texts.
use Rattle.std.specs.Prelude.{◌≡◌, option_map, IsTrue}
use Rattle.clap.specs.Walk.{Text}
use Rattle.hc_words.specs.declared.actions.Action.{Action}
use Rattle.hc_words.specs.declared.requests.Request.{Request}
use Rattle.hc_words.specs.declared.settings.RunRequest.{RunRequest}
use Rattle.hc_words.specs.Actions.{name_of_action, name_of_run, room_of_run, fits, belongs}
use Rattle.hc_words.specs.Requests.{Asks, IsRun}
use Rattle.hc_words.specs.declared.line.Given as program
use Rattle.hc_words.specs.Line.{Given}

abbrev pub seen : program.Given → Given
seen g = record {
  number = option_map (λ s. s.now) g.number;
  seed = option_map (λ s. s.now) g.seed;
  horizon = option_map (λ s. s.now) g.horizon;
  limit = option_map (λ s. s.now) g.limit;
  workers = option_map (λ s. s.now) g.workers;
  steps = option_map (λ s. s.now) g.steps;
  report = g.report;
  channels = g.channels;
}

-- an action of this name asks for the request, and all that is given belongs to it
pub record IsRequested (name : Text) (g : Given) (request : Request) : Type 0 where
  pub action : Action
  pub named : name_of_action action ≡ name
  pub belonging : IsTrue (belongs action g)
  pub asked : Asks action g request

-- this is the name of `run`, the run is asked for, and all that is given belongs to it
pub record IsRunRequested (name : Text) (g : Given) (request : RunRequest) : Type 0 where
  pub named : name ≡ name_of_run
  pub belonging : IsTrue (fits room_of_run g)
  pub asked : IsRun g request
