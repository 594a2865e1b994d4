-- Words in order: an action, and behind it what belongs to it.
use Rattle.std.specs.Prelude.{◌≡◌, ℕ, Bool, true, false, not, ◌&&◌, List, [], ◌∷◌, ◌++◌, flat_map, Option, Some, None, codes, IsTrue, if◌then◌else◌}
use Rattle.std.specs.List.{All, list_all}
use Rattle.std.specs.Str.{bytes_eq}
use Rattle.hc_limits.specs.Limits.{most_pairs, most_steps, most_machine_steps, most_workers}
use Rattle.clap.specs.Walk.{Text}
use Rattle.hc_rational.specs.Words.{Rational, is_positive}
use Rattle.hc_words.specs.declared.actions.Action.{Action}
use Rattle.hc_words.specs.declared.actions.Room.{Room}
use Rattle.hc_words.specs.Actions.{name_of_action, room_of, name_of_run, room_of_run, is_wanted}
use Rattle.hc_words.specs.Line.{Given, is_yes}
use Rattle.hc_words.specs.Numbers.{number_within, IsFractionText}

-- what may stand behind an action: N, an option, or a flag
pub data Setting : Type 0 where
  number : Setting
  seed : Setting
  horizon : Setting
  limit : Setting
  workers : Setting
  steps : Setting
  report : Setting
  channels : Setting

abbrev pub name_of : Setting → Text
name_of number = codes "N"
name_of seed = codes "seed"
name_of horizon = codes "horizon"
name_of limit = codes "limit"
name_of workers = codes "workers"
name_of steps = codes "steps"
name_of report = codes "report"
name_of channels = codes "channels"

-- N stands for itself, without its name
abbrev pub is_number : Setting → Bool
is_number number = true
is_number _ = false

-- a flag has no value behind it; that it's there is the value `true`
abbrev pub is_flag : Setting → Bool
is_flag report = true
is_flag channels = true
is_flag _ = false

-- a setting with its value
pub record Choice : Type 0 where
  pub setting : Setting
  pub is_joined : Bool
  pub value : Text

-- an option is `--name=value`, or `--name value`, and a flag `--name`
abbrev pub option_words : Choice → List Text
option_words c =
    let dashed = 45 ∷ 45 ∷ name_of c.setting in
    if is_flag c.setting then dashed ∷ [] else (if c.is_joined then (dashed ++ 61 ∷ c.value) ∷ [] else dashed ∷ c.value ∷ [])

abbrev pub words_of : Choice → List Text
words_of c = if is_number c.setting then c.value ∷ [] else option_words c

-- the value is in form and in range; so it isn't empty, and doesn't begin with `-`
abbrev pub IsRight : Setting → Text → Type 0
IsRight number t = (n : ℕ) × (number_within 1 most_pairs t ≡ Some n)
IsRight seed t = (n : ℕ) × (number_within 0 18446744073709551615 t ≡ Some n)
IsRight horizon t = (q : Rational) × IsFractionText t q × IsTrue (is_positive q)
IsRight limit t = (n : ℕ) × (number_within 1 most_steps t ≡ Some n)
IsRight workers t = (n : ℕ) × (number_within 1 most_workers t ≡ Some n)
IsRight steps t = (n : ℕ) × (number_within 1 most_machine_steps t ≡ Some n)
IsRight report t = t ≡ codes "true"
IsRight channels t = t ≡ codes "true"

abbrev pub is_other : Choice → Choice → Bool
is_other c d = not (bytes_eq (name_of c.setting) (name_of d.setting))

-- each setting at most once
abbrev pub are_apart : List Choice → Bool
are_apart [] = true
are_apart (c ∷ cs) = list_all (is_other c) cs && are_apart cs

-- the action has room for the setting
abbrev pub has : Room → Setting → Bool
has room number = room.number
has room seed = room.seed
has room horizon = room.horizon
has room limit = room.limit
has room workers = room.workers
has room steps = room.steps
has room report = room.report
has room channels = room.channels

-- the value of a setting, where it's chosen
abbrev pub said : Setting → List Choice → Option Text
said k [] = None
said k (c ∷ cs) = if bytes_eq (name_of c.setting) (name_of k) then Some c.value else said k cs

-- the program's name, the action, and behind it, in any order, N exactly where it's wanted, and options and flags for which
-- there is room, each at most once, all with values that are right
pub record StandInOrder (action : Text) (room : Room) (words : List Text) : Type 0 where
  pub name : Text
  pub choices : List Choice
  pub apart : IsTrue (are_apart choices)
  pub belong : IsTrue (list_all (λ c. has room c.setting) choices)
  pub wanted : IsTrue (is_wanted room.number (said number choices))
  pub right : All (λ c. IsRight c.setting c.value) choices
  pub words_are : words ≡ name ∷ action ∷ flat_map words_of choices

-- so for an action of `answer`
pub record AreInOrder (words : List Text) : Type 0 where
  pub action : Action
  pub order : StandInOrder (name_of_action action) (room_of action) words

-- so for `run`
abbrev pub AreRunInOrder : List Text → Type 0
AreRunInOrder = StandInOrder name_of_run room_of_run

-- what the choices give
abbrev pub given_by : List Choice → Given
given_by cs = record {
  number = said number cs;
  seed = said seed cs;
  horizon = said horizon cs;
  limit = said limit cs;
  workers = said workers cs;
  steps = said steps cs;
  report = is_yes (said report cs);
  channels = is_yes (said channels cs);
}
