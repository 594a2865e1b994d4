-- The command line, as a simple command of `clap`.
use Rattle.std.specs.Prelude.{Bool, true, false, List, [], ◌∷◌, Option, Some, codes}
use Rattle.std.specs.Option.{option_map_or}
use Rattle.std.specs.Str.{bytes_eq}
use Rattle.clap.specs.declared.builder.action.ArgAction.TheVariants.{SetTrue}
use Rattle.clap.specs.Walk.{Text, Rule, Row, first_of}
use Rattle.clap.specs.Simple.{App, new_app, new_rule, with_rule, matches_of}
use Rattle.clap.specs.Kinds.{Kinds}
use Rattle.clap.specs.Faults.{fault_of}

-- a word by its place
abbrev pub word_rule : Text → Rule
word_rule id = new_rule id

-- `--id` with one value
abbrev pub option_rule : Text → Rule
option_rule id = record (new_rule id) { long = Some id }

-- `--id`
abbrev pub flag_rule : Text → Rule
flag_rule id = record (new_rule id) { long = Some id; action = Some SetTrue }

-- two words by their places, five options and two flags
unfoldable pub hcsp : App
hcsp =
    with_rule (with_rule (with_rule (with_rule (with_rule (with_rule (with_rule (with_rule (with_rule (new_app (codes "hcsp"))
    (word_rule (codes "ACTION"))) (word_rule (codes "N")))
    (option_rule (codes "seed"))) (option_rule (codes "horizon"))) (option_rule (codes "limit")))
    (option_rule (codes "workers"))) (option_rule (codes "steps")))
    (flag_rule (codes "report"))) (flag_rule (codes "channels"))

abbrev pub is_nothing : Kinds → Bool
is_nothing [] = true
is_nothing (k ∷ ks) = false

-- clap finds nothing against the words
abbrev pub is_taken : List Text → Bool
is_taken words = is_nothing (fault_of hcsp words)

-- what stands behind the action: N, the value of each option, and whether each flag is given
pub record Given : Type 0 where
  pub number : Option Text
  pub seed : Option Text
  pub horizon : Option Text
  pub limit : Option Text
  pub workers : Option Text
  pub steps : Option Text
  pub report : Bool
  pub channels : Bool

-- a flag is given
abbrev pub is_yes : Option Text → Bool
is_yes flag = option_map_or (λ t. bytes_eq t (codes "true")) flag false

abbrev pub given_in : List Row → Given
given_in rows = record {
  number = first_of (codes "N") rows;
  seed = first_of (codes "seed") rows;
  horizon = first_of (codes "horizon") rows;
  limit = first_of (codes "limit") rows;
  workers = first_of (codes "workers") rows;
  steps = first_of (codes "steps") rows;
  report = is_yes (first_of (codes "report") rows);
  channels = is_yes (first_of (codes "channels") rows);
}

-- what the words give, where clap takes them
abbrev pub given : List Text → Given
given words = given_in (matches_of hcsp words)
