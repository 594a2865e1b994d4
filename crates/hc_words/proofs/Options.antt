-- Settings are arguments of the command.
use Rattle.std.proofs.Common.{◌≡◌, true, false, refl}
use Rattle.std.specs.Prelude.{codes}
use Rattle.clap.specs.Walk.{Rule}
use Rattle.clap.specs.Simple.{Shape, built, filled, with_index}
use Rattle.clap.proofs.OnLiterals.{clap_on_literals}
use Rattle.hc_words.specs.Line.{hcsp, word_rule, option_rule, flag_rule}
use Rattle.hc_words.specs.Order.{Setting, number, seed, horizon, limit, workers, steps, report, channels, name_of, is_number, is_flag}
use Rattle.hc_words.proofs.Uses.{first_use}
use Rattle.hc_words.proofs.Steps.{IsFlag, IsOption, IsWord}

-- the command, as it is built
unfoldable pub shape : Shape
unfolding hcsp
shape = (built hcsp).top

-- the argument of a setting
unfoldable pub rule_at : Setting → Rule
rule_at number = with_index 2 (filled (word_rule (codes "N")))
rule_at seed = filled (option_rule (codes "seed"))
rule_at horizon = filled (option_rule (codes "horizon"))
rule_at limit = filled (option_rule (codes "limit"))
rule_at workers = filled (option_rule (codes "workers"))
rule_at steps = filled (option_rule (codes "steps"))
rule_at report = filled (flag_rule (codes "report"))
rule_at channels = filled (flag_rule (codes "channels"))

pub number_is_word : IsWord shape 2 (codes "N") (rule_at number)
unfolding shape rule_at hcsp clap_on_literals
number_is_word = record {
  by_index = refl;
  by_id = refl;
  id = refl;
  several = refl;
  multiple = refl;
  next = refl;
  trailing = refl;
  passes = λ v rows none. rw none refl;
  uses = λ v rows none. first_use (codes "N") v rows none;
}

seed_is_option : IsOption shape (codes "seed") (rule_at seed)
unfolding shape rule_at hcsp clap_on_literals
seed_is_option = record {
  by_long = refl;
  by_id = refl;
  takes = refl;
  id = refl;
  same = refl;
  most = refl;
  passes = λ v rows none. rw none refl;
  uses = λ v rows none. first_use (codes "seed") v rows none;
}

horizon_is_option : IsOption shape (codes "horizon") (rule_at horizon)
unfolding shape rule_at hcsp clap_on_literals
horizon_is_option = record {
  by_long = refl;
  by_id = refl;
  takes = refl;
  id = refl;
  same = refl;
  most = refl;
  passes = λ v rows none. rw none refl;
  uses = λ v rows none. first_use (codes "horizon") v rows none;
}

limit_is_option : IsOption shape (codes "limit") (rule_at limit)
unfolding shape rule_at hcsp clap_on_literals
limit_is_option = record {
  by_long = refl;
  by_id = refl;
  takes = refl;
  id = refl;
  same = refl;
  most = refl;
  passes = λ v rows none. rw none refl;
  uses = λ v rows none. first_use (codes "limit") v rows none;
}

workers_is_option : IsOption shape (codes "workers") (rule_at workers)
unfolding shape rule_at hcsp clap_on_literals
workers_is_option = record {
  by_long = refl;
  by_id = refl;
  takes = refl;
  id = refl;
  same = refl;
  most = refl;
  passes = λ v rows none. rw none refl;
  uses = λ v rows none. first_use (codes "workers") v rows none;
}

steps_is_option : IsOption shape (codes "steps") (rule_at steps)
unfolding shape rule_at hcsp clap_on_literals
steps_is_option = record {
  by_long = refl;
  by_id = refl;
  takes = refl;
  id = refl;
  same = refl;
  most = refl;
  passes = λ v rows none. rw none refl;
  uses = λ v rows none. first_use (codes "steps") v rows none;
}

report_is_flag : IsFlag shape (codes "report") (rule_at report)
unfolding shape rule_at hcsp clap_on_literals
report_is_flag = record {
  by_long = refl;
  takes = refl;
  passes = λ rows none. rw none refl;
  uses = λ rows none. first_use (codes "report") (codes "true") rows none;
}

channels_is_flag : IsFlag shape (codes "channels") (rule_at channels)
unfolding shape rule_at hcsp clap_on_literals
channels_is_flag = record {
  by_long = refl;
  takes = refl;
  passes = λ rows none. rw none refl;
  uses = λ rows none. first_use (codes "channels") (codes "true") rows none;
}

pub is_option : (k : Setting) → is_number k ≡ false → is_flag k ≡ false → IsOption shape (name_of k) (rule_at k)
is_option number e f = cc e
is_option seed e f = seed_is_option
is_option horizon e f = horizon_is_option
is_option limit e f = limit_is_option
is_option workers e f = workers_is_option
is_option steps e f = steps_is_option
is_option report e f = cc f
is_option channels e f = cc f

pub is_flag_of : (k : Setting) → is_flag k ≡ true → IsFlag shape (name_of k) (rule_at k)
is_flag_of number e = cc e
is_flag_of seed e = cc e
is_flag_of horizon e = cc e
is_flag_of limit e = cc e
is_flag_of workers e = cc e
is_flag_of steps e = cc e
is_flag_of report e = report_is_flag
is_flag_of channels e = channels_is_flag
