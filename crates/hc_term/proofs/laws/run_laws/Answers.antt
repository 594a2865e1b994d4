use Rattle.hc_term.proofs.Turns.{run_is_prefix}
use Rattle.hc_term.proofs.Clock.{clock_keeps_horizon, horizon_is_reached}
use Rattle.hc_term.proofs.Reached.{meetings_join_two, meetings_are_unique, meetings_join_ends}
use Rattle.hc_term.proofs.laws.run_laws.Goals as goal

pub returns-clause-prefix : goal.returns-clause-prefix
returns-clause-prefix c = run_is_prefix

pub returns-clause-clock : goal.returns-clause-clock
returns-clause-clock c = clock_keeps_horizon

pub returns-clause-horizon : goal.returns-clause-horizon
returns-clause-horizon c = horizon_is_reached

pub returns-clause-joins_two : goal.returns-clause-joins_two
returns-clause-joins_two c = meetings_join_two

pub returns-clause-unique : goal.returns-clause-unique
returns-clause-unique c = meetings_are_unique

pub returns-clause-ends : goal.returns-clause-ends
returns-clause-ends c = meetings_join_ends
