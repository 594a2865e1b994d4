use Rattle.hc_runs.proofs.Fired.{ready_joins}
use Rattle.hc_runs.proofs.Parts.{runs_keep_rules}
use Rattle.hc_runs.proofs.Waking.{opening_goes_on, events_go_on}
use Rattle.hc_runs.proofs.Paired.{posts_are_paired}
use Rattle.hc_runs.proofs.laws.run_laws.Goals as goal

pub returns-clause-rules : goal.returns-clause-rules
returns-clause-rules c = runs_keep_rules

pub returns-clause-opening : goal.returns-clause-opening
returns-clause-opening c = opening_goes_on

pub returns-clause-events : goal.returns-clause-events
returns-clause-events c = events_go_on

pub returns-clause-posts : goal.returns-clause-posts
returns-clause-posts c = posts_are_paired

pub returns-clause-meetings : goal.returns-clause-meetings
returns-clause-meetings c = ready_joins
