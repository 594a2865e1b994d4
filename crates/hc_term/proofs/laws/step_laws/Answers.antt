use Rattle.hc_term.proofs.Turns.{canonical_is_behaviour, goes_on_or_stops}
use Rattle.hc_term.proofs.Commute.{silent_steps_commute, silent_and_comm_commute}
use Rattle.hc_term.proofs.EventRuns.{event_is_run}
use Rattle.hc_term.proofs.Quiet.{delays_keep_quiet}
use Rattle.hc_term.proofs.laws.step_laws.Goals as goal

pub returns-clause-canonical : goal.returns-clause-canonical
returns-clause-canonical c = canonical_is_behaviour

pub returns-clause-progress : goal.returns-clause-progress
returns-clause-progress c = goes_on_or_stops

pub returns-clause-silent_commute : goal.returns-clause-silent_commute
returns-clause-silent_commute c = silent_steps_commute

pub returns-clause-meetings_commute : goal.returns-clause-meetings_commute
returns-clause-meetings_commute c = silent_and_comm_commute

pub returns-clause-events : goal.returns-clause-events
returns-clause-events c = event_is_run

pub returns-clause-quiet : goal.returns-clause-quiet
returns-clause-quiet c = delays_keep_quiet
