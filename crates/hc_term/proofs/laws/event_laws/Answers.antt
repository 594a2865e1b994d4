use Rattle.hc_term.proofs.Leading.{canonical_by_events}
use Rattle.hc_term.proofs.Settled.{events_end_quiet, opening_is_quiet}
use Rattle.hc_term.proofs.laws.event_laws.Goals as goal

pub returns-clause-opening_quiet : goal.returns-clause-opening_quiet
returns-clause-opening_quiet c = opening_is_quiet

pub returns-clause-end_quiet : goal.returns-clause-end_quiet
returns-clause-end_quiet c = events_end_quiet

pub returns-clause-canonical : goal.returns-clause-canonical
returns-clause-canonical c = canonical_by_events
