use Rattle.hc_trace.proofs.RangeLemmas.{runs_are_in_range, behaviours_are_in_range, canonical_is_in_range}
use Rattle.hc_trace.proofs.laws.range_laws.Goals as goal

pub returns-clause-runs : goal.returns-clause-runs
returns-clause-runs c = runs_are_in_range

pub returns-clause-behaviours : goal.returns-clause-behaviours
returns-clause-behaviours c = behaviours_are_in_range

pub returns-clause-canonical : goal.returns-clause-canonical
returns-clause-canonical c = canonical_is_in_range
