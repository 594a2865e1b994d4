use Rattle.hc_core_time.proofs.OnTime.{on_time}
use Rattle.hc_core_time.proofs.Needed.{not_without_fractions}
use Rattle.hc_core_time.proofs.laws.time_laws.Goals as goal

pub returns-clause-time : goal.returns-clause-time
returns-clause-time c = on_time

pub returns-clause-needed : goal.returns-clause-needed
returns-clause-needed c = not_without_fractions
