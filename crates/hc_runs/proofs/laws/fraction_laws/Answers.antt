use Rattle.hc_runs.proofs.RunsFit.{runs_keep_fractions, items_are_fractions}
use Rattle.hc_runs.proofs.laws.fraction_laws.Goals as goal

pub returns-clause-reached : goal.returns-clause-reached
returns-clause-reached c = runs_keep_fractions

pub returns-clause-items : goal.returns-clause-items
returns-clause-items c = items_are_fractions
