use Rattle.hc_cend.proofs.Law.{finds_it}
use Rattle.hc_cend.proofs.EndSize.{is_short}
use Rattle.hc_cend.proofs.laws.end_moment_laws.Goals as goal

pub returns-clause-finds : goal.returns-clause-finds
returns-clause-finds c = finds_it

pub returns-clause-short : goal.returns-clause-short
returns-clause-short c = is_short
