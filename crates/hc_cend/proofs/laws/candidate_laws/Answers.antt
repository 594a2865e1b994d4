use Rattle.hc_cend.proofs.Found.{finds, fits_as_it_must}
use Rattle.hc_cend.proofs.laws.candidate_laws.Goals as goal

pub returns-clause-found : goal.returns-clause-found
returns-clause-found c = finds

pub returns-clause-fits : goal.returns-clause-fits
returns-clause-fits c = fits_as_it_must
