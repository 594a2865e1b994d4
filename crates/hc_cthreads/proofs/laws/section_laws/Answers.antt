use Rattle.hc_cthreads.proofs.Coming.{sections_lead}
use Rattle.hc_cthreads.proofs.laws.section_laws.Goals as goal

pub returns : goal.returns
returns c = sections_lead
