use Rattle.hc_modules.proofs.WellFacts.{well}
use Rattle.hc_modules.proofs.laws.expansion_laws.Goals as goal

pub returns : goal.returns
returns c = record { well = well }
