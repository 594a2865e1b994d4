use Rattle.hc_step.proofs.Ruled.{ruled_codes_are_usable}
use Rattle.hc_step.proofs.laws.code_laws.Goals as goal

pub returns : goal.returns
returns c = record { usable = ruled_codes_are_usable }
