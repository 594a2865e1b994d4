use Rattle.hc_cgen.proofs.Joined.{is_generated}
use Rattle.hc_cgen.proofs.laws.program_laws.Goals as goal

pub returns : goal.returns
returns c = is_generated
