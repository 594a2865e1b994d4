use Rattle.std.proofs.Common.{refl}
use Rattle.hc_core_c.proofs.laws.core_laws.Goals as goal

pub returns : goal.returns
returns c = λ P C. (refl, refl)
