use Rattle.hc_cross.proofs.AffineLines.{moves}
use Rattle.hc_cross.proofs.laws.line_laws.Goals as goal

pub returns : goal.returns
returns c = λ e s r t p k. (moves s r t p e).along k
