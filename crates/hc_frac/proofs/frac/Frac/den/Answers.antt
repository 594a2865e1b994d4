use Rattle.std.proofs.Common.{◌∙◌, ap, pos}
use Rattle.hc_frac.proofs.Kept.{den_seen, read_den}
use Rattle.hc_frac.proofs.frac.Frac.den.Goals as goal

pub returns : goal.returns
returns c = read_den _ c.self.invariant.den_fits ∙ ap pos (den_seen _ _ c.self.view_is c.self.invariant)
