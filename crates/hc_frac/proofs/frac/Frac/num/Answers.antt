use Rattle.std.proofs.Common.{◌∙◌}
use Rattle.hc_frac.proofs.Kept.{num_seen, fits_seen, read_num}
use Rattle.hc_frac.proofs.frac.Frac.num.Goals as goal

pub returns-clause-value : goal.returns-clause-value
returns-clause-value c = read_num _ c.self.invariant.num_fits ∙ num_seen _ _ c.self.view_is c.self.invariant

pub returns-clause-fits : goal.returns-clause-fits
returns-clause-fits c = fits_seen _ _ c.self.view_is c.self.invariant
