-- One less.
use Rattle.std.proofs.Common.{length}
use Rattle.hc_cstep.proofs.body.+push_rates.Given as goal

abbrev pub decreases-push_rates : goal.decreases-push_rates
decreases-push_rates g l = length l.rates.now
