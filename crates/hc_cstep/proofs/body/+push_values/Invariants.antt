-- One branch less.
use Rattle.std.proofs.Common.{length}
use Rattle.hc_cstep.proofs.body.+push_values.Given as goal

abbrev pub decreases-push_values : goal.decreases-push_values
decreases-push_values g l = length l.ways.now
