-- One number less.
use Rattle.std.proofs.Common.{length}
use Rattle.hc_cstep.proofs.choice.+any_behind.Given as goal

abbrev pub decreases-any_behind : goal.decreases-any_behind
decreases-any_behind l = length l.ns.now
