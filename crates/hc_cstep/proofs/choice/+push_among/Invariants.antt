-- One number less.
use Rattle.hc_cstep.proofs.choice.+push_among.Given as goal

abbrev pub decreases-push_among : goal.decreases-push_among
decreases-push_among l = l.n
