use Rattle.hc_cmach.proofs.Pair.{pair_is_safe}
use Rattle.hc_cmach.proofs.laws.two_threads.Goals as goal

pub returns : goal.returns
returns c = pair_is_safe
