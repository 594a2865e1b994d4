use Rattle.hc_grammar.proofs.Exact.{reads_exactly}
use Rattle.hc_grammar.proofs.theorems.reads_exactly.Goals as goal

pub returns : goal.returns
returns g c = reads_exactly _ _ _ _ _ _ _ _
