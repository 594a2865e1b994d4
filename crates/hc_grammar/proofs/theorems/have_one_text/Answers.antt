use Rattle.hc_grammar.proofs.Exact.{have_one_text}
use Rattle.hc_grammar.proofs.theorems.have_one_text.Goals as goal

pub returns : goal.returns
returns g c = have_one_text _ _ _ _ _ _ _ _
