use Rattle.std.proofs.Common.{ap}
use Rattle.hc_print.specs.Canonical.{source}
use Rattle.hc_print.specs.Written.{written}
use Rattle.hc_print.proofs.ReadsBack.{reads_back}
use Rattle.hc_print.proofs.laws.reading_back.Goals as goal

pub returns-clause-reads_back : goal.returns-clause-reads_back
returns-clause-reads_back c = reads_back

pub returns-clause-forgets_places : goal.returns-clause-forgets_places
returns-clause-forgets_places c = λ t u e. ap (λ x. written (source x)) e
