use Rattle.std.proofs.Common.{refl}
use Rattle.hc_frac.proofs.TextLemmas.{cut}
use Rattle.hc_frac.proofs.reading.halves.Goals as goal

pub returns-clause-first : goal.returns-clause-first
returns-clause-first c = λ q fits e.
    rw c.unwrap_or.ensures (cut q c.args.text.now c.split_once.result _ fits e c.split_once.ensures.cases refl refl).0

pub returns-clause-second : goal.returns-clause-second
returns-clause-second c = λ q fits e.
    rw c.unwrap_or.ensures (cut q c.args.text.now c.split_once.result _ fits e c.split_once.ensures.cases refl refl).1
