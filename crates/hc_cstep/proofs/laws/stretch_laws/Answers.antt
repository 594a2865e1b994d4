use Rattle.hc_cstep.proofs.Whole.{private_law}
use Rattle.hc_cstep.proofs.Alone.{private_alone}
use Rattle.hc_cstep.proofs.Made.{ruled_code_is_made}
use Rattle.hc_cstep.proofs.Sizes.{private_size}
use Rattle.hc_cstep.proofs.Counts.{stretch_within}
use Rattle.hc_cstep.proofs.laws.stretch_laws.Goals as goal

pub returns-clause-stretch : goal.returns-clause-stretch
returns-clause-stretch c =
    λ g p low b t channels vars few room clock n late most seed parts works code agree ruled.
    private_law g p low b t channels vars few room clock n late most seed parts works code agree ruled

pub returns-clause-alone : goal.returns-clause-alone
returns-clause-alone c = private_alone

pub returns-clause-made : goal.returns-clause-made
returns-clause-made c = ruled_code_is_made

pub returns-clause-short : goal.returns-clause-short
returns-clause-short c = private_size

pub returns-clause-quick : goal.returns-clause-quick
returns-clause-quick c = stretch_within
