use Rattle.hc_cross.proofs.EndsRight.{right, one}
use Rattle.hc_cross.proofs.Delays.{end_after}
use Rattle.hc_cross.proofs.laws.end_moment_laws.Goals as goal

pub returns-clause-right : goal.returns-clause-right
returns-clause-right c = right

pub returns-clause-one : goal.returns-clause-one
returns-clause-one c = one

pub returns-clause-delay : goal.returns-clause-delay
returns-clause-delay c = end_after
