use Rattle.hc_step.proofs.Defined.{expr_defined}
use Rattle.hc_step.proofs.arrival.moving_at.Goals as goal

pub value-requires-clause-divisors : goal.value-requires-clause-divisors
value-requires-clause-divisors c = expr_defined _ _ c.requires.ruled
