use Rattle.std.proofs.Common.{◌≡◌, drop}
use Rattle.hc_step.specs.Delaying.{with_values}
use Rattle.hc_step.proofs.delay.set_values.Given as goal

abbrev pub invariant-loop-one : goal.invariant-loop-one
invariant-loop-one l = with_values l.fn.store l.moving ≡ with_values l.store (drop l.one-index l.moving)
