use Rattle.std.proofs.Common.{◌≡◌, drop, IsTrue}
use Rattle.std.specs.Prelude.{nat_lt}
use Rattle.std.specs.List.{list_all}
use Rattle.hc_step.specs.Arriving.{with_shown, rates_shown}
use Rattle.hc_step.proofs.arrival.rates_shown.Given as goal

abbrev pub invariant-loop-one : goal.invariant-loop-one
invariant-loop-one l = record {
  shown : rates_shown l.moving ≡ with_shown l.rates (drop l.one-index l.moving);
  in_range : IsTrue (list_all (λ m. nat_lt m.variable 64) (drop l.one-index l.moving));
}
