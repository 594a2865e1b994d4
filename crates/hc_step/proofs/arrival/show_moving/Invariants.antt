use Rattle.std.proofs.Common.{◌≡◌, drop, take, length, IsTrue}
use Rattle.std.specs.Prelude.{nat_lt}
use Rattle.std.specs.List.{list_all}
use Rattle.hc_term.specs.Profile.{is_expr}
use Rattle.hc_term.specs.Offers.{moving_of}
use Rattle.hc_term.specs.Silent.{rates_fit}
use Rattle.hc_step.proofs.arrival.show_moving.Given as goal

abbrev pub invariant-loop-rate : goal.invariant-loop-rate
invariant-loop-rate l = record {
  shown : l.moving ≡ moving_of l.store (take l.rate-index l.rates);
  in_range : IsTrue (list_all (λ r. nat_lt r.variable (length l.store)) (drop l.rate-index l.rates));
  ruled : IsTrue (list_all (λ r. is_expr (length l.store) r.value) (drop l.rate-index l.rates));
  fits : rates_fit l.store l.rates ≡ rates_fit l.store (drop l.rate-index l.rates);
}
