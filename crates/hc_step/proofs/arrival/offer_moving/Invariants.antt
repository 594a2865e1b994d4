use Rattle.std.proofs.Common.{◌≡◌, ℕ, drop, take, length, IsTrue}
use Rattle.std.specs.List.{list_all}
use Rattle.hc_term.specs.Profile.{is_io, sends_affine}
use Rattle.hc_term.specs.Silent.{guard_fits}
use Rattle.hc_step.specs.Arriving.{offers_in}
use Rattle.hc_step.proofs.arrival.offer_moving.Given as goal

abbrev pub invariant-loop-way : goal.invariant-loop-way
invariant-loop-way l = record {
  offered : l.offers ≡ offers_in l.store l.rates (take l.way-index l.ways);
  ruled : (channels : ℕ) × IsTrue (list_all (λ w. is_io channels (length l.store) w.io) (drop l.way-index l.ways));
  affine : IsTrue (list_all (λ w. sends_affine l.rates w.io) (drop l.way-index l.ways));
  fits : list_all (λ w. guard_fits l.store l.rates w.io) l.ways ≡ list_all (λ w. guard_fits l.store l.rates w.io) (drop l.way-index l.ways);
}
