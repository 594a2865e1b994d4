use Rattle.std.proofs.Common.{◌≡◌, ℕ, [], drop, take, length, IsTrue}
use Rattle.std.specs.List.{list_all}
use Rattle.hc_term.specs.Profile.{is_io}
use Rattle.hc_term.specs.Silent.{sent_fits}
use Rattle.hc_step.specs.Arriving.{offers_in}
use Rattle.hc_step.proofs.arrival.offer_plain.Given as goal

abbrev pub invariant-loop-way : goal.invariant-loop-way
invariant-loop-way l = record {
  offered : l.offers ≡ offers_in l.store [] (take l.way-index l.ways);
  ruled : (channels : ℕ) × IsTrue (list_all (λ w. is_io channels (length l.store) w.io) (drop l.way-index l.ways));
  fits : list_all (λ w. sent_fits l.store w.io) l.ways ≡ list_all (λ w. sent_fits l.store w.io) (drop l.way-index l.ways);
}
