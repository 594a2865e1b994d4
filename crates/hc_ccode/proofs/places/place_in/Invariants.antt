use Rattle.std.proofs.Common.{◌≡◌, ◌+◌, drop}
use Rattle.hc_cmach.specs.State.{place_of}
use Rattle.hc_ccode.proofs.places.place_in.Given as goal

abbrev pub invariant-loop-at : goal.invariant-loop-at
invariant-loop-at l = place_of l.name l.names ≡ l.at + place_of l.name (drop l.at l.names)
