use Rattle.std.proofs.Common.{◌≡◌, ◌+◌, drop, map}
use Rattle.hc_cmach.specs.State.{place_of}
use Rattle.hc_ccode.proofs.places.array_in.Given as goal

abbrev pub invariant-loop-at : goal.invariant-loop-at
invariant-loop-at l =
    place_of l.name (map (λ a. a.name) l.program.arrays) ≡ l.at + place_of l.name (map (λ a. a.name) (drop l.at l.program.arrays))
