use Rattle.std.proofs.Common.{◌≡◌, drop, map}
use Rattle.hc_cmach.specs.State.{place_of, length_at}
use Rattle.hc_ccode.proofs.places.array_len.Given as goal

abbrev pub invariant-loop-array : goal.invariant-loop-array
invariant-loop-array l =
    length_at (drop l.array-index l.program.arrays) (place_of l.name (map (λ a. a.name) (drop l.array-index l.program.arrays)))
    ≡ length_at l.program.arrays (place_of l.name (map (λ a. a.name) l.program.arrays))
