use Rattle.std.proofs.Common.{◌≡◌, map, take}
use Rattle.hc_cmach.specs.State.{zeros}
use Rattle.hc_cprim.proofs.arrays.rows_of.Given as goal

abbrev pub invariant-loop-array : goal.invariant-loop-array
invariant-loop-array l = l.rows.items ≡ map (λ x. zeros x.length) (take l.array-index l.arrays)
