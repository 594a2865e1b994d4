use Rattle.std.proofs.Common.{◌≡◌, length}
use Rattle.hc_cprim.proofs.Along.{IsAlong}
use Rattle.hc_cprim.proofs.value.values_of.Given as goal

abbrev pub invariant-loop-place : goal.invariant-loop-place
invariant-loop-place l = record {
  kept : length l.into ≡ length l.fn.into;
  along : IsAlong l.values l.owns l.arrays l.formulas l.into l.place;
}
