use Rattle.std.proofs.Common.{◌≡◌, drop}
use Rattle.hc_verify.specs.Places.{name_from}
use Rattle.hc_verify.proofs.names.find_name.Given as goal

abbrev pub invariant-loop-one : goal.invariant-loop-one
invariant-loop-one l = record {
  counted : l.number ≡ l.one-index;
  same : name_from l.name 0 l.names ≡ name_from l.name l.number (drop l.one-index l.names);
}
