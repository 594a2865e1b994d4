use Rattle.std.proofs.Common.{◌≡◌, take, vec_len}
use Rattle.hc_member.specs.States.{AllOpen}
use Rattle.hc_member.proofs.members.open_all.Given as goal

abbrev pub invariant-loop-process : goal.invariant-loop-process
invariant-loop-process l = record {
  counted : vec_len l.members ≡ l.process-index;
  opened : AllOpen (take l.process-index l.processes) l.members.items;
}
