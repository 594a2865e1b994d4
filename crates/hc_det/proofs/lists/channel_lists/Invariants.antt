use Rattle.std.proofs.Common.{◌≡◌, ◌++◌, drop}
use Rattle.hc_det.specs.Lists.{lists_of, lists_from}
use Rattle.hc_det.proofs.lists.channel_lists.Given as goal

abbrev pub invariant-loop-number : goal.invariant-loop-number
invariant-loop-number l = record {
  within : l.name-items ≡ l.system.channels;
  lists : lists_of l.system l.history ≡ l.lists ++ lists_from l.history l.number (drop l.number l.name-items);
}
