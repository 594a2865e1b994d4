use Rattle.std.proofs.Common.{◌≡◌, ◌++◌, drop}
use Rattle.hc_order.specs.Determinate.{handed}
use Rattle.hc_det.proofs.lists.handed_on.Given as goal

abbrev pub invariant-loop-item : goal.invariant-loop-item
invariant-loop-item l = handed l.channel l.history ≡ l.found ++ handed l.channel (drop l.item-index l.history)
