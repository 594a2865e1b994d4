use Rattle.std.proofs.Common.{◌≡◌, drop}
use Rattle.std.specs.List.{list_all}
use Rattle.hc_order.specs.Determinate.{is_single}
use Rattle.hc_det.proofs.single.+single.Given as goal

abbrev pub invariant-all_single-loop-stmt : goal.invariant-all_single-loop-stmt
invariant-all_single-loop-stmt l = list_all is_single l.stmts ≡ list_all is_single (drop l.stmt-index l.stmts)
