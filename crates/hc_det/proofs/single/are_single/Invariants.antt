use Rattle.std.proofs.Common.{◌≡◌, drop}
use Rattle.std.specs.List.{list_all}
use Rattle.hc_order.specs.Determinate.{is_single}
use Rattle.hc_det.proofs.single.are_single.Given as goal

abbrev pub invariant-loop-process : goal.invariant-loop-process
invariant-loop-process l =
    list_all (λ p. list_all is_single p.body) l.processes ≡ list_all (λ p. list_all is_single p.body) (drop l.process-index l.processes)
