use Rattle.std.proofs.Common.{◌≡◌, map, fold, drop}
use Rattle.hc_modules.specs.Counted.{add}
use Rattle.hc_modules.specs.Expansion.{flat_process}
use Rattle.hc_modules.specs.Outermost.{all_outermost}
use Rattle.hc_modules.specs.declared.nodes.NodeCount.TheVariants.{Within}
use Rattle.hc_modules.proofs.sizes.count_nodes.Given as goal

abbrev pub invariant-loop-process : goal.invariant-loop-process
invariant-loop-process l =
    fold add (Within 0) (all_outermost (map (flat_process l.modules) l.processes))
    ≡ fold add l.count (all_outermost (map (flat_process l.modules) (drop l.process-index l.processes)))
