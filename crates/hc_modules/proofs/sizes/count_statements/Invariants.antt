use Rattle.std.proofs.Common.{◌≡◌, ◌≤◌, map, take, drop}
use Rattle.hc_modules.specs.Expansion.{flat_process}
use Rattle.hc_modules.specs.Found.{count_of}
use Rattle.hc_modules.specs.Finds.{statements_too_many}
use Rattle.hc_modules.specs.Sizes.{all_statements}
use Rattle.hc_modules.proofs.StatementCount.{too_many_behind}
use Rattle.hc_modules.proofs.sizes.count_statements.Given as goal

abbrev pub invariant-loop-process : goal.invariant-loop-process
invariant-loop-process l = record {
  rest : count_of (statements_too_many (map (flat_process l.modules) l.processes)) (all_statements (map (flat_process l.modules) l.processes))
      ≡ count_of (too_many_behind (map (flat_process l.modules) (take l.process-index l.processes)) (map (flat_process l.modules) (drop l.process-index l.processes)))
      (all_statements (map (flat_process l.modules) l.processes));
  counted : l.counted ≡ all_statements (map (flat_process l.modules) (take l.process-index l.processes));
  few : l.counted ≤ 10000;
}
