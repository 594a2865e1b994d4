use Rattle.std.proofs.Common.{◌≡◌, map, flat_map, fold, drop}
use Rattle.hc_modules.specs.Calls.{bindings}
use Rattle.hc_modules.specs.Counted.{add}
use Rattle.hc_modules.specs.Outermost.{outermost, branch_outermost}
use Rattle.hc_modules.specs.Replaced.{stmt_in, branch_in}
use Rattle.hc_modules.proofs.nodes.NodeCount.+node_counts.Given as goal

abbrev pub invariant-stmts-loop-stmt : goal.invariant-stmts-loop-stmt
invariant-stmts-loop-stmt l =
    fold add l.fn.self (flat_map outermost (map (stmt_in (bindings l.call)) l.stmts))
    ≡ fold add l.count (flat_map outermost (map (stmt_in (bindings l.call)) (drop l.stmt-index l.stmts)))

abbrev pub invariant-branches-loop-branch : goal.invariant-branches-loop-branch
invariant-branches-loop-branch l =
    fold add l.fn.self (flat_map branch_outermost (map (branch_in (bindings l.call)) l.branches))
    ≡ fold add l.count (flat_map branch_outermost (map (branch_in (bindings l.call)) (drop l.branch-index l.branches)))
