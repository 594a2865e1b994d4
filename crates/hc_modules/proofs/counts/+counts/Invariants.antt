use Rattle.std.proofs.Common.{◌≡◌, min, take, sum_by}
use Rattle.hc_ast.specs.declared.stmt.BranchTree.{out-BranchTree}
use Rattle.hc_modules.specs.Sizes.{statements}
use Rattle.hc_modules.proofs.counts.+counts.Given as goal

abbrev pub invariant-statements_of_all-loop-stmt : goal.invariant-statements_of_all-loop-stmt
invariant-statements_of_all-loop-stmt l = l.total ≡ min (sum_by statements (take l.stmt-index l.stmts)) 4294967295

abbrev pub invariant-statements_of_branches-loop-branch : goal.invariant-statements_of_branches-loop-branch
invariant-statements_of_branches-loop-branch l = l.total ≡ min (sum_by (λ b. sum_by statements (out-BranchTree b).body) (take l.branch-index l.branches)) 4294967295
