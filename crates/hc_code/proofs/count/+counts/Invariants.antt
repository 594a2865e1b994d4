use Rattle.std.proofs.Common.{◌≡◌, take, sum_by}
use Rattle.hc_term.specs.Rules.{statements}
use Rattle.hc_code.specs.Pieces.{branch_statements}
use Rattle.hc_code.proofs.count.+counts.Given as goal

abbrev pub invariant-count_all-loop-stmt : goal.invariant-count_all-loop-stmt
invariant-count_all-loop-stmt l = l.total ≡ sum_by statements (take l.stmt-index l.stmts)

abbrev pub invariant-count_branches-loop-branch : goal.invariant-count_branches-loop-branch
invariant-count_branches-loop-branch l = l.total ≡ branch_statements (take l.branch-index l.branches)
