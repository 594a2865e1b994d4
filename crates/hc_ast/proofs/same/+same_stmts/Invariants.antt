use Rattle.std.proofs.Common.{◌≡◌, map, take}
use Rattle.hc_ast.specs.Unplaced.{bare_stmt, bare_branch}
use Rattle.hc_ast.proofs.same.+same_stmts.Given as goal

abbrev pub invariant-same_statements-loop-at : goal.invariant-same_statements-loop-at
invariant-same_statements-loop-at l = map bare_stmt (take l.at l.left) ≡ map bare_stmt (take l.at l.right)

abbrev pub invariant-same_branches-loop-at : goal.invariant-same_branches-loop-at
invariant-same_branches-loop-at l = map bare_branch (take l.at l.left) ≡ map bare_branch (take l.at l.right)
