use Rattle.std.proofs.Common.{◌≡◌, take}
use Rattle.hc_term.proofs.stmt.+stmt_copies.Given as goal

abbrev pub invariant-copy_statements-loop-stmt : goal.invariant-copy_statements-loop-stmt
invariant-copy_statements-loop-stmt l = l.found ≡ take l.stmt-index l.stmts

abbrev pub invariant-copy_branches-loop-branch : goal.invariant-copy_branches-loop-branch
invariant-copy_branches-loop-branch l = l.found ≡ take l.branch-index l.branches
