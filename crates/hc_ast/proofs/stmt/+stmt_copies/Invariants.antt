use Rattle.std.proofs.Common.{◌≡◌, take}
use Rattle.hc_ast.proofs.stmt.+stmt_copies.Given as goal

abbrev pub invariant-copy_statements-loop-statement : goal.invariant-copy_statements-loop-statement
invariant-copy_statements-loop-statement l = l.found ≡ take l.statement-index l.statements

abbrev pub invariant-copy_branches-loop-branch : goal.invariant-copy_branches-loop-branch
invariant-copy_branches-loop-branch l = l.found ≡ take l.branch-index l.branches
