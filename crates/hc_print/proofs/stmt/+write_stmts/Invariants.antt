use Rattle.std.proofs.Common.{◌≡◌, ◌++◌, drop}
use Rattle.hc_ast.specs.Unplaced.{bare_stmts, bare_branches}
use Rattle.hc_print.specs.Lexemes.{Lexemes}
use Rattle.hc_print.specs.Written.{written}
use Rattle.hc_print.specs.CanonStmts.{stmts, more_stmts, branches, more_branches}
use Rattle.hc_print.proofs.stmt.+write_stmts.Given as goal

abbrev pub invariant-write_stmts-loop-statement : goal.invariant-write_stmts-loop-statement
invariant-write_stmts-loop-statement l = (w : Lexemes)
    → l.out.bytes.items ++ written (more_stmts (bare_stmts (drop l.statement-index l.more)) w)
    ≡ l.fn.out.bytes.items ++ written (stmts (bare_stmts l.fn.statements) w)

abbrev pub invariant-write_branches-loop-branch : goal.invariant-write_branches-loop-branch
invariant-write_branches-loop-branch l = (w : Lexemes)
    → l.out.bytes.items ++ written (more_branches (bare_branches (drop l.branch-index l.more)) w)
    ≡ l.fn.out.bytes.items ++ written (branches (bare_branches l.fn.branches) w)
