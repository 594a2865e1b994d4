use Rattle.std.proofs.Common.{◌≡◌, map, take}
use Rattle.hc_modules.specs.Calls.{bindings}
use Rattle.hc_modules.specs.Replaced.{stmt_in, branch_in}
use Rattle.hc_modules.proofs.replaced.+stmts.Given as goal

abbrev pub invariant-statements_in-loop-statement : goal.invariant-statements_in-loop-statement
invariant-statements_in-loop-statement l = l.found ≡ map (stmt_in (bindings l.call)) (take l.statement-index l.statements)

abbrev pub invariant-branches_in-loop-branch : goal.invariant-branches_in-loop-branch
invariant-branches_in-loop-branch l = l.found ≡ map (branch_in (bindings l.call)) (take l.branch-index l.branches)
