use Rattle.std.proofs.Common.{◌&&◌, IsTrue, take}
use Rattle.std.specs.List.{list_all}
use Rattle.hc_term.specs.declared.stmt.Branch.{out-Branch}
use Rattle.hc_runs.specs.Fractions.{numbers_sent, all_numbers}
use Rattle.hc_runs.proofs.numbers.+statements.Given as goal

abbrev pub invariant-read_all-loop-stmt : goal.invariant-read_all-loop-stmt
invariant-read_all-loop-stmt l = IsTrue (all_numbers (take l.stmt-index l.stmts))

abbrev pub invariant-read_branches-loop-branch : goal.invariant-read_branches-loop-branch
invariant-read_branches-loop-branch l =
    IsTrue (list_all (λ b. numbers_sent (out-Branch b).io && all_numbers (out-Branch b).body) (take l.branch-index l.branches))
