use Rattle.std.proofs.Common.{◌≡◌, ◌||◌, drop}
use Rattle.std.specs.List.{list_any}
use Rattle.hc_term.specs.declared.stmt.Branch.{out-Branch}
use Rattle.hc_term.specs.Rules.{is_on, uses}
use Rattle.hc_term.proofs.ends.+uses.Given as goal

abbrev pub invariant-any_using-loop-stmt : goal.invariant-any_using-loop-stmt
invariant-any_using-loop-stmt l =
    list_any (uses l.sending l.channel) l.stmts ≡ list_any (uses l.sending l.channel) (drop l.stmt-index l.stmts)

abbrev pub invariant-any_branch_using-loop-branch : goal.invariant-any_branch_using-loop-branch
invariant-any_branch_using-loop-branch l =
    list_any (λ b. is_on l.sending l.channel (out-Branch b).io || list_any (uses l.sending l.channel) (out-Branch b).body) l.branches ≡
    list_any (λ b. is_on l.sending l.channel (out-Branch b).io || list_any (uses l.sending l.channel) (out-Branch b).body) (drop l.branch-index l.branches)
