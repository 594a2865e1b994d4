use Rattle.std.proofs.Common.{◌≡◌, take, map}
use Rattle.hc_check.specs.Numbered as spec
use Rattle.hc_check.proofs.numbering.+numbered.Given as goal

abbrev pub invariant-number_stmts-loop-stmt : goal.invariant-number_stmts-loop-stmt
invariant-number_stmts-loop-stmt l = l.found ≡ map (spec.stmt_over l.names.channels.now.keys l.names.variables.now.keys) (take l.stmt-index l.stmts)

abbrev pub invariant-number_branches-loop-branch : goal.invariant-number_branches-loop-branch
invariant-number_branches-loop-branch l = l.found ≡ map (spec.branch_over l.names.channels.now.keys l.names.variables.now.keys) (take l.branch-index l.branches)
