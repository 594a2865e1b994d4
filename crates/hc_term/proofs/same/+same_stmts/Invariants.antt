use Rattle.std.proofs.Common.{◌≡◌, take}
use Rattle.hc_term.proofs.same.+same_stmts.Given as goal

abbrev pub invariant-same_stmts-loop-at : goal.invariant-same_stmts-loop-at
invariant-same_stmts-loop-at l = take l.at l.left ≡ take l.at l.right

abbrev pub invariant-same_branches-loop-at : goal.invariant-same_branches-loop-at
invariant-same_branches-loop-at l = take l.at l.left ≡ take l.at l.right
