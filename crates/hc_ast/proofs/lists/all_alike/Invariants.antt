use Rattle.std.proofs.Common.{◌≡◌, map, take}
use Rattle.hc_ast.proofs.lists.all_alike.Given as goal

abbrev pub invariant-loop-at : goal.invariant-loop-at
invariant-loop-at g l = map g.T.Alike.bare (take l.at l.left) ≡ map g.T.Alike.bare (take l.at l.right)
