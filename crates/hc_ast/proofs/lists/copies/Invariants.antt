use Rattle.std.proofs.Common.{◌≡◌, take}
use Rattle.hc_ast.proofs.lists.copies.Given as goal

abbrev pub invariant-loop-part : goal.invariant-loop-part
invariant-loop-part g l = l.found ≡ take l.part-index l.parts
