use Rattle.std.proofs.Common.{◌≡◌, take}
use Rattle.hc_ccode.specs.Placed.{placed_all}
use Rattle.hc_ccode.proofs.formula.placed_all.Given as goal

abbrev pub invariant-loop-expr : goal.invariant-loop-expr
invariant-loop-expr l = l.found ≡ placed_all l.program l.names (take l.expr-index l.exprs)
