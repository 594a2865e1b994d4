-- What is kept where programs are made ready.
use Rattle.std.specs.Prelude.{◌≡◌, Bool, List}
use Rattle.hc_cast.specs.declared.expr.CExpr.{CExpr}
use Rattle.hc_cast.specs.declared.program.CProgram.{CProgram}
use Rattle.hc_cmach.specs.State.{Frame, Shared}
use Rattle.hc_cmach.specs.Expression.{worth, worths}
use Rattle.hc_ccode.specs.Placed.{placed, placed_all}
use Rattle.hc_cprim.specs.Worth.{worth_at, worths_at, seen_by}

-- a formula is worth what its expression is
abbrev pub FormulasAreWorthTheSame : Type 0
FormulasAreWorthTheSame =
    (g : CProgram) (q : Frame) (m : Shared) (owns : Bool) (e : CExpr) →
    worth_at q.values owns m.arrays (placed g q.names e) ≡ worth g q (seen_by owns m) e

-- and several are worth what theirs are
abbrev pub ListsAreWorthTheSame : Type 0
ListsAreWorthTheSame =
    (g : CProgram) (q : Frame) (m : Shared) (owns : Bool) (es : List CExpr) →
    worths_at q.values owns m.arrays (placed_all g q.names es) ≡ worths g q (seen_by owns m) es
