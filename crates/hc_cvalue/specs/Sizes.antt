-- The code of expressions, conditions and lines is linear in their nodes: its statements, those inside others counted.
use Rattle.std.specs.Prelude.{◌≤◌, ℕ, ◌+◌, ◌*◌}
use Rattle.hc_term.specs.declared.expr.Expr.{Expr}
use Rattle.hc_term.specs.declared.expr.Cond.{Cond}
use Rattle.hc_term.specs.Motion.{Rates}
use Rattle.hc_term.specs.Profile.{nodes, nodes_in}
use Rattle.hc_cstep.specs.Size.{sizes}
use Rattle.hc_cvalue.specs.Values.{value_code}
use Rattle.hc_cvalue.specs.Truths.{test_code}
use Rattle.hc_cvalue.specs.Lines.{line_code}

abbrev pub ValuesAreShort : Type 0
ValuesAreShort = (p d : ℕ) (e : Expr) → sizes (value_code p d e) ≤ 2 * nodes e

abbrev pub TestsAreShort : Type 0
TestsAreShort = (p d : ℕ) (c : Cond) → sizes (test_code p d c) ≤ 5 * nodes_in c + 1

abbrev pub LinesAreShort : Type 0
LinesAreShort = (p d : ℕ) (pattern : Rates) (e : Expr) → sizes (line_code p pattern d e) ≤ 4 * nodes e
