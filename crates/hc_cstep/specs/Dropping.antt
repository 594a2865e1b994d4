-- An arrived process goes on where it has a bound and the bound is 0, and else waits.
use Rattle.std.specs.Prelude.{ℕ, List, [], ◌∷◌, pos, Some, codes}
use Rattle.hc_cast.specs.declared.expr.COp.TheVariants as op
use Rattle.hc_cast.specs.declared.expr.CExpr.TheVariants as e
use Rattle.hc_cast.specs.declared.stmt.CStmt.{CStmt}
use Rattle.hc_cast.specs.declared.stmt.CStmt.TheVariants as a
use Rattle.hc_cstep.specs.Locals.{v_place, v_mark, v_bounded, v_truth}

-- v_truth = fr_sign(p, 66); v_truth = v_bounded == 1 && v_truth == 0;
abbrev pub is_over : ℕ → List CStmt
is_over p =
    a.Call (Some v_truth) (codes "fr_sign") (e.Number (pos p) ∷ e.Number (pos 66) ∷ [])
    ∷ a.Set v_truth
    (e.Binary op.And (e.Binary op.Equal (e.Local v_bounded) (e.Number (pos 1))) (e.Binary op.Equal (e.Local v_truth) (e.Number (pos 0))))
    ∷ []

-- v_mark = 0; v_bounded = 0; v_place = next;
abbrev pub leaves : ℕ → List CStmt
leaves next = a.Set v_mark (e.Number (pos 0)) ∷ a.Set v_bounded (e.Number (pos 0)) ∷ a.Set v_place (e.Number (pos next)) ∷ []
