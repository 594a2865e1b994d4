-- The bound of a wait: the greater of 0 and its value, and the moment at which it runs out must fit.
use Rattle.std.specs.Prelude.{ℕ, List, [], ◌∷◌, map, pos, Some, None, codes}
use Rattle.hc_cast.specs.declared.expr.COp.TheVariants as op
use Rattle.hc_cast.specs.declared.expr.CExpr.{CExpr}
use Rattle.hc_cast.specs.declared.expr.CExpr.TheVariants as e
use Rattle.hc_cast.specs.declared.stmt.CStmt.{CStmt}
use Rattle.hc_cast.specs.declared.stmt.CStmt.TheVariants as a
use Rattle.hc_cstep.specs.Locals.{v_ok, v_truth}

abbrev numbers : List ℕ → List CExpr
numbers ns = map (λ n. e.Number (pos n)) ns

-- Register 320 becomes the greater of 0 and what stands there, and v_ok 0 where the clock plus that is later than now and doesn't fit.
-- fr_set(p, 321, 0, 1); v_truth = fr_cmp(p, 321, 320); if (v_truth == 1) { fr_move(p, 320, p, 321); }
-- if (v_ok == 1 && v_truth < 0) { v_ok = fr_add(p, 322, 64, 320); } v_truth = 0;
abbrev pub bounds : ℕ → List CStmt
bounds p =
    a.Call None (codes "fr_set") (numbers (p ∷ 321 ∷ 0 ∷ 1 ∷ []))
    ∷ a.Call (Some v_truth) (codes "fr_cmp") (numbers (p ∷ 321 ∷ 320 ∷ []))
    ∷ a.If (e.Binary op.Equal (e.Local v_truth) (e.Number (pos 1))) (a.Call None (codes "fr_move") (numbers (p ∷ 320 ∷ p ∷ 321 ∷ [])) ∷ []) None
    ∷ a.If (e.Binary op.And (e.Binary op.Equal (e.Local v_ok) (e.Number (pos 1))) (e.Binary op.Less (e.Local v_truth) (e.Number (pos 0))))
    (a.Call (Some v_ok) (codes "fr_add") (numbers (p ∷ 322 ∷ 64 ∷ 320 ∷ [])) ∷ []) None
    ∷ a.Set v_truth (e.Number (pos 0))
    ∷ []
