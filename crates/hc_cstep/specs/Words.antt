-- Short words to write statements in.
use Rattle.std.specs.Prelude.{ℕ, List, [], ◌∷◌, map, pos, None, codes}
use Rattle.hc_cast.specs.declared.expr.COp.TheVariants as op
use Rattle.hc_cast.specs.declared.expr.CExpr.{CExpr}
use Rattle.hc_cast.specs.declared.expr.CExpr.TheVariants as e
use Rattle.hc_cast.specs.declared.stmt.CStmt.{CStmt}
use Rattle.hc_cast.specs.declared.stmt.CStmt.TheVariants as a
use Rattle.hc_cmach.specs.State.{Word}
use Rattle.hc_cstep.specs.Locals.{v_ok}

abbrev pub number : ℕ → CExpr
number n = e.Number (pos n)

abbrev pub set : Word → ℕ → CStmt
set x n = a.Set x (number n)

abbrev pub is : Word → ℕ → CExpr
is x n = e.Binary op.Equal (e.Local x) (number n)

-- register d of row p becomes register x
abbrev pub move : ℕ → ℕ → ℕ → CStmt
move p d x = a.Call None (codes "fr_move") (number p ∷ number d ∷ number p ∷ number x ∷ [])

-- register x of row p becomes 0
abbrev pub clear : ℕ → ℕ → CStmt
clear p x = a.Call None (codes "fr_set") (number p ∷ number x ∷ number 0 ∷ number 1 ∷ [])

-- ---- blocks, as long as all fits

-- if (v_ok == 1) { .. }
abbrev pub guarded : List CStmt → CStmt
guarded ss = a.If (is v_ok 1) ss None

-- one after the other
abbrev pub each : List (List CStmt) → List CStmt
each blocks = map guarded blocks
