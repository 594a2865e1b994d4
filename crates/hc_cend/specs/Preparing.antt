-- The crossings of the comparisons, once their lines are known: v_ok becomes 0 where one of them doesn't fit.
use Rattle.std.specs.Prelude.{ℕ, List, [], ◌∷◌, ◌++◌, Some, None, codes}
use Rattle.hc_cast.specs.declared.stmt.CStmt.{CStmt}
use Rattle.hc_cast.specs.declared.stmt.CStmt.TheVariants as a
use Rattle.hc_cstep.specs.Locals.{v_ok}
use Rattle.hc_cend.specs.Searching.{v_i}
use Rattle.hc_cend.specs.Places.{Places}
use Rattle.hc_cend.specs.Written.{number, own, is_number, signs, are_opposite, counts}
use Rattle.hc_cend.specs.Search.{set, is_below}

-- fr_neg(t, CROSSING + v_i, AT + v_i); v_ok = fr_div(t, CROSSING + v_i, CROSSING + v_i, SLOPE + v_i);
abbrev pub divides : ℕ → Places → List CStmt
divides t p =
    a.Call None (codes "fr_neg") (number t ∷ own p.crossing ∷ own p.at ∷ [])
    ∷ a.Call (Some v_ok) (codes "fr_div") (number t ∷ own p.crossing ∷ own p.crossing ∷ own p.slope ∷ [])
    ∷ []

-- if (v_ok == 1) { .. }
abbrev pub divides_if : ℕ → Places → List CStmt
divides_if t p = a.If (is_number v_ok 1) (divides t p) None ∷ []

abbrev pub one_crossing : ℕ → Places → List CStmt
one_crossing t p = signs t p ++ (a.If are_opposite (divides_if t p) None ∷ counts ∷ [])

-- v_i = 0; while (v_i < m) { .. }
abbrev pub crossings : ℕ → Places → ℕ → List CStmt
crossings t p n = set v_i 0 ∷ a.While (is_below v_i n) (one_crossing t p) ∷ []
