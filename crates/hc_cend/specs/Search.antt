-- The search for the end moment: candidate by candidate, each at two points, its moment and just after it.
use Rattle.std.specs.Prelude.{ℕ, ◌+◌, List, [], ◌∷◌, ◌++◌, Some, None, codes}
use Rattle.hc_term.specs.declared.expr.Cond.{Cond}
use Rattle.hc_cast.specs.declared.expr.CExpr.{CExpr}
use Rattle.hc_cast.specs.declared.expr.CExpr.TheVariants as e
use Rattle.hc_cast.specs.declared.expr.COp.TheVariants as op
use Rattle.hc_cast.specs.declared.stmt.CStmt.{CStmt}
use Rattle.hc_cast.specs.declared.stmt.CStmt.TheVariants as a
use Rattle.hc_cmach.specs.State.{Word}
use Rattle.hc_cstep.specs.Locals.{v_truth}
use Rattle.hc_cend.specs.Searching.{v_i, v_after, v_x, v_y, v_j, v_turn, v_fails}
use Rattle.hc_cend.specs.Places.{Places}
use Rattle.hc_cend.specs.Written.{number, own, is_number, compares, signs, are_opposite, all_signs}
use Rattle.hc_cend.specs.Tree.{tree, puts, reads}

abbrev pub set : Word → ℕ → CStmt
set x n = a.Set x (number n)

-- x = x + 1;
abbrev pub adds_one : Word → CStmt
adds_one x = a.Set x (e.Binary op.Add (e.Local x) (number 1))

abbrev pub is_below : Word → ℕ → CExpr
is_below x n = e.Binary op.Less (e.Local x) (number n)

-- register d becomes register x
abbrev pub moves : ℕ → ℕ → CExpr → CStmt
moves t d x = a.Call None (codes "fr_move") (number t ∷ number d ∷ number t ∷ x ∷ [])

-- ---- one candidate, which stands in MOMENT

-- v_x = fr_sign(t, TRUTH); if (v_x == 0) { v_fails = 1; } v_after = 1; v_turn = v_turn + 1;
abbrev pub notes : ℕ → Places → List CStmt
notes t p = reads t p.truth ∷ a.If (is_number v_x 0) (set v_fails 1 ∷ []) None ∷ set v_after 1 ∷ adds_one v_turn ∷ []

-- the truth of the domain at one point
abbrev pub point : ℕ → Places → ℕ → Cond → List CStmt
point t p n c = set v_i 0 ∷ (all_signs t p n ++ ((tree t p c).code p.sign p.truth ++ notes t p))

-- v_fails = 0; v_after = 0; v_turn = 0; while (v_turn < 2) { .. }
abbrev pub trial : ℕ → Places → ℕ → Cond → List CStmt
trial t p n c = set v_fails 0 ∷ set v_after 0 ∷ set v_turn 0 ∷ a.While (is_below v_turn 2) (point t p n c) ∷ []

-- ---- candidate number v_j: now, and else the crossing of comparison v_i, which is the one before

-- fr_move(t, MOMENT, t, CROSSING + v_i); v_x = 1;
abbrev pub takes_crossing : ℕ → Places → List CStmt
takes_crossing t p = moves t p.moment (own p.crossing) ∷ set v_x 1 ∷ []

-- fr_set(t, MOMENT, 0, 1); v_x = 1;
abbrev pub takes_now : ℕ → Places → List CStmt
takes_now t p = puts t p.moment 0 ∷ set v_x 1 ∷ []

-- the crossing of comparison v_i, if it has one
abbrev pub takes_later : ℕ → Places → List CStmt
takes_later t p = signs t p ++ a.If are_opposite (takes_crossing t p) (Some (set v_x 0 ∷ [])) ∷ []

-- v_x says whether there is one
abbrev pub chooses : ℕ → Places → List CStmt
chooses t p = a.If (is_number v_j 0) (takes_now t p) (Some (takes_later t p)) ∷ []

-- if (v_x == 1 && v_truth == 1) { v_y = fr_cmp(t, MOMENT, BEST); v_x = v_y < 0; }
abbrev pub betters : ℕ → Places → List CStmt
betters t p =
    a.If (e.Binary op.And (is_number v_x 1) (is_number v_truth 1))
    (compares t v_y (number p.moment) (number p.best) ∷ a.Set v_x (e.Binary op.Less (e.Local v_y) (number 0)) ∷ []) None
    ∷ []

-- if (v_fails == 1) { fr_move(t, BEST, t, MOMENT); v_truth = 1; }
abbrev pub keeps : ℕ → Places → List CStmt
keeps t p = a.If (is_number v_fails 1) (moves t p.best (number p.moment) ∷ set v_truth 1 ∷ []) None ∷ []

abbrev pub tries : ℕ → Places → ℕ → Cond → List CStmt
tries t p n c = a.If (is_number v_x 1) (trial t p n c ++ keeps t p) None ∷ []

-- v_i = v_j; v_j = v_j + 1;
abbrev pub goes_on : List CStmt
goes_on = a.Set v_i (e.Local v_j) ∷ adds_one v_j ∷ []

abbrev pub candidate : ℕ → Places → ℕ → Cond → List CStmt
candidate t p n c = chooses t p ++ (betters t p ++ (tries t p n c ++ goes_on))

-- v_truth = 0; v_i = 0; v_j = 0; while (v_j < m + 1) { .. }
abbrev pub search : ℕ → Places → ℕ → Cond → List CStmt
search t p n c = set v_truth 0 ∷ set v_i 0 ∷ set v_j 0 ∷ a.While (is_below v_j (n + 1)) (candidate t p n c) ∷ []
