-- The code that finds the end moment of a domain: the lines of its comparisons, their crossings, and the search.
use Rattle.std.specs.Prelude.{ℕ, ◌+◌, ◌*◌, List, [], ◌∷◌, ◌++◌, length}
use Rattle.hc_clogic.specs.Loops.{rounds}
use Rattle.hc_term.specs.declared.expr.Expr.{Expr}
use Rattle.hc_term.specs.declared.expr.Cond.{Cond}
use Rattle.hc_cast.specs.declared.stmt.CStmt.{CStmt}
use Rattle.hc_cstep.specs.Stands.{first_scratch}
use Rattle.hc_cend.specs.Searching.{v_i, v_after, v_x, v_y, v_j, v_turn, v_fails}
use Rattle.hc_cend.specs.Places.{Places}
use Rattle.hc_cend.specs.Written.{number}
use Rattle.hc_cend.specs.Tree.{puts}
use Rattle.hc_cend.specs.Search.{set, moves, search}
use Rattle.hc_cend.specs.Preparing.{crossings}
use Rattle.hc_cend.specs.Lining.{compared, guard, gaps_code}

-- the register with 0, and all locals of the search
abbrev pub starts : ℕ → Places → List CStmt
starts t p = puts t p.zero 0 ∷ set v_i 0 ∷ set v_after 0 ∷ set v_x 0 ∷ set v_y 0 ∷ set v_j 0 ∷ set v_turn 0 ∷ set v_fails 0 ∷ []

-- the search, and what it found into the first register of the scratch
abbrev pub finds : ℕ → Places → ℕ → Cond → List CStmt
finds t p n c = search t p n c ++ moves t first_scratch (number p.best) ∷ []

abbrev pub crosses_and_finds : ℕ → Places → ℕ → Cond → List CStmt
crosses_and_finds t p n c = starts t p ++ (crossings t p n ++ guard (finds t p n c) ∷ [])

-- `side d e` is the code of the line of e into register d and the next
abbrev pub end_code : (ℕ → Expr → List CStmt) → ℕ → Places → Cond → List CStmt
end_code side t p c = gaps_code side t p 0 (compared c) ++ guard (crosses_and_finds t p (length (compared c)) c) ∷ []

-- ---- machine steps, for n comparisons and a tree of k steps

abbrev pub point_cost : ℕ → ℕ → ℕ
point_cost n k = 1 + (rounds 8 n + (k + 5))

abbrev pub candidate_cost : ℕ → ℕ → ℕ
candidate_cost n k = 6 + (3 + ((1 + ((3 + rounds (point_cost n k) 2) + 3)) + 2))

abbrev pub search_cost : ℕ → ℕ → ℕ
search_cost n k = 3 + rounds (candidate_cost n k) (n + 1)

abbrev pub crosses_cost : ℕ → ℕ → ℕ
crosses_cost n k = 8 + ((1 + rounds 7 n) + (1 + (search_cost n k + 1)))

-- with so many for the line of a side
abbrev pub end_cost : ℕ → ℕ → ℕ → ℕ
end_cost side n k = n * ((1 + side) + ((1 + side) + (2 + 2))) + (1 + crosses_cost n k)
