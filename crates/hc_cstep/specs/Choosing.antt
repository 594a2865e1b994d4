-- Internal choice: which side is taken is a bit of the seed, and so a constant set of numbers of choices, counted modulo 64.
use Rattle.std.specs.Prelude.{ℕ, zero, suc, Bool, true, false, not, nat_le, if◌then◌else◌, List, [], ◌∷◌, length, pos, Some, None}
use Rattle.hc_term.specs.Silent.{picks_left}
use Rattle.hc_cast.specs.declared.expr.COp.TheVariants as op
use Rattle.hc_cast.specs.declared.expr.CExpr.{CExpr}
use Rattle.hc_cast.specs.declared.expr.CExpr.TheVariants as e
use Rattle.hc_cast.specs.declared.stmt.CStmt.{CStmt}
use Rattle.hc_cast.specs.declared.stmt.CStmt.TheVariants as a
use Rattle.hc_cstep.specs.Locals.{v_place, v_choices}

-- the numbers below n that pass, the greatest first
abbrev pub among : (ℕ → Bool) → ℕ → List ℕ
among f zero = []
among f (suc n) = if f n then n ∷ among f n else among f n

-- those at which the left side is taken, or the right one
abbrev pub on_side : (ℕ → Bool) → Bool → ℕ → Bool
on_side f true k = f k
on_side f false k = not (f k)

-- all of them, the greatest first
unfoldable pub numbers_of : (ℕ → Bool) → Bool → List ℕ
numbers_of f left = among (on_side f left) 64

-- v_choices == n
abbrev pub chosen_is : ℕ → CExpr
chosen_is n = e.Binary op.Equal (e.Local v_choices) (e.Number (pos n))

abbrev pub any_behind : CExpr → List ℕ → CExpr
any_behind before [] = before
any_behind before (n ∷ ns) = any_behind (e.Binary op.Or before (chosen_is n)) ns

-- v_choices == n || v_choices == m || ..
abbrev pub any_of : List ℕ → CExpr
any_of [] = e.Number (pos 0)
any_of (n ∷ ns) = any_behind (chosen_is n) ns

abbrev pub takes_side : List ℕ → ℕ → ℕ → CStmt
takes_side ns first second =
    a.If (any_of ns) (a.Set v_place (e.Number (pos first)) ∷ []) (Some (a.Set v_place (e.Number (pos second)) ∷ []))

-- by the numbers of the left side, or by those of the right where they are fewer
abbrev pub side_by : (ℕ → Bool) → Bool → ℕ → ℕ → CStmt
side_by f true left right = takes_side (among f 64) left right
side_by f false left right = takes_side (among (λ k. not (f k)) 64) right left

unfoldable pub side_of : (ℕ → Bool) → ℕ → ℕ → CStmt
side_of f left right = side_by f (nat_le (length (among f 64)) 32) left right

-- v_choices = v_choices + 1; if (v_choices == 64) { v_choices = 0; }
abbrev pub counts_choice : List CStmt
counts_choice =
    a.Set v_choices (e.Binary op.Add (e.Local v_choices) (e.Number (pos 1)))
    ∷ a.If (chosen_is 64) (a.Set v_choices (e.Number (pos 0)) ∷ []) None
    ∷ []

-- the acts of the step of process p
abbrev pub picks : ℕ → ℕ → ℕ → ℕ → List CStmt
picks p seed left right = side_by (picks_left seed p) (nat_le (length (among (picks_left seed p) 64)) 32) left right ∷ counts_choice
