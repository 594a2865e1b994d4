-- The lines of the comparisons, worked out one by one by code of their sides: left minus right, value and slope.
use Rattle.std.specs.Prelude.{◌≡◌, ◌≤◌, ℕ, suc, ◌+◌, Bool, true, ◌&&◌, List, [], ◌∷◌, ◌++◌, length, take, IsTrue, Some, None, codes}
use Rattle.hc_rational.specs.Words.{fits}
use Rattle.hc_term.specs.declared.expr.Expr.{Expr}
use Rattle.hc_term.specs.declared.expr.Cond.{Cond, fold-Cond}
use Rattle.hc_term.specs.declared.expr.Cond.TheOpen.{Cond-F}
use Rattle.hc_term.specs.Value.{Store}
use Rattle.hc_term.specs.Motion.{Rates, Line, line, form}
use Rattle.hc_term.specs.EndMoment.{gap_of}
use Rattle.hc_term.specs.Profile.{is_expr}
use Rattle.hc_cast.specs.declared.stmt.CStmt.{CStmt}
use Rattle.hc_cast.specs.declared.stmt.CStmt.TheVariants as a
use Rattle.hc_cast.specs.declared.program.CProgram.{CProgram}
use Rattle.hc_cmach.specs.State.{width}
use Rattle.hc_cstep.specs.Locals.{v_ok, Mine, Base}
use Rattle.hc_cstep.specs.Parts.{AreRates, Lines}
use Rattle.hc_cend.specs.Places.{Places}
use Rattle.hc_cend.specs.Written.{number, is_number}

-- the two sides of a comparison
pub record Compared : Type 0 where
  pub left : Expr
  pub right : Expr

abbrev pub sides : Expr → Expr → Compared
sides a b = record { left = a; right = b }

abbrev pub compared_layer : Cond-F (List Compared) → List Compared
compared_layer Cond-F.True = []
compared_layer Cond-F.False = []
compared_layer (Cond-F.Compare how a b) = sides a b ∷ []
compared_layer (Cond-F.Not c) = c
compared_layer (Cond-F.And b c) = b ++ c
compared_layer (Cond-F.Or b c) = b ++ c

-- those of a condition, in their order
abbrev pub compared : Cond → List Compared
compared c = fold-Cond (List Compared) compared_layer c

abbrev pub gap_of_sides : Store → Rates → Compared → Line
gap_of_sides s r q = gap_of s r q.left q.right

-- whether a comparison's line fits, but for its crossing
abbrev pub line_fits : Store → Rates → Compared → Bool
line_fits s r q =
    (line s r q.left).fits_all && ((line s r q.right).fits_all && (fits (gap_of_sides s r q).at && fits (gap_of_sides s r q).slope))

-- ---- the code

-- if (v_ok == 1) { .. }
abbrev pub guard : List CStmt → CStmt
guard ss = a.If (is_number v_ok 1) ss None

-- v_ok = fr_sub(t, d, x, y);
abbrev pub subtracts : ℕ → ℕ → ℕ → ℕ → List CStmt
subtracts t d x y = a.Call (Some v_ok) (codes "fr_sub") (number t ∷ number d ∷ number x ∷ number y ∷ []) ∷ []

-- comparison i, its sides' lines in four registers from CROSSING on, where later the crossings stand
abbrev pub gap_code : (ℕ → Expr → List CStmt) → ℕ → Places → ℕ → Compared → List CStmt
gap_code side t p i q =
    guard (side p.crossing q.left)
    ∷ guard (side (p.crossing + 2) q.right)
    ∷ guard (subtracts t (p.at + i) p.crossing (p.crossing + 2))
    ∷ guard (subtracts t (p.slope + i) (p.crossing + 1) (p.crossing + 3))
    ∷ []

-- the first of these is comparison i
abbrev pub gaps_code : (ℕ → Expr → List CStmt) → ℕ → Places → ℕ → List Compared → List CStmt
gaps_code side t p i [] = []
gaps_code side t p i (q ∷ qs) = gap_code side t p i q ++ gaps_code side t p (suc i) qs

-- ---- what is asked of the code of a side

abbrev pub is_side : ℕ → Rates → (Expr → Bool) → Expr → Bool
is_side vars pattern is_line e = is_expr vars e && ((form pattern e).affine && is_line e)

abbrev pub are_sides : ℕ → Rates → (Expr → Bool) → Compared → Bool
are_sides vars pattern is_line q = is_side vars pattern is_line q.left && is_side vars pattern is_line q.right

-- Into register d and the next, for d from `first` up to two behind, in n steps at most: the value and the slope of each side for which there is code.
abbrev pub SideWorks : CProgram → ℕ → ℕ → Base → ℕ → ℕ → Rates → (Expr → Bool) → (ℕ → Expr → List CStmt) → ℕ → Store → Rates → Type 0
SideWorks g t n b vars room pattern is_line side first s r =
    (d : ℕ) (m : Mine) (e : Expr) → first ≤ d → d ≤ first + 2 → m.ok ≡ true → length m.row ≡ width → length m.others ≡ room → take vars m.row ≡ s →
    AreRates pattern r m.row → IsTrue (is_side vars pattern is_line e) → Lines g t n b d (side d e) m s r e
