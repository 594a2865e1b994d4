-- The code of an affine expression while its process evolves: its value into a register and its slope into the next, with those of its parts in
-- the registers behind. Which variables evolve is known from the pattern; the rate of each stands in its register.
use Rattle.std.specs.Prelude.{ℕ, ◌+◌, ◌*◌, Bool, true, false, ◌||◌, List, [], ◌∷◌, ◌++◌, slice_index_or, Option, Some, None}
use Rattle.hc_rational.specs.Words.{Rational, zero_ℚ}
use Rattle.hc_term.specs.declared.expr.Op.{Op}
use Rattle.hc_term.specs.declared.expr.Op.TheVariants as sign
use Rattle.hc_term.specs.declared.expr.Expr.{Expr, fold-Expr}
use Rattle.hc_term.specs.declared.expr.Expr.TheOpen.{Expr-F}
use Rattle.hc_term.specs.Motion.{Rates, evolves}
use Rattle.hc_cast.specs.declared.stmt.CStmt.{CStmt}
use Rattle.hc_cbuild.specs.Written.{set_register, move_register, guarded, primitive_of}
use Rattle.hc_cstep.specs.Stands.{rate_of}
use Rattle.hc_cvalue.specs.Values.{Coded, height, negate}

-- how many registers behind its own an expression needs for the lines of its parts
abbrev pub line_height : Expr → ℕ
line_height e = 2 * height e + 1

-- Which registers the slope of two parts is worked out of, by the sign between them: of a product the moving part's slope and the other part's
-- value. The first part's line stands in d and d + 1, the second one's in d + 2 and d + 3.
abbrev pub slope_first : Op → Bool → ℕ → ℕ
slope_first sign.Mul false d = d
slope_first _ moves d = d + 1

abbrev pub slope_second : Op → Bool → ℕ → ℕ
slope_second sign.Add moves d = d + 3
slope_second sign.Sub moves d = d + 3
slope_second sign.Mul true d = d + 2
slope_second sign.Mul false d = d + 3
slope_second sign.Div moves d = d + 2

-- the slope first, since the value takes the place of the first part's
abbrev pub joins_lines : ℕ → Op → Bool → ℕ → List CStmt
joins_lines p op moves d =
    guarded (primitive_of op) p (d + 1) (slope_first op moves d) (slope_second op moves d) ∷ guarded (primitive_of op) p d d (d + 2) ∷ []

-- the slope of a variable
abbrev pub variable_slope : Option Rational → ℕ → ℕ → ℕ → CStmt
variable_slope None p d x = set_register p (d + 1) zero_ℚ
variable_slope (Some k) p d x = move_register p (d + 1) (rate_of x)

-- the code of an expression, and whether it has an evolving variable
pub record Drawn : Type 0 where
  pub code : Coded
  pub moves : Bool

-- one level
abbrev pub drawn_layer : ℕ → Rates → Expr-F Drawn → Drawn
drawn_layer p pattern (Expr-F.Number q) = record { code = λ d. set_register p d q ∷ set_register p (d + 1) zero_ℚ ∷ []; moves = false }
drawn_layer p pattern (Expr-F.Variable x) = record {
  code = λ d. move_register p d x ∷ variable_slope (slice_index_or pattern x None) p d x ∷ [];
  moves = evolves (slice_index_or pattern x None);
}
drawn_layer p pattern (Expr-F.Neg a) = record { code = λ d. a.code d ++ negate p d ∷ negate p (d + 1) ∷ []; moves = a.moves }
drawn_layer p pattern (Expr-F.Binary op a b) = record {
  code = λ d. a.code d ++ (b.code (d + 2) ++ joins_lines p op a.moves d);
  moves = a.moves || b.moves;
}

abbrev pub drawn : ℕ → Rates → Expr → Drawn
drawn p pattern e = fold-Expr Drawn (drawn_layer p pattern) e

-- the line of e into registers d and d + 1 of row p
abbrev pub line_code : ℕ → Rates → ℕ → Expr → List CStmt
line_code p pattern d e = (drawn p pattern e).code d
