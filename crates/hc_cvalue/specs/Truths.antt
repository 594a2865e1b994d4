-- The code of a condition, which is evaluated whole: its truth, 1 or 0, into a register.
use Rattle.std.specs.Prelude.{ℕ, ◌+◌, max, Bool, true, false, List, [], ◌∷◌, ◌++◌}
use Rattle.hc_rational.specs.Words.{Rational, zero_ℚ, one_ℚ}
use Rattle.hc_term.specs.declared.expr.Comparison.{Comparison}
use Rattle.hc_term.specs.declared.expr.Comparison.TheVariants as how
use Rattle.hc_term.specs.declared.expr.Cond.{Cond, fold-Cond}
use Rattle.hc_term.specs.declared.expr.Cond.TheOpen.{Cond-F}
use Rattle.hc_cast.specs.declared.primitive.Primitive.TheVariants.{FrCmp, FrSign}
use Rattle.hc_cast.specs.declared.expr.COp.{COp}
use Rattle.hc_cast.specs.declared.expr.COp.TheVariants as op
use Rattle.hc_cast.specs.declared.expr.CExpr.{CExpr}
use Rattle.hc_cast.specs.declared.expr.CExpr.TheVariants as e
use Rattle.hc_cast.specs.declared.stmt.CStmt.{CStmt}
use Rattle.hc_cbuild.specs.Written.{number, numbers, local, local_is, differs, set, take_prim, if_then, if_else, set_register, move_register}
use Rattle.hc_cstep.specs.Locals.{v_truth}
use Rattle.hc_cvalue.specs.Values.{height, value_code, Coded}

-- how many registers behind its own a condition needs for its parts
abbrev pub height_in_layer : Cond-F ℕ → ℕ
height_in_layer Cond-F.True = 0
height_in_layer Cond-F.False = 0
height_in_layer (Cond-F.Compare how a b) = max (height a) (1 + height b)
height_in_layer (Cond-F.Not c) = c
height_in_layer (Cond-F.And b c) = max b (1 + c)
height_in_layer (Cond-F.Or b c) = max b (1 + c)

abbrev pub height_in : Cond → ℕ
height_in c = fold-Cond ℕ height_in_layer c

-- a truth, as a register holds it
abbrev pub truth_of : Bool → Rational
truth_of true = one_ℚ
truth_of false = zero_ℚ

-- the sign of C that compares so
abbrev pub compared_by : Comparison → COp
compared_by how.Less = op.Less
compared_by how.AtMost = op.AtMost
compared_by how.Equal = op.Equal
compared_by how.NotEqual = op.NotEqual
compared_by how.AtLeast = op.AtLeast
compared_by how.Greater = op.Greater

-- if (test) { fr_set(p, d, 1, 1); } else { fr_set(p, d, 0, 1); }
abbrev pub set_by : ℕ → ℕ → CExpr → CStmt
set_by p d test = if_else test (set_register p d one_ℚ ∷ []) (set_register p d zero_ℚ ∷ [])

-- v_truth = fr_sign(p, d);
abbrev pub look : ℕ → ℕ → CStmt
look p d = take_prim v_truth FrSign (numbers (p ∷ d ∷ []))

-- v_truth = fr_cmp(p, d, d + 1); register d becomes the answer of v_truth OP 0; v_truth = 0;
abbrev pub compares : ℕ → Comparison → ℕ → List CStmt
compares p how d =
    take_prim v_truth FrCmp (numbers (p ∷ d ∷ (d + 1) ∷ []))
    ∷ set_by p d (e.Binary (compared_by how) (local v_truth) (number 0))
    ∷ set v_truth (number 0)
    ∷ []

-- v_truth = fr_sign(p, d); register d becomes 1 where it was 0, and else 0
abbrev pub inverts : ℕ → ℕ → List CStmt
inverts p d = look p d ∷ set_by p d (local_is v_truth 0) ∷ []

-- v_truth = fr_sign(p, d); if (v_truth != 0) { fr_move(p, d, p, d + 1); }
abbrev pub conjoins : ℕ → ℕ → List CStmt
conjoins p d = look p d ∷ if_then (differs (local v_truth) (number 0)) (move_register p d (d + 1) ∷ []) ∷ []

-- v_truth = fr_sign(p, d); if (v_truth == 0) { fr_move(p, d, p, d + 1); }
abbrev pub disjoins : ℕ → ℕ → List CStmt
disjoins p d = look p d ∷ if_then (local_is v_truth 0) (move_register p d (d + 1) ∷ []) ∷ []

-- one level, where each part stands for its code
abbrev pub truth_layer : ℕ → Cond-F Coded → Coded
truth_layer p Cond-F.True d = set_register p d one_ℚ ∷ []
truth_layer p Cond-F.False d = set_register p d zero_ℚ ∷ []
truth_layer p (Cond-F.Compare how a b) d = value_code p d a ++ (value_code p (d + 1) b ++ compares p how d)
truth_layer p (Cond-F.Not c) d = c d ++ inverts p d
truth_layer p (Cond-F.And b c) d = b d ++ (c (d + 1) ++ conjoins p d)
truth_layer p (Cond-F.Or b c) d = b d ++ (c (d + 1) ++ disjoins p d)

-- the truth of c into register d of row p
abbrev pub truth_code : ℕ → ℕ → Cond → List CStmt
truth_code p d c = fold-Cond Coded (truth_layer p) c d

-- and from there into v_truth
abbrev pub test_code : ℕ → ℕ → Cond → List CStmt
test_code p d c = truth_code p d c ++ look p d ∷ []
