-- What expressions and conditions are worth in a store, with no bound on the size of numbers.
use Rattle.std.specs.Prelude.{Bool, true, false, not, ◌&&◌, ◌||◌, List, slice_index_or}
use Rattle.std.specs.declared.cmp.Ordering.{Ordering}
use Rattle.std.specs.declared.cmp.Ordering.TheVariants as side
use Rattle.hc_rational.specs.Words.{Rational, zero_ℚ, ◌+ℚ◌, ◌-ℚ◌, ◌*ℚ◌, ◌/ℚ◌, neg_ℚ, rank, fits, is_zero}
use Rattle.hc_term.specs.declared.expr.Op.{Op}
use Rattle.hc_term.specs.declared.expr.Op.TheVariants.{Add, Sub, Mul, Div}
use Rattle.hc_term.specs.declared.expr.Comparison.{Comparison}
use Rattle.hc_term.specs.declared.expr.Comparison.TheVariants.{Less, AtMost, Equal, NotEqual, AtLeast, Greater}
use Rattle.hc_term.specs.declared.expr.Expr.{Expr, fold-Expr}
use Rattle.hc_term.specs.declared.expr.Expr.TheOpen.{Expr-F}
use Rattle.hc_term.specs.declared.expr.Cond.{Cond, fold-Cond}
use Rattle.hc_term.specs.declared.expr.Cond.TheOpen.{Cond-F}

-- the values of a process's variables, by their numbers
abbrev pub Store : Type 0
Store = List Rational

abbrev pub applied : Op → Rational → Rational → Rational
applied Add q r = q +ℚ r
applied Sub q r = q -ℚ r
applied Mul q r = q *ℚ r
applied Div q r = q /ℚ r

-- one level, where each part stands for its value
abbrev pub val_layer : Store → Expr-F Rational → Rational
val_layer s (Expr-F.Number q) = q
val_layer s (Expr-F.Variable x) = slice_index_or s x zero_ℚ
val_layer s (Expr-F.Neg q) = neg_ℚ q
val_layer s (Expr-F.Binary op q r) = applied op q r

-- the value of an expression
abbrev pub val : Store → Expr → Rational
val s e = fold-Expr Rational (val_layer s) e

-- a value, and whether those of all parts fit a fraction
pub record Work : Type 0 where
  pub value : Rational
  pub fits_all : Bool

-- the numbers of the source and the values of the store are fractions by their type
abbrev pub work_layer : Store → Expr-F Work → Work
work_layer s (Expr-F.Number q) = record { value = q; fits_all = true }
work_layer s (Expr-F.Variable x) = record { value = slice_index_or s x zero_ℚ; fits_all = true }
work_layer s (Expr-F.Neg a) = record { value = neg_ℚ a.value; fits_all = a.fits_all }
work_layer s (Expr-F.Binary op a b) = record {
  value = applied op a.value b.value;
  fits_all = a.fits_all && b.fits_all && fits (applied op a.value b.value);
}

abbrev pub work : Store → Expr → Work
work s e = fold-Expr Work (work_layer s) e

-- whether the value of every part of the expression fits
abbrev pub is_fitting : Store → Expr → Bool
is_fitting s e = (work s e).fits_all

-- a value, and whether no part of its expression divides by 0
pub record Division : Type 0 where
  pub value : Rational
  pub is_defined : Bool

abbrev pub divides_by_zero : Op → Rational → Bool
divides_by_zero Div r = is_zero r
divides_by_zero _ r = false

abbrev pub division_layer : Store → Expr-F Division → Division
division_layer s (Expr-F.Number q) = record { value = q; is_defined = true }
division_layer s (Expr-F.Variable x) = record { value = slice_index_or s x zero_ℚ; is_defined = true }
division_layer s (Expr-F.Neg a) = record { value = neg_ℚ a.value; is_defined = a.is_defined }
division_layer s (Expr-F.Binary op a b) = record {
  value = applied op a.value b.value;
  is_defined = a.is_defined && b.is_defined && not (divides_by_zero op b.value);
}

abbrev pub division : Store → Expr → Division
division s e = fold-Expr Division (division_layer s) e

-- whether the value of every divisor in the expression is other than 0
abbrev pub is_defined : Store → Expr → Bool
is_defined s e = (division s e).is_defined

-- the answer of a comparison, by how its left side lies to its right side
abbrev pub answer : Comparison → Ordering → Bool
answer Less side.Less = true
answer Less _ = false
answer AtMost side.Greater = false
answer AtMost _ = true
answer Equal side.Equal = true
answer Equal _ = false
answer NotEqual side.Equal = false
answer NotEqual _ = true
answer AtLeast side.Less = false
answer AtLeast _ = true
answer Greater side.Greater = true
answer Greater _ = false

-- how the left side of each comparison lies to its right side
abbrev pub Sides : Type 0
Sides = Expr → Expr → Ordering

abbrev pub judge_layer : Sides → Cond-F Bool → Bool
judge_layer f Cond-F.True = true
judge_layer f Cond-F.False = false
judge_layer f (Cond-F.Compare how a b) = answer how (f a b)
judge_layer f (Cond-F.Not c) = not c
judge_layer f (Cond-F.And b c) = b && c
judge_layer f (Cond-F.Or b c) = b || c

-- the truth of a condition whose comparisons lie so
abbrev pub judge : Sides → Cond → Bool
judge f c = fold-Cond Bool (judge_layer f) c

abbrev pub sides_in : Store → Sides
sides_in s a b = rank (val s a) (val s b)

-- the truth of a condition
abbrev pub holds : Store → Cond → Bool
holds s c = judge (sides_in s) c

abbrev pub fitting_layer : Store → Cond-F Bool → Bool
fitting_layer s Cond-F.True = true
fitting_layer s Cond-F.False = true
fitting_layer s (Cond-F.Compare how a b) = is_fitting s a && is_fitting s b
fitting_layer s (Cond-F.Not c) = c
fitting_layer s (Cond-F.And b c) = b && c
fitting_layer s (Cond-F.Or b c) = b && c

abbrev pub defined_layer : Store → Cond-F Bool → Bool
defined_layer s Cond-F.True = true
defined_layer s Cond-F.False = true
defined_layer s (Cond-F.Compare how a b) = is_defined s a && is_defined s b
defined_layer s (Cond-F.Not c) = c
defined_layer s (Cond-F.And b c) = b && c
defined_layer s (Cond-F.Or b c) = b && c

-- whether the value of every divisor in the condition is other than 0
abbrev pub is_defined_test : Store → Cond → Bool
is_defined_test s c = fold-Cond Bool (defined_layer s) c

-- whether the values of all parts of the condition fit, which is evaluated whole
abbrev pub is_fitting_test : Store → Cond → Bool
is_fitting_test s c = fold-Cond Bool (fitting_layer s) c
