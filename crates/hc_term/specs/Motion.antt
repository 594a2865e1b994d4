-- How variables move in an evolution, and the line of a value and a slope along which an expression moves with them.
use Rattle.std.specs.Prelude.{Bool, true, false, not, ◌&&◌, ◌||◌, List, [], ◌∷◌, length, replicate, slice_set, slice_index_or, Option, Some, None}
use Rattle.std.specs.declared.cmp.Ordering.{Ordering}
use Rattle.std.specs.declared.cmp.Ordering.TheVariants as side
use Rattle.hc_rational.specs.Words.{Rational, zero_ℚ, ◌+ℚ◌, ◌-ℚ◌, ◌*ℚ◌, ◌/ℚ◌, neg_ℚ, rank, fits, is_zero}
use Rattle.hc_term.specs.declared.expr.Op.{Op}
use Rattle.hc_term.specs.declared.expr.Op.TheVariants.{Add, Sub, Mul, Div}
use Rattle.hc_term.specs.declared.expr.Expr.{Expr, fold-Expr}
use Rattle.hc_term.specs.declared.expr.Expr.TheOpen.{Expr-F}
use Rattle.hc_term.specs.declared.stmt.Rate.{Rate}
use Rattle.hc_term.specs.declared.form.Form.{Form}
use Rattle.hc_term.specs.Value.{Store, val, applied}

-- for each variable its rate, or none where it keeps its value
abbrev pub Rates : Type 0
Rates = List (Option Rational)

abbrev pub with_rates : Rates → List Rate → Store → Rates
with_rates before [] s = before
with_rates before (r ∷ rs) s = with_rates (slice_set before r.variable (Some (val s r.value))) rs s

-- the rates of an evolution that begins in this store
abbrev pub rates_in : List Rate → Store → Rates
rates_in rs s = with_rates (replicate (length s) None) rs s

abbrev pub value_after : Rational → Option Rational → Rational → Rational
value_after v None t = v
value_after v (Some k) t = v +ℚ k *ℚ t

-- the store after t time units
abbrev pub after : Store → Rates → Rational → Store
after [] r t = []
after (v ∷ s) [] t = v ∷ s
after (v ∷ s) (k ∷ r) t = value_after v k t ∷ after s r t

-- a value, its slope, and whether those of all parts fit
pub record Line : Type 0 where
  pub at : Rational
  pub slope : Rational
  pub fits_all : Bool

abbrev pub rate_of : Option Rational → Rational
rate_of None = zero_ℚ
rate_of (Some k) = k

-- a * n + m * b, where one of the slopes m and n is 0
abbrev pub product_slope : Ordering → Rational → Rational → Rational → Rational → Rational
product_slope side.Equal a m b n = a *ℚ n
product_slope _ a m b n = m *ℚ b

-- the slope of two parts of values a and b with slopes m and n
abbrev pub slope_by : Op → Rational → Rational → Rational → Rational → Rational
slope_by Add a m b n = m +ℚ n
slope_by Sub a m b n = m -ℚ n
slope_by Mul a m b n = product_slope (rank m zero_ℚ) a m b n
slope_by Div a m b n = m /ℚ b

abbrev pub line_layer : Store → Rates → Expr-F Line → Line
line_layer s r (Expr-F.Number q) = record { at = q; slope = zero_ℚ; fits_all = true }
line_layer s r (Expr-F.Variable x) = record { at = slice_index_or s x zero_ℚ; slope = rate_of (slice_index_or r x None); fits_all = true }
line_layer s r (Expr-F.Neg a) = record { at = neg_ℚ a.at; slope = neg_ℚ a.slope; fits_all = a.fits_all }
line_layer s r (Expr-F.Binary op a b) = record {
  at = applied op a.at b.at;
  slope = slope_by op a.at a.slope b.at b.slope;
  fits_all = a.fits_all && b.fits_all && fits (applied op a.at b.at) && fits (slope_by op a.at a.slope b.at b.slope);
}

-- the line of an expression: its value now, and by how much it grows in a time unit
abbrev pub line : Store → Rates → Expr → Line
line s r e = fold-Expr Line (line_layer s r) e

-- ---- the profile: which expressions move along a line

abbrev pub evolves : Option Rational → Bool
evolves None = false
evolves (Some k) = true

-- no product has evolving variables on both sides, and divisors are numbers other than 0
abbrev pub allowed : Op → Form → Form → Bool
allowed Add a b = true
allowed Sub a b = true
allowed Mul a b = not (a.moves && b.moves)
allowed Div a b = b.divides

abbrev pub form_layer : Rates → Expr-F Form → Form
form_layer r (Expr-F.Number q) = record { affine = true; moves = false; divides = not (is_zero q) }
form_layer r (Expr-F.Variable x) = record { affine = true; moves = evolves (slice_index_or r x None); divides = false }
form_layer r (Expr-F.Neg a) = record { affine = a.affine; moves = a.moves; divides = false }
form_layer r (Expr-F.Binary op a b) = record { affine = a.affine && b.affine && allowed op a b; moves = a.moves || b.moves; divides = false }

abbrev pub form : Rates → Expr → Form
form r e = fold-Expr Form (form_layer r) e
