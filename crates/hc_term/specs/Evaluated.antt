-- What evaluation answers: the value, or that the value of some part doesn't fit a fraction.
use Rattle.std.specs.Prelude.{Bool, true, false, Result, Ok, Err}
use Rattle.hc_rational.specs.Words.{Rational}
use Rattle.hc_term.specs.declared.expr.Expr.{Expr}
use Rattle.hc_term.specs.declared.expr.Cond.{Cond}
use Rattle.hc_term.specs.declared.run.Unfit.{Unfit}
use Rattle.hc_term.specs.Value.{Store, val, holds, is_fitting, is_fitting_test}

abbrev pub if_fitting : {A : Type 0} → Bool → A → Result A Unfit
if_fitting true a = Ok a
if_fitting false a = Err record {}

-- the value of an expression, or `Unfit` exactly where the value of some part doesn't fit
abbrev pub value_in : Store → Expr → Result Rational Unfit
value_in s e = if_fitting (is_fitting s e) (val s e)

-- the truth of a condition, or `Unfit` exactly where the value of some part of its expressions doesn't fit
abbrev pub truth_in : Store → Cond → Result Bool Unfit
truth_in s c = if_fitting (is_fitting_test s c) (holds s c)
