-- How expressions move, that a condition has one end moment, and what a delay leaves of it.
use Rattle.std.specs.Prelude.{◌≡◌, length, IsTrue}
use Rattle.hc_rational.specs.Words.{Rational, zero_ℚ, ◌+ℚ◌, ◌*ℚ◌, ◌≤ℚ◌}
use Rattle.hc_term.specs.declared.expr.Expr.{Expr}
use Rattle.hc_term.specs.declared.expr.Cond.{Cond}
use Rattle.hc_term.specs.Value.{Store, val}
use Rattle.hc_term.specs.Motion.{Rates, after, line, form}
use Rattle.hc_term.specs.Moved.{IsWithin, less_by}
use Rattle.hc_term.specs.EndMoment.{EndsAt, Endless, end_moment, is_domain}

-- An affine expression moves along its line.
abbrev pub MovesAlongLine : Type 0
MovesAlongLine =
    (e : Expr) (s : Store) (r : Rates) (t : Rational) → length r ≡ length s → IsTrue (form r e).affine →
    val (after s r t) e ≡ (line s r e).at +ℚ (line s r e).slope *ℚ t

-- A condition turns false at one moment at most, and at none where it holds for ever.
abbrev pub OneEndMoment : Type 0
OneEndMoment =
    (c : Cond) (s : Store) (r : Rates) (d : Rational) → EndsAt c s r d →
    ((e : Rational) → EndsAt c s r e → d ≡ e) × ¬ (Endless c s r)

-- After a delay that is at most the end moment, the end moment is the old one less the delay.
abbrev pub EndAfterDelay : Type 0
EndAfterDelay =
    (c : Cond) (s : Store) (r : Rates) (d : Rational) → length r ≡ length s → IsTrue (is_domain r c) →
    zero_ℚ ≤ℚ d → IsWithin d (end_moment s r c) → end_moment (after s r d) r c ≡ less_by d (end_moment s r c)
