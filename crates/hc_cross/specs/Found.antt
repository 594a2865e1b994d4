-- What the calls find, in the words of the code: lines, gaps with their crossings, what is told from them.
use Rattle.std.specs.Prelude.{◌≡◌, ◌&&◌, not, Bool, true, false, Option, Some, if◌then◌else◌}
use Rattle.hc_rational.specs.Words.{Rational, zero_ℚ, ◌-ℚ◌}
use Rattle.hc_term.specs.declared.expr.Op.{Op}
use Rattle.hc_term.specs.declared.expr.Comparison.{Comparison}
use Rattle.hc_term.specs.declared.expr.Cond.{Cond}
use Rattle.hc_term.specs.Value.{Store, applied, answer, judge}
use Rattle.hc_term.specs.Motion.{Rates, Line, slope_by}
use Rattle.hc_term.specs.EndMoment.{crossing, kept, side_at, side_after, sides_when}
use Rattle.hc_cross.specs.declared.lines.Linear.{Linear}
use Rattle.hc_cross.specs.declared.gaps.Gap.{Gap}
use Rattle.hc_cross.specs.declared.truth.Truth.{Truth}

abbrev pub linear_of : Line → Linear
linear_of l = record { at = l.at; slope = l.slope }

-- the line of what a sign makes of two parts
abbrev pub linear_by : Op → Linear → Linear → Linear
linear_by op a b = record { at = applied op a.at b.at; slope = slope_by op a.at a.slope b.at b.slope }

-- left minus right
abbrev pub minus : Linear → Linear → Linear
minus a b = record { at = a.at -ℚ b.at; slope = a.slope -ℚ b.slope }

-- a line with the moment at which it crosses 0
abbrev pub gap_on : Linear → Gap
gap_on l = record { line = l; crossing = crossing l.at l.slope }

abbrev pub KnowsCrossing : Gap → Type 0
KnowsCrossing g = g.crossing ≡ crossing g.line.at g.line.slope

-- the truth of a comparison at the moment t and just after it, where left minus right is now u with slope w
abbrev pub truth_by : Comparison → Rational → Rational → Rational → Truth
truth_by how u w t = record { here = answer how (side_at u w t); next = answer how (side_after u w t) }

-- whether the comparison is false at the moment t or just after it
abbrev pub fails_by : Comparison → Rational → Rational → Rational → Bool
fails_by how u w t = not (answer how (side_at u w t) && answer how (side_after u w t))

-- the end of the comparison
abbrev pub end_by : Comparison → Rational → Rational → Option Rational
end_by how u w = if fails_by how u w zero_ℚ then Some zero_ℚ else kept (fails_by how u w) (crossing u w)

-- the truth of a condition at the moment t and just after it
abbrev pub truth_at : Store → Rates → Cond → Rational → Truth
truth_at s r c t = record { here = judge (sides_when false s r t) c; next = judge (sides_when true s r t) c }
