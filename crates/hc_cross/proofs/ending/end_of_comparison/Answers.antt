use Rattle.std.proofs.Common.{◌≡◌, Some}
use Rattle.hc_term.specs.EndMoment.{crossing}
use Rattle.hc_cross.proofs.Sides.{crossing-not_past}
use Rattle.hc_cross.proofs.ending.end_of_comparison.Goals as goal

pub truth_of_comparison-requires-in-Some-1-clause-from_now : goal.truth_of_comparison-requires-in-Some-1-clause-from_now
truth_of_comparison-requires-in-Some-1-clause-from_now c =
    let l = c.args.gap.now.line in
    let is : crossing l.at l.slope ≡ Some c.in-Some.crossing = cc in
    crossing-not_past l.at l.slope c.in-Some.crossing is
