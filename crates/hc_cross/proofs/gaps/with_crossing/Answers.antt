use Rattle.std.proofs.Common.{◌≡◌, true}
use Rattle.hc_cross.proofs.Signs.{numerator_apart}
use Rattle.hc_term.specs.EndMoment.{opposite}
use Rattle.hc_rational.specs.Words.{rank, zero_ℚ}
use Rattle.hc_cross.proofs.gaps.with_crossing.Goals as goal

pub div-requires : goal.div-requires
div-requires c =
    let are : opposite (rank c.args.line.at zero_ℚ) (rank c.args.line.slope zero_ℚ) ≡ true = cc in
    numerator_apart c.args.line.at c.args.line.slope are
