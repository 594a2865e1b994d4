use Rattle.std.proofs.Common.{◌∙◌}
use Rattle.hc_cmd.proofs.Courses.{horizon_value, horizon_fits}
use Rattle.hc_cmd.proofs.making.made_horizon.Goals as goal

pub unreachable-requires : goal.unreachable-requires
unreachable-requires c = c.in-None.ensures {u = tt} (λ e. cc, horizon_fits)

pub returns : goal.returns
returns c = (c.in-Some.ensures {u = tt}).1 ∙ horizon_value
