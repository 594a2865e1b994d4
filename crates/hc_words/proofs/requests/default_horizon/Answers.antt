use Rattle.std.proofs.Common.{◌∙◌}
use Rattle.hc_words.proofs.Defaults.{hundred, hundred_fits}
use Rattle.hc_words.proofs.requests.default_horizon.Goals as goal

pub unreachable-requires : goal.unreachable-requires
unreachable-requires c = c.in-None.ensures {u = tt} (λ e. cc, hundred_fits)

pub returns : goal.returns
returns c = (c.in-Some.ensures {u = tt}).1 ∙ hundred
