use Rattle.hc_det.proofs.Same.{one_channels_text}
use Rattle.hc_det.proofs.laws.channel_laws.Goals as goal

pub returns : goal.returns
returns c = one_channels_text
