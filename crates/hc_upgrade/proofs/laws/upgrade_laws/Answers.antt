use Rattle.hc_upgrade.proofs.UpgradedTrace.{upgraded_is_trace}
use Rattle.hc_upgrade.proofs.laws.upgrade_laws.Goals as goal

pub returns : goal.returns
returns c = upgraded_is_trace
