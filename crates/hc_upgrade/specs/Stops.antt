-- What an error says of a trace.
use Rattle.std.specs.Prelude.{ℕ, Option, Some, None}
use Rattle.hc_upgrade.specs.declared.whole.UpgradeStop.{UpgradeStop}
use Rattle.hc_upgrade.specs.declared.whole.UpgradeStop.TheVariants.{Channel, Memory}

-- the line that can't be made new; none where memory ran out
abbrev pub told : UpgradeStop → Option ℕ
told (Channel n) = Some n
told Memory = None
