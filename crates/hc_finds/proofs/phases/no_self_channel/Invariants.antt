use Rattle.std.proofs.Common.{◌≡◌, drop, flat_map}
use Rattle.hc_finds.specs.Seen.{all_uses}
use Rattle.hc_finds.specs.Uses as spec
use Rattle.hc_finds.proofs.phases.no_self_channel.Given as goal

abbrev pub invariant-loop-uses : goal.invariant-loop-uses
invariant-loop-uses l =
    flat_map spec.self_channels (all_uses l.processes) ≡ flat_map spec.self_channels (all_uses (drop l.uses-index l.processes))
