use Rattle.std.proofs.Common.{◌≡◌, drop, flat_map}
use Rattle.hc_finds.specs.Limits as spec
use Rattle.hc_finds.specs.Tally as tally
use Rattle.hc_finds.specs.Seen.{seen}
use Rattle.hc_finds.proofs.limits.NamesSoFar.limit_all.Given as goal

abbrev pub invariant-loop-part : goal.invariant-loop-part
invariant-loop-part l = record {
  found : tally.over_along l.initial.self.channels.keys l.initial.self.variables.keys (seen l.parts)
      ≡ tally.over_along l.self.channels.keys l.self.variables.keys (seen (drop l.part-index l.parts));
  channels : tally.with_names l.initial.self.channels.keys (flat_map spec.channels_in (seen l.parts))
      ≡ tally.with_names l.self.channels.keys (flat_map spec.channels_in (seen (drop l.part-index l.parts)));
  variables : tally.with_names l.initial.self.variables.keys (flat_map spec.variables_in (seen l.parts))
      ≡ tally.with_names l.self.variables.keys (flat_map spec.variables_in (seen (drop l.part-index l.parts)));
}
