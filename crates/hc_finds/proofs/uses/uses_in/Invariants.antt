use Rattle.std.proofs.Common.{◌≡◌, ◌++◌, drop, flat_map}
use Rattle.hc_finds.specs.Uses as spec
use Rattle.hc_finds.specs.Seen.{seen, uses_seen}
use Rattle.hc_finds.proofs.uses.uses_in.Given as goal

abbrev pub invariant-loop-part : goal.invariant-loop-part
invariant-loop-part l =
    uses_seen l.uses.items ++ flat_map spec.uses_in (seen (drop l.part-index l.parts)) ≡ flat_map spec.uses_in (seen l.parts)
