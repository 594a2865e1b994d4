use Rattle.std.proofs.Common.{◌≡◌, take, map, flat_map}
use Rattle.hc_finds.specs.Seen.{each_seen, all_uses}
use Rattle.hc_finds.specs.Uses.{uses_in}
use Rattle.hc_finds.proofs.collect.uses_of_each.Given as goal

abbrev pub invariant-loop-parts : goal.invariant-loop-parts
invariant-loop-parts l = all_uses l.uses.items ≡ map (flat_map uses_in) (each_seen (take l.parts-index l.processes))
