use Rattle.std.proofs.Common.{◌≡◌, take, map}
use Rattle.hc_finds.specs.Refusals.{parts_in}
use Rattle.hc_finds.specs.Seen.{each_seen}
use Rattle.hc_finds.proofs.collect.parts_of_each.Given as goal

abbrev pub invariant-loop-process : goal.invariant-loop-process
invariant-loop-process l = each_seen l.parts.items ≡ map parts_in (take l.process-index l.processes)
