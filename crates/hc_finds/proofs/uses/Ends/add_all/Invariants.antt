use Rattle.std.proofs.Common.{List, ◌++◌, take}
use Rattle.hc_finds.specs.Seen.{uses_seen, AreEnds}
use Rattle.hc_finds.specs.Uses.{Use}
use Rattle.hc_finds.proofs.uses.Ends.add_all.Given as goal

abbrev pub invariant-loop-end : goal.invariant-loop-end
invariant-loop-end l = (us : List Use) → AreEnds l.initial.self us → AreEnds l.self (us ++ uses_seen (take l.end-index l.uses))
