use Rattle.std.proofs.Common.{◌≡◌, List, drop}
use Rattle.hc_modules.specs.Outermost.{in_a_row}
use Rattle.hc_modules.specs.Found.{first_of}
use Rattle.hc_finds.specs.Uses as spec
use Rattle.hc_finds.specs.Uses.{Use}
use Rattle.hc_finds.specs.Seen.{uses_seen, AreEnds}
use Rattle.hc_finds.proofs.uses.unshared.Given as goal

abbrev pub invariant-loop-end : goal.invariant-loop-end
invariant-loop-end l = (us : List (List Use)) → AreEnds l.before (in_a_row us)
    → first_of (spec.shared_in l.sends us (uses_seen l.uses))
    ≡ first_of (spec.shared_in l.sends us (uses_seen (drop l.end-index l.uses)))
