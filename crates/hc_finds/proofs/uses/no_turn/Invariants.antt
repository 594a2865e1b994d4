use Rattle.std.proofs.Common.{◌≡◌, take, drop}
use Rattle.hc_modules.specs.Finds.{along}
use Rattle.hc_finds.specs.Uses as spec
use Rattle.hc_finds.specs.Seen.{uses_seen, AreEnds}
use Rattle.hc_finds.proofs.Ends.{turned}
use Rattle.hc_finds.proofs.uses.no_turn.Given as goal

abbrev pub invariant-loop-end : goal.invariant-loop-end
invariant-loop-end l = record {
  ends : AreEnds l.ends (uses_seen (take l.end-index l.uses));
  found : spec.self_channels (uses_seen l.uses) ≡ along turned (uses_seen (take l.end-index l.uses)) (uses_seen (drop l.end-index l.uses));
}
