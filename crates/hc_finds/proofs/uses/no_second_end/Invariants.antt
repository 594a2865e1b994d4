use Rattle.std.proofs.Common.{◌≡◌, take, drop}
use Rattle.hc_modules.specs.Finds.{along}
use Rattle.hc_modules.specs.Outermost.{in_a_row}
use Rattle.hc_finds.specs.Uses as spec
use Rattle.hc_finds.specs.Seen.{all_uses, AreEnds}
use Rattle.hc_finds.proofs.uses.no_second_end.Given as goal

abbrev pub invariant-loop-uses : goal.invariant-loop-uses
invariant-loop-uses l = record {
  ends : AreEnds l.before (in_a_row (all_uses (take l.uses-index l.processes)));
  found : spec.shared_ends l.sends (all_uses l.processes)
      ≡ along (spec.shared_in l.sends) (all_uses (take l.uses-index l.processes)) (all_uses (drop l.uses-index l.processes));
}
