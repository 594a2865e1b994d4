use Rattle.std.proofs.Common.{◌≡◌, drop}
use Rattle.hc_modules.specs.Outermost.{in_a_row}
use Rattle.hc_modules.specs.Found.{first_of}
use Rattle.hc_finds.specs.Rules.{broken}
use Rattle.hc_finds.specs.Seen.{each_seen}
use Rattle.hc_finds.proofs.phases.kept_in.Given as goal

abbrev pub invariant-loop-parts : goal.invariant-loop-parts
invariant-loop-parts l =
    first_of (broken l.rule (in_a_row (each_seen l.processes)))
    ≡ first_of (broken l.rule (in_a_row (each_seen (drop l.parts-index l.processes))))
