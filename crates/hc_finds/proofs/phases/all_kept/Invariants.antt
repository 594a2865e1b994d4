use Rattle.std.proofs.Common.{◌≡◌, drop, flat_map}
use Rattle.hc_modules.specs.Outermost.{in_a_row}
use Rattle.hc_modules.specs.Found.{first_of}
use Rattle.hc_finds.specs.Rules as spec
use Rattle.hc_finds.specs.Seen.{each_seen}
use Rattle.hc_finds.proofs.phases.all_kept.Given as goal

abbrev pub invariant-loop-rule : goal.invariant-loop-rule
invariant-loop-rule l =
    first_of (flat_map (λ r. spec.broken r (in_a_row (each_seen l.processes))) l.rules)
    ≡ first_of (flat_map (λ r. spec.broken r (in_a_row (each_seen l.processes))) (drop l.rule-index l.rules))
