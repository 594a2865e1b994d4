use Rattle.std.proofs.Common.{◌≡◌, drop}
use Rattle.hc_modules.specs.Found.{first_of}
use Rattle.hc_finds.specs.Rules as spec
use Rattle.hc_finds.specs.Seen.{seen}
use Rattle.hc_finds.proofs.rules.Rule.kept.Given as goal

abbrev pub invariant-loop-part : goal.invariant-loop-part
invariant-loop-part l =
    first_of (spec.broken l.self (seen l.parts)) ≡ first_of (spec.broken l.self (seen (drop l.part-index l.parts)))
