use Rattle.std.proofs.Common.{◌≡◌, ◌++◌, [], take, drop}
use Rattle.hc_finds.specs.Seen.{seen}
use Rattle.hc_finds.specs.Parts as spec
use Rattle.hc_finds.proofs.parts.add_rates.Given as goal

abbrev pub invariant-loop-at : goal.invariant-loop-at
invariant-loop-at l =
    seen l.parts.items ++ spec.rates_from l.rates (take l.at l.rates) (drop l.at l.rates)
    ≡ seen l.initial.parts.items ++ spec.rates_from l.rates [] l.rates
