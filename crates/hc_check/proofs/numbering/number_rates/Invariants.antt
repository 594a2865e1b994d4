use Rattle.std.proofs.Common.{◌≡◌, take, map}
use Rattle.hc_check.specs.Numbered as spec
use Rattle.hc_check.proofs.numbering.number_rates.Given as goal

abbrev pub invariant-loop-rate : goal.invariant-loop-rate
invariant-loop-rate l = l.found ≡ map (spec.rate_over l.variables.keys) (take l.rate-index l.rates)
