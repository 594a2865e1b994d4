use Rattle.std.proofs.Common.{◌≡◌, map, take}
use Rattle.hc_modules.specs.Calls.{bindings}
use Rattle.hc_modules.specs.Replaced.{rate_in}
use Rattle.hc_modules.proofs.replaced.rates_in.Given as goal

abbrev pub invariant-loop-rate : goal.invariant-loop-rate
invariant-loop-rate l = l.found ≡ map (rate_in (bindings l.call)) (take l.rate-index l.rates)
