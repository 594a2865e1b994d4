use Rattle.std.proofs.Common.{◌≡◌, take}
use Rattle.hc_code.proofs.emit.copy_of_rates.Given as goal

abbrev pub invariant-loop-rate : goal.invariant-loop-rate
invariant-loop-rate l = l.copy ≡ take l.rate-index l.rates
