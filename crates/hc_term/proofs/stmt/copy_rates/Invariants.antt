use Rattle.std.proofs.Common.{◌≡◌, take}
use Rattle.hc_term.proofs.stmt.copy_rates.Given as goal

abbrev pub invariant-loop-rate : goal.invariant-loop-rate
invariant-loop-rate l = l.found ≡ take l.rate-index l.rates
