use Rattle.std.proofs.Common.{IsTrue, take}
use Rattle.std.specs.List.{list_all}
use Rattle.hc_runs.specs.Fractions.{numbers}
use Rattle.hc_runs.proofs.numbers.read_rates.Given as goal

abbrev pub invariant-loop-rate : goal.invariant-loop-rate
invariant-loop-rate l = IsTrue (list_all (λ r. numbers r.value) (take l.rate-index l.rates))
