use Rattle.std.proofs.Common.{◌≡◌, flat_map, drop}
use Rattle.hc_modules.specs.Tables.{writes_among}
use Rattle.hc_modules.specs.Found.{first_of}
use Rattle.hc_modules.specs.Outermost.{by_rate}
use Rattle.hc_modules.proofs.written.write_of_rates.Given as goal

abbrev pub invariant-loop-rate : goal.invariant-loop-rate
invariant-loop-rate l =
    first_of (flat_map (λ r. writes_among l.values.keys (by_rate r)) l.rates)
    ≡ first_of (flat_map (λ r. writes_among l.values.keys (by_rate r)) (drop l.rate-index l.rates))
