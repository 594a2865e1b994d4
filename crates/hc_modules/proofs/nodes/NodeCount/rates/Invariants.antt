use Rattle.std.proofs.Common.{◌≡◌, map, fold, drop}
use Rattle.hc_modules.specs.Calls.{bindings}
use Rattle.hc_modules.specs.Counted.{add}
use Rattle.hc_modules.specs.Outermost.{of_expr}
use Rattle.hc_modules.specs.Replaced.{rate_in}
use Rattle.hc_modules.proofs.nodes.NodeCount.rates.Given as goal

abbrev pub invariant-loop-rate : goal.invariant-loop-rate
invariant-loop-rate l =
    fold add l.fn.self (map (λ r. of_expr r.value) (map (rate_in (bindings l.call)) l.rates))
    ≡ fold add l.count (map (λ r. of_expr r.value) (map (rate_in (bindings l.call)) (drop l.rate-index l.rates)))
