use Rattle.std.proofs.Common.{◌≡◌, drop}
use Rattle.hc_finds.specs.Exprs as spec
use Rattle.hc_finds.specs.Looks.{evolving}
use Rattle.hc_finds.proofs.exprs.is_evolving.Given as goal

abbrev pub invariant-loop-rate : goal.invariant-loop-rate
invariant-loop-rate l = spec.is_among (evolving l.rates) l.name ≡ spec.is_among (evolving (drop l.rate-index l.rates)) l.name
