-- What is left to mark leads to all marks.
use Rattle.std.proofs.Common.{◌≡◌, drop}
use Rattle.hc_term.specs.Profile.{pattern_from}
use Rattle.hc_cprivate.proofs.pattern.mark_all.Given as goal

abbrev pub invariant-loop-rate : goal.invariant-loop-rate
invariant-loop-rate l = pattern_from l.pattern (drop l.rate-index l.rates) ≡ pattern_from l.initial.pattern l.rates
