-- The numbers so far.
use Rattle.std.proofs.Common.{◌≡◌, take}
use Rattle.hc_cbuild.specs.Written.{numbers}
use Rattle.hc_cbuild.proofs.expressions.numbers.Given as goal

abbrev pub invariant-loop-n : goal.invariant-loop-n
invariant-loop-n l = l.found ≡ numbers (take l.n-index l.ns)
