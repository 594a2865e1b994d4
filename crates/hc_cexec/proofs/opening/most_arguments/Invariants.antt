use Rattle.std.proofs.Common.{◌≡◌, drop}
use Rattle.hc_cexec.specs.Opening.{most_of}
use Rattle.hc_cexec.proofs.opening.most_arguments.Given as goal

abbrev pub invariant-loop-entry : goal.invariant-loop-entry
invariant-loop-entry l = most_of l.most (drop l.entry-index l.functions) ≡ most_of 6 l.functions
