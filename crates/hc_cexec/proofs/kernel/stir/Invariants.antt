use Rattle.std.proofs.Common.{◌≡◌}
use Rattle.hc_term.proofs.Fronts.{front}
use Rattle.hc_cexec.specs.Applied.{stirred_in}
use Rattle.hc_cexec.proofs.kernel.stir.Given as goal

abbrev pub invariant-loop-at : goal.invariant-loop-at
invariant-loop-at l = l.threads ≡ front (stirred_in l.on) l.at l.initial.threads
