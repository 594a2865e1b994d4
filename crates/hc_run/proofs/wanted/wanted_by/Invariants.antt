-- The workers of the processes so far are marked, and no others.
use Rattle.hc_run.proofs.Marks.{Marks}
use Rattle.hc_run.proofs.wanted.wanted_by.Given as goal

abbrev pub invariant-loop-process : goal.invariant-loop-process
invariant-loop-process l = Marks l.joint l.used l.process l.wanted
