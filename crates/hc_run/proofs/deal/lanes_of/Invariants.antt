-- The lanes so far are the worker's.
use Rattle.hc_run.specs.Lanes.{AreOf}
use Rattle.hc_run.proofs.deal.lanes_of.Given as goal

abbrev pub invariant-loop-process : goal.invariant-loop-process
invariant-loop-process l = AreOf l.used l.worker l.process l.lanes.items
