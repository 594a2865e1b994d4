-- A stop of a joint names a process of its system.
use Rattle.std.specs.Prelude.{◌≡◌, Some}
use Rattle.hc_term.specs.declared.run.Stop.{Stop}
use Rattle.hc_trace.specs.InRange.{StopInRange}
use Rattle.hc_trace.proofs.RangeLemmas.{behaviours_are_in_range}
use Rattle.hc_joint.specs.Seen.{Seen}
use Rattle.hc_joint.specs.Keeps.{Keeps}

pub stop_named : (s : Seen) → Keeps s → (stop : Stop) → s.stop ≡ Some stop → StopInRange s.task.system stop
stop_named s k stop e = (behaviours_are_in_range s.task s.history k.reached stop (k.stops stop e)).1
