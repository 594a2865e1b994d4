use Rattle.std.proofs.Common.{◌≡◌, ◌≤◌}
use Rattle.hc_joint.proofs.Finishing.{left, IsOnCourse}
use Rattle.hc_joint.proofs.joint.Joint.finish.Given as goal

abbrev pub invariant-loop-self : goal.invariant-loop-self
invariant-loop-self l = record {
  task : l.self.task ≡ l.fn.self.task;
  recomputed : l.self.recomputed ≡ l.fn.self.recomputed;
  grown : l.fn.self.turns ≤ l.self.turns;
  course : IsOnCourse l.fn.self.stop l.fn.self l.self;
}

abbrev pub decreases-loop-self : goal.decreases-loop-self
decreases-loop-self l = left l.self
