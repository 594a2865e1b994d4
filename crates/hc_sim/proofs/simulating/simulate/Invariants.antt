use Rattle.std.proofs.Common.{◌≡◌}
use Rattle.hc_joint.proofs.Finishing.{left}
use Rattle.hc_sim.proofs.Turning.{IsAlong}
use Rattle.hc_sim.proofs.simulating.simulate.Given as goal

abbrev pub invariant-loop : goal.invariant-loop
invariant-loop g l = record {
  task : l.joint.task ≡ l.fn.joint.task;
  along : IsAlong g.O.Sink.state l.fn.out l.out l.joint;
}

abbrev pub decreases-loop : goal.decreases-loop
decreases-loop g l = left l.joint
