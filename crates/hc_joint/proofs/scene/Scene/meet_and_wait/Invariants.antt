use Rattle.std.proofs.Common.{◌≡◌, length}
use Rattle.hc_term.specs.declared.model.Configuration.{Configuration}
use Rattle.hc_joint.specs.Stands.{IsAt}
use Rattle.hc_joint.proofs.Events.{Under}
use Rattle.hc_joint.proofs.scene.Scene.meet_and_wait.Given as goal

abbrev pub invariant-loop-left : goal.invariant-loop-left
invariant-loop-left l = record {
  counted : length l.self.history.items ≡ l._left;
  course : (c : Configuration) → IsAt l.fn.self c → Under l.fn.self l.self c;
}
