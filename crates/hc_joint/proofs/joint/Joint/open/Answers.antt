use Rattle.hc_joint.proofs.NextTurn.{made_open}
use Rattle.hc_joint.proofs.joint.Joint.open.Goals as goal

pub invariant_of-result : goal.invariant_of-result
invariant_of-result c =
    let is = c.in_ok-scene.ensures in
    made_open c.in_ok-scene.scene c.args.task is.task is.empty is.at
