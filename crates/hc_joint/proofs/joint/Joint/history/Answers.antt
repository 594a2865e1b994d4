use Rattle.std.proofs.Common.{subst}
use Rattle.hc_joint.specs.Keeps.{Keeps}
use Rattle.hc_joint.proofs.Kept.{made_keeps}
use Rattle.hc_joint.proofs.joint.Joint.history.Goals as goal

pub returns-clause-keeps : goal.returns-clause-keeps
returns-clause-keeps c =
    let j = c.self.inside in
    subst Keeps c.self.view_is (made_keeps j.scene j.stop j.turns j.recomputed c.self.invariant)
