use Rattle.std.proofs.Common.{◌∙◌, sym, subst}
use Rattle.hc_joint.specs.Seen.{Seen}
use Rattle.hc_joint.specs.Keeps.{IsReached}
use Rattle.hc_joint.proofs.Kept.{able_seen}
use Rattle.hc_joint.proofs.joint.Joint.able.Goals as goal

pub returns : goal.returns
returns c at is =
    let j = c.self.inside in
    c.is_able.ensures
    ∙ able_seen j.scene j.stop j.turns j.recomputed c.self.invariant c.args.process at
    (subst (λ (s : Seen). IsReached s at) (sym c.self.view_is) is)
