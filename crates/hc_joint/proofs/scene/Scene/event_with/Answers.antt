use Rattle.std.proofs.Common.{subst}
use Rattle.hc_member.specs.Lending.{kept}
use Rattle.hc_joint.specs.declared.turn.Turn.{Turn}
use Rattle.hc_joint.specs.Parts.{room}
use Rattle.hc_joint.specs.Handed.{Judges}
use Rattle.hc_joint.proofs.scene.Scene.event_with.Goals as goal

pub event_by-requires-clause-taken : goal.event_by-requires-clause-taken
event_by-requires-clause-taken c m there =
    let s = c.args.self.now in
    subst (λ (t : Turn). Judges (kept m) s.clock s.task.seed (room s) c.args.advance.now t) c.in-Taken.is (c.judge-turn.ensures m there)
