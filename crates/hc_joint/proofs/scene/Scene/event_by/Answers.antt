use Rattle.std.proofs.Common.{refl, min}
use Rattle.hc_limits.specs.Limits.{most_silent_steps}
use Rattle.hc_joint.specs.Parts.{room}
use Rattle.hc_joint.proofs.Events.{somewhere_after, event_comes}
use Rattle.hc_joint.proofs.scene.Scene.event_by.Goals as goal

pub go_on-requires : goal.go_on-requires
go_on-requires c =
    let s = c.args.self.now in
    record {
      at = somewhere_after s c.hand_in-end.new.self c.args.process (min most_silent_steps (room s)) c.hand_in-end.result
          c.requires.there c.hand_in-end.ensures c.requires.at;
    }

pub returns : goal.returns
returns c before at =
    let s = c.args.self.now in
    event_comes s c.hand_in-end.new.self c.go_on.new.self c.args.process (min most_silent_steps (room s)) c.hand_in-end.result c.go_on.result refl
    c.hand_in-end.ensures c.go_on.ensures c.requires.there before at
