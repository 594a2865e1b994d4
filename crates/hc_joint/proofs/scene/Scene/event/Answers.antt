use Rattle.std.proofs.Common.{rules, ◌≡◌, min, length, vec_len, arith}
use Rattle.hc_limits.specs.Limits.{most_silent_steps}
use Rattle.hc_joint.specs.Parts.{room}
use Rattle.hc_joint.proofs.Events.{somewhere_after, event_comes}
use Rattle.hc_joint.proofs.scene.Scene.event.Goals as goal

pub go_on-requires : goal.go_on-requires
go_on-requires c =
    record {
      at = somewhere_after c.args.self.now c.run_process-end.new.self c.args.process c.min.result c.run_process-end.result
          c.requires.there c.run_process-end.ensures c.requires.at;
    }

pub returns : goal.returns
returns c before at =
    let s = c.args.self.now in
    let counted : vec_len s.history ≡ length s.history.items = search rules in
    let least : c.min.result ≡ min most_silent_steps (room s) = omega (arith, counted, c.len.ensures, c.min.ensures) in
    event_comes s c.run_process-end.new.self c.go_on.new.self c.args.process c.min.result c.run_process-end.result c.go_on.result least
    c.run_process-end.ensures c.go_on.ensures c.requires.there before at
