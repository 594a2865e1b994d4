use Rattle.std.proofs.Common.{rules, ◌≡◌, ◌<◌, sym, subst, length, vec_len, arith}
use Rattle.hc_term.specs.Event.{Event}
use Rattle.hc_joint.specs.Parts.{room, Comes}
use Rattle.hc_joint.proofs.Events.{second-limit, second-unfit, second-meets}
use Rattle.hc_joint.proofs.scene.Scene.go_on.Goals as goal

pub returns-then-len-self : goal.returns-then-len-self
returns-then-len-self c before at =
    let s = c.args.self.now in
    let counted : vec_len s.history ≡ length s.history.items = search rules in
    let none : room s ≡ 0 = omega (arith, counted, c.len.ensures, c.if-len-self.true) in
    second-limit s c.args.process before c.args.end at none

pub returns-in-Unfit : goal.returns-in-Unfit
returns-in-Unfit c before at =
    let s = c.args.self.now in
    let counted : vec_len s.history ≡ length s.history.items = search rules in
    let left : 0 < room s = omega (arith, counted, c.len.ensures, c.if-len-self.false, at.within) in
    second-unfit s c.args.process before c.args.end at left c.in-Unfit.is

pub returns-in_default : goal.returns-in_default
returns-in_default c before at =
    let s = c.args.self.now in
    let same = second-meets (room s) s.task c.args.process before c.args.end c.in_default.not-Unfit in
    subst (λ (e : Event). Comes s c.meet_and_wait.new.self e c.meet_and_wait.result) (sym same) (c.meet_and_wait.ensures before at)
