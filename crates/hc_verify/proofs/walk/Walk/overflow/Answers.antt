use Rattle.std.proofs.Common.{◌≤◌, ◌<◌, refl, sym, subst, ℕ, length, Option, Some, arith}
use Rattle.hc_term.specs.declared.run.Stop.TheVariants.{Overflow}
use Rattle.hc_verify.specs.Ending.{Reaches}
use Rattle.hc_verify.proofs.Overflowing.{no_process, never_unfit, too_late, overflows}
use Rattle.hc_verify.proofs.walk.Walk.overflow.Goals as goal

pub returns-then-process-len : goal.returns-then-process-len
returns-then-process-len c before r =
    let past : length c.args.self.now.members.items ≤ c.args.process = omega (arith, c.if-process-len.true, c.len.ensures) in
    no_process c.args.task.now c.args.at c.args.process c.args.room c.args.self.now before r past

pub returns-in_err-moved : goal.returns-in_err-moved
returns-in_err-moved c before r =
    let t = c.args.task.now in
    let low : c.args.process < length c.args.self.now.members.items = omega (arith, c.if-process-len.false, c.len.ensures) in
    subst (λ (o : Option ℕ). Reaches t (Overflow (Some c.args.process)) c.args.at c.args.room before o) (sym c.from_residual.ensures)
    (never_unfit t c.args.at c.args.process c.args.room c.args.self.now before r c.run-stretch.new.self c.run-stretch.result low
    (λ q there. c.run-stretch.ensures.runs t.system before q r.at there) c.in_err-moved.ensures)

pub returns-then-moved-room : goal.returns-then-moved-room
returns-then-moved-room c before r =
    let t = c.args.task.now in
    let low : c.args.process < length c.args.self.now.members.items = omega (arith, c.if-process-len.false, c.len.ensures) in
    let past : c.args.room ≤ c.in_ok-moved.moved = omega (arith, c.if-moved-room.true) in
    too_late t c.args.at c.args.process c.args.room c.args.self.now before r c.run-stretch.new.self c.run-stretch.result low
    (λ q there. c.run-stretch.ensures.runs t.system before q r.at there) c.in_ok-moved.moved c.in_ok-moved.ensures past

pub returns : goal.returns
returns c before r =
    let t = c.args.task.now in
    let low : c.args.process < length c.args.self.now.members.items = omega (arith, c.if-process-len.false, c.len.ensures) in
    let few : c.in_ok-moved.moved < c.args.room = omega (arith, c.if-moved-room.false) in
    overflows t c.args.at c.args.process c.args.room c.args.self.now before r c.run-stretch.new.self c.run-stretch.result low
    (λ q there. c.run-stretch.ensures.runs t.system before q r.at there) c.in_ok-moved.moved c.in_ok-moved.ensures
    (c.if-not-is_same.ensures.0 refl) few
