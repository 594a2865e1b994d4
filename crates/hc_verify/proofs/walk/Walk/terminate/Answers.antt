use Rattle.std.proofs.Common.{◌≤◌, ◌<◌, refl, sym, subst, ℕ, Option, arith}
use Rattle.hc_term.specs.declared.run.Stop.TheVariants.{Terminated}
use Rattle.hc_verify.specs.Ending.{Reaches}
use Rattle.hc_verify.proofs.Terminating.{never_still, too_late, not_ended, ends_there}
use Rattle.hc_verify.proofs.walk.Walk.terminate.Goals as goal

pub returns-in_err-moved : goal.returns-in_err-moved
returns-in_err-moved c before r =
    let t = c.args.task.now in
    subst (λ (o : Option ℕ). Reaches t Terminated c.args.at c.args.room before o) (sym c.from_residual.ensures)
    (never_still t c.args.at c.args.room c.args.self.now before r c.halt_all.new.self (c.in_err-moved.ensures before r.at))

pub returns-then-moved-room : goal.returns-then-moved-room
returns-then-moved-room c before r =
    let h = c.in_ok-moved.ensures before r.at in
    let past : c.args.room ≤ c.in_ok-moved.moved = omega (arith, c.if-moved-room.true) in
    too_late c.args.task.now c.args.at c.args.room c.args.self.now before r c.in_ok-moved.moved h.1.0 h.1.1 h.1.2 past

pub returns-then-not-are_ended : goal.returns-then-not-are_ended
returns-then-not-are_ended c before r =
    let h = c.in_ok-moved.ensures before r.at in
    not_ended c.args.task.now c.args.at c.args.room c.args.self.now before r c.in_ok-moved.moved h.1.0 h.1.1 h.1.2 c.halt_all.new.self h.1.3
    c.posts.result.now c.posts.ensures.posts _ c.if-not-are_ended.ensures refl

pub returns : goal.returns
returns c before r =
    let h = c.in_ok-moved.ensures before r.at in
    let low : c.in_ok-moved.moved < c.args.room = omega (arith, c.if-moved-room.false) in
    ends_there c.args.task.now c.args.at c.args.room c.args.self.now before r c.in_ok-moved.moved h.1.0 h.1.1 h.1.2 c.halt_all.new.self h.1.3
    c.posts.result.now c.posts.ensures.posts _ c.if-not-are_ended.ensures (c.if-not-is_same.ensures.0 refl) low refl
