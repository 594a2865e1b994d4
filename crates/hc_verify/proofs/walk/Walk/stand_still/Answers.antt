use Rattle.std.proofs.Common.{◌≤◌, ◌<◌, refl, sym, subst, ℕ, Option, arith}
use Rattle.hc_verify.specs.Ending.{Reaches}
use Rattle.hc_verify.proofs.StandingStill.{never_still, too_late, nothing_told, other_stop, stops_there}
use Rattle.hc_verify.proofs.walk.Walk.stand_still.Goals as goal

pub returns-in_err-moved : goal.returns-in_err-moved
returns-in_err-moved c before r =
    let t = c.args.task.now in
    subst (λ (o : Option ℕ). Reaches t c.args.stop c.args.at c.args.room before o) (sym c.from_residual.ensures)
    (never_still t c.args.stop c.requires.timed c.args.at c.args.room c.args.self.now before r c.halt_all.new.self (c.in_err-moved.ensures before r.at))

pub returns-then-moved-room : goal.returns-then-moved-room
returns-then-moved-room c before r =
    let h = c.in_ok-moved.ensures before r.at in
    let past : c.args.room ≤ c.in_ok-moved.moved = omega (arith, c.if-moved-room.true) in
    too_late c.args.task.now c.args.stop c.requires.timed c.args.at c.args.room c.args.self.now before r c.in_ok-moved.moved h.1.0 h.1.1 h.1.2 past

pub returns-in_err-told : goal.returns-in_err-told
returns-in_err-told c before r =
    let t = c.args.task.now in
    let h = c.in_ok-moved.ensures before r.at in
    subst (λ (o : Option ℕ). Reaches t c.args.stop c.args.at c.args.room before o) (sym c.from_residual-in_err-told.ensures)
    (nothing_told t c.args.stop c.requires.timed c.args.at c.args.room c.args.self.now before r c.in_ok-moved.moved h.1.0 h.1.1 h.1.2
    (c.in_err-told.ensures h.1.0 h.1.3))

pub returns-then-not-is_stop : goal.returns-then-not-is_stop
returns-then-not-is_stop c before r =
    let h = c.in_ok-moved.ensures before r.at in
    other_stop c.args.task.now c.args.stop c.requires.timed c.args.at c.args.room c.args.self.now before r c.in_ok-moved.moved h.1.0 h.1.1 h.1.2
    c.in_ok-told.told (c.in_ok-told.ensures h.1.0 h.1.3) c.halt_all.new.self h.1.3 c.posts.result.now c.posts.ensures.posts
    c.are_ended-all_ended.result c.are_ended-all_ended.ensures c.if-not-is_stop.ensures

pub returns : goal.returns
returns c before r =
    let h = c.in_ok-moved.ensures before r.at in
    let low : c.in_ok-moved.moved < c.args.room = omega (arith, c.if-moved-room.false) in
    stops_there c.args.task.now c.args.stop c.requires.timed c.args.at c.args.room c.args.self.now before r c.in_ok-moved.moved h.1.0 h.1.1 h.1.2
    c.in_ok-told.told (c.in_ok-told.ensures h.1.0 h.1.3) c.halt_all.new.self h.1.3 c.posts.result.now c.posts.ensures.posts
    c.are_ended-all_ended.result c.are_ended-all_ended.ensures (c.if-not-is_same.ensures.0 refl) low c.if-not-is_stop.ensures
