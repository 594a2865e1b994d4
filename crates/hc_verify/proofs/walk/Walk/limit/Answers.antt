use Rattle.std.proofs.Common.{◌≤◌, ◌<◌, refl, arith}
use Rattle.hc_verify.proofs.Spending.{too_few, all_taken}
use Rattle.hc_verify.proofs.walk.Walk.limit.Goals as goal

pub returns-then-spend_all-room : goal.returns-then-spend_all-room
returns-then-spend_all-room c before r =
    let few : c.spend_all.result < c.args.room = omega (arith, c.if-spend_all-room.true) in
    too_few c.args.task.now c.args.at c.args.room c.args.self.now before r c.spend_all.result (c.spend_all.ensures before r.at) few

pub returns : goal.returns
returns c before r =
    let past : c.args.room ≤ c.spend_all.result = omega (arith, c.if-spend_all-room.false) in
    all_taken c.args.task.now c.args.at c.args.room c.args.self.now before r c.spend_all.result (c.spend_all.ensures before r.at)
    (c.if-not-is_same.ensures.0 refl) past
