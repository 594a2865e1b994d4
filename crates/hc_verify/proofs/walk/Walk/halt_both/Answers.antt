use Rattle.std.proofs.Common.{sym, subst, ℕ, Option, arith}
use Rattle.hc_verify.specs.Communicating.{BothHalt}
use Rattle.hc_verify.proofs.BothHalting.{receiver_cannot, both_halt, still_there, within_room, members_after, shown_after, at_after}
use Rattle.hc_verify.proofs.Logging.{is_there}
use Rattle.hc_verify.proofs.walk.Walk.halt_both.Goals as goal

pub overflow_sub-room : goal.overflow_sub-room
overflow_sub-room c =
    within_room c.args.task.now c.args.meeting.now.sender c.args.room c.args.self.now c.halt.new.self c.in_ok-sending.sending
    c.in_ok-sending.ensures c.requires.sender c.requires.at

pub halt-requires-2-clause-there : goal.halt-requires-2-clause-there
halt-requires-2-clause-there c =
    let same = members_after c.args.task.now c.args.meeting.now.sender c.args.room c.args.self.now c.halt.new.self c.in_ok-sending.sending
    c.in_ok-sending.ensures c.requires.sender c.requires.at in
    omega (arith, same, c.requires.receiver)

pub halt-requires-2-clause-shown : goal.halt-requires-2-clause-shown
halt-requires-2-clause-shown c =
    shown_after c.args.task.now c.args.meeting.now.sender c.args.room c.args.self.now c.halt.new.self c.in_ok-sending.sending
    c.in_ok-sending.ensures c.requires.sender c.requires.at

pub returns-in_err-receiving : goal.returns-in_err-receiving
returns-in_err-receiving c before q r at q_is r_is =
    let t = c.args.task.now in
    let m = c.args.meeting.now in
    let k = c.in_ok-sending.sending in
    let first = c.in_ok-sending.ensures before q at q_is in
    let there = still_there t m c.args.room before q r k c.halt.new.self first c.requires.differ r_is in
    let new = c.halt-2.new.self in
    subst (λ (o : Option ℕ). BothHalt t m c.args.room before q r new o) (sym c.from_residual-in_err-receiving.ensures)
    (receiver_cannot t m c.args.room before q r k c.halt.new.self first new (c.in_err-receiving.ensures _ r first.1.3 there))

pub overflow_add-result : goal.overflow_add-result
overflow_add-result c =
    let t = c.args.task.now in
    let m = c.args.meeting.now in
    let w = c.args.self.now in
    let mid = c.halt.new.self in
    let k = c.in_ok-sending.sending in
    let first = c.in_ok-sending.ensures in
    let d = at_after t m.sender c.args.room w mid k first c.requires.sender c.requires.at in
    let same = members_after t m.sender c.args.room w mid k first c.requires.sender c.requires.at in
    let r = is_there d.0.processes m.receiver (omega (arith, c.requires.receiver, same, d.1.members.counted)) in
    let h = c.in_ok-receiving.ensures d.0 r.0 d.1 r.1 in
    omega (arith, h.0, within_room t m.sender c.args.room w mid k first c.requires.sender c.requires.at, c.ranges.room.fits)

pub returns : goal.returns
returns c before q r at q_is r_is =
    let t = c.args.task.now in
    let m = c.args.meeting.now in
    let k = c.in_ok-sending.sending in
    let first = c.in_ok-sending.ensures before q at q_is in
    let there = still_there t m c.args.room before q r k c.halt.new.self first c.requires.differ r_is in
    both_halt t m c.args.room before q r k c.halt.new.self first c.in_ok-receiving.receiving c.halt-2.new.self
    (c.in_ok-receiving.ensures _ r first.1.3 there)
