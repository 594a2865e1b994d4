use Rattle.std.proofs.Common.{◌≤◌, ◌<◌, refl, sym, subst, ℕ, Option, arith}
use Rattle.hc_term.specs.declared.run.Step.TheVariants.{Comm}
use Rattle.hc_verify.specs.Following.{Followed}
use Rattle.hc_verify.proofs.MeetingLine.{differ, no_meeting, sender_below, receiver_below, sender_here, receiver_here, cannot_halt, members_after, too_many, not_met, they_meet}
use Rattle.hc_verify.proofs.Stilling.{all_shown}
use Rattle.hc_verify.proofs.walk.Walk.comm.Goals as goal

pub returns-in_err-meeting : goal.returns-in_err-meeting
returns-in_err-meeting c before r =
    let t = c.args.task.now in
    let w = c.args.self.now in
    subst (λ (o : Option ℕ). Followed t (record { at = c.args.at; step = Comm c.args.channel c.args.value }) c.args.room before w o)
    (sym c.from_residual.ensures)
    (no_meeting t c.args.channel c.args.value c.args.room w before r c.args.at w c.in_err-meeting.ensures)

pub halt_both-requires-clause-sender : goal.halt_both-requires-clause-sender
halt_both-requires-clause-sender c =
    sender_below c.args.task.now c.args.channel c.args.value c.args.room c.args.self.now c.requires.reached.0 c.requires.reached.1
    c.in_ok-meeting.meeting c.in_ok-meeting.ensures

pub halt_both-requires-clause-receiver : goal.halt_both-requires-clause-receiver
halt_both-requires-clause-receiver c =
    receiver_below c.args.task.now c.args.channel c.args.value c.args.room c.args.self.now c.requires.reached.0 c.requires.reached.1
    c.in_ok-meeting.meeting c.in_ok-meeting.ensures

pub halt_both-requires-clause-differ : goal.halt_both-requires-clause-differ
halt_both-requires-clause-differ c =
    differ c.args.task.now c.args.channel c.args.value c.in_ok-meeting.meeting c.in_ok-meeting.ensures

pub returns-in_err-moved : goal.returns-in_err-moved
returns-in_err-moved c before r =
    let t = c.args.task.now in
    let w = c.args.self.now in
    let m = c.in_ok-meeting.meeting in
    let new = c.halt_both.new.self in
    let s = sender_here t c.args.channel c.args.value c.args.room w before r m c.in_ok-meeting.ensures in
    let v = receiver_here t c.args.channel c.args.value c.args.room w before r m c.in_ok-meeting.ensures in
    subst (λ (o : Option ℕ). Followed t (record { at = c.args.at; step = Comm c.args.channel c.args.value }) c.args.room before new o)
    (sym c.from_residual-in_err-moved.ensures)
    (cannot_halt t c.args.channel c.args.value c.args.room w before r m c.in_ok-meeting.ensures c.args.at new new
    (c.in_err-moved.ensures before s.0 v.0 r.at s.1 v.1))

pub returns-then-moved-room : goal.returns-then-moved-room
returns-then-moved-room c before r =
    let t = c.args.task.now in
    let w = c.args.self.now in
    let m = c.in_ok-meeting.meeting in
    let new = c.halt_both.new.self in
    let s = sender_here t c.args.channel c.args.value c.args.room w before r m c.in_ok-meeting.ensures in
    let v = receiver_here t c.args.channel c.args.value c.args.room w before r m c.in_ok-meeting.ensures in
    let h = c.in_ok-moved.ensures before s.0 v.0 r.at s.1 v.1 in
    let past : c.args.room ≤ c.in_ok-moved.moved = omega (arith, c.if-moved-room.true) in
    too_many t c.args.channel c.args.value c.args.room w before r m c.in_ok-meeting.ensures c.in_ok-moved.moved h.1.0 c.args.at new past

pub meet-requires-clause-sender : goal.meet-requires-clause-sender
meet-requires-clause-sender c =
    let t = c.args.task.now in
    let w = c.args.self.now in
    let before = c.requires.reached.0 in
    let r = c.requires.reached.1 in
    let m = c.in_ok-meeting.meeting in
    let s = sender_here t c.args.channel c.args.value c.args.room w before r m c.in_ok-meeting.ensures in
    let v = receiver_here t c.args.channel c.args.value c.args.room w before r m c.in_ok-meeting.ensures in
    let h = c.in_ok-moved.ensures before s.0 v.0 r.at s.1 v.1 in
    let same = members_after t c.args.channel c.args.value c.args.room w before r m c.in_ok-meeting.ensures c.in_ok-moved.moved h.1.0
    c.halt_both.new.self h.1.1 in
    let low = sender_below t c.args.channel c.args.value c.args.room w before r m c.in_ok-meeting.ensures in
    omega (arith, same, low)

pub meet-requires-clause-receiver : goal.meet-requires-clause-receiver
meet-requires-clause-receiver c =
    let t = c.args.task.now in
    let w = c.args.self.now in
    let before = c.requires.reached.0 in
    let r = c.requires.reached.1 in
    let m = c.in_ok-meeting.meeting in
    let s = sender_here t c.args.channel c.args.value c.args.room w before r m c.in_ok-meeting.ensures in
    let v = receiver_here t c.args.channel c.args.value c.args.room w before r m c.in_ok-meeting.ensures in
    let h = c.in_ok-moved.ensures before s.0 v.0 r.at s.1 v.1 in
    let same = members_after t c.args.channel c.args.value c.args.room w before r m c.in_ok-meeting.ensures c.in_ok-moved.moved h.1.0
    c.halt_both.new.self h.1.1 in
    let low = receiver_below t c.args.channel c.args.value c.args.room w before r m c.in_ok-meeting.ensures in
    omega (arith, same, low)

pub meet-requires-clause-shown : goal.meet-requires-clause-shown
meet-requires-clause-shown c =
    let t = c.args.task.now in
    let w = c.args.self.now in
    let before = c.requires.reached.0 in
    let r = c.requires.reached.1 in
    let m = c.in_ok-meeting.meeting in
    let s = sender_here t c.args.channel c.args.value c.args.room w before r m c.in_ok-meeting.ensures in
    let v = receiver_here t c.args.channel c.args.value c.args.room w before r m c.in_ok-meeting.ensures in
    let h = c.in_ok-moved.ensures before s.0 v.0 r.at s.1 v.1 in
    all_shown t.system c.halt_both.new.self _ h.1.1

pub meet-requires-clause-differ : goal.meet-requires-clause-differ
meet-requires-clause-differ c =
    differ c.args.task.now c.args.channel c.args.value c.in_ok-meeting.meeting c.in_ok-meeting.ensures

pub returns-then-not-meet : goal.returns-then-not-meet
returns-then-not-meet c before r =
    let t = c.args.task.now in
    let w = c.args.self.now in
    let m = c.in_ok-meeting.meeting in
    let new = c.meet.new.self in
    let s = sender_here t c.args.channel c.args.value c.args.room w before r m c.in_ok-meeting.ensures in
    let v = receiver_here t c.args.channel c.args.value c.args.room w before r m c.in_ok-meeting.ensures in
    let h = c.in_ok-moved.ensures before s.0 v.0 r.at s.1 v.1 in
    not_met t c.args.channel c.args.value c.args.room w before r m c.in_ok-meeting.ensures c.in_ok-moved.moved h.1.0 c.args.at new new
    (c.if-not-meet.ensures t.system _ h.1.1)

pub returns : goal.returns
returns c before r =
    let t = c.args.task.now in
    let w = c.args.self.now in
    let m = c.in_ok-meeting.meeting in
    let new = c.meet.new.self in
    let s = sender_here t c.args.channel c.args.value c.args.room w before r m c.in_ok-meeting.ensures in
    let v = receiver_here t c.args.channel c.args.value c.args.room w before r m c.in_ok-meeting.ensures in
    let h = c.in_ok-moved.ensures before s.0 v.0 r.at s.1 v.1 in
    let low : c.in_ok-moved.moved < c.args.room = omega (arith, c.if-moved-room.false) in
    they_meet t c.args.channel c.args.value c.args.room w before r m c.in_ok-meeting.ensures c.in_ok-moved.moved h.1.0 c.args.at new
    (c.if-not-is_same.ensures.0 refl) low (c.if-not-meet.ensures t.system _ h.1.1)
