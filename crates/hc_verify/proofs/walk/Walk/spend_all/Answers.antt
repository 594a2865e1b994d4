use Rattle.std.proofs.Common.{◌≤◌, ◌<◌, ◌+◌, refl, length, arith}
use Rattle.hc_verify.proofs.Spending.{begun, next, one_more, all_spend, same_members}
use Rattle.hc_verify.proofs.walk.Walk.spend_all.Goals as goal

pub loop-process-init : goal.loop-process-init
loop-process-init c = record {
  within = omega arith;
  counted = refl;
  course = λ before at. begun c.args.task.now before c.args.room c.args.self.now at;
}

pub overflow_add-moved : goal.overflow_add-moved
overflow_add-moved c =
    let t = c.args.task.now in
    let w = c.loop-process.self in
    let p = c.loop-process.process in
    let before = c.requires.at.0 in
    let u = c.loop-process.invariant.course before c.requires.at.1 in
    let low : p < length w.members.items = omega (arith, c.loop-process-test.true, c.len-process-end.ensures, c.loop-process.invariant.counted) in
    let q = next t before c.args.room p c.loop-process.moved w u low in
    let h = c.spend-steps.ensures u.stands q.0 u.at q.1 in
    omega (arith, h.within, c.loop-process.invariant.within, c.ranges.room.fits)

pub loop-process-preserved : goal.loop-process-preserved
loop-process-preserved c =
    let t = c.args.task.now in
    let w = c.loop-process.self in
    let p = c.loop-process.process in
    let moved = c.loop-process.moved in
    let first = c.requires.at.0 in
    let u = c.loop-process.invariant.course first c.requires.at.1 in
    let low : p < length w.members.items = omega (arith, c.loop-process-test.true, c.len-process-end.ensures, c.loop-process.invariant.counted) in
    let q = next t first c.args.room p moved w u low in
    let h = c.spend-steps.ensures u.stands q.0 u.at q.1 in
    let more = one_more t first c.args.room p moved w u q.0 q.1 c.spend-steps.new.self c.spend-steps.result h in
    record {
      within = omega (arith, h.within, c.loop-process.invariant.within);
      counted = same_members t first c.args.room (p + 1) (moved + c.spend-steps.result) c.spend-steps.new.self more c.args.self.now c.requires.at.1;
      course = λ before at. (
          let v = c.loop-process.invariant.course before at in
          let r = next t before c.args.room p moved w v low in
          one_more t before c.args.room p moved w v r.0 r.1 c.spend-steps.new.self c.spend-steps.result
          (c.spend-steps.ensures v.stands r.0 v.at r.1));
    }

pub returns : goal.returns
returns c before at =
    let w = c.loop-process.self in
    let past : length w.members.items ≤ c.loop-process.process =
    omega (arith, c.loop-process-test.false, c.len-process-end.ensures, c.loop-process.invariant.counted) in
    all_spend c.args.task.now before c.args.room c.loop-process.process c.loop-process.moved w (c.loop-process.invariant.course before at) past
    c.loop-process.invariant.within
