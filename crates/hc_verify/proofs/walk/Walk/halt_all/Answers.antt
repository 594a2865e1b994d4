use Rattle.std.proofs.Common.{◌≤◌, ◌<◌, ◌+◌, refl, sym, subst, ℕ, length, Option, arith}
use Rattle.hc_verify.specs.Halting.{AllHalt}
use Rattle.hc_verify.proofs.Stilling.{begun, next, one_more, stopped, all_halt, same_members}
use Rattle.hc_verify.proofs.walk.Walk.halt_all.Goals as goal

pub loop-process-init : goal.loop-process-init
loop-process-init c = record {
  within = omega arith;
  counted = refl;
  course = λ before at. begun c.args.task.now before c.args.self.now at;
}

pub returns-in_err-steps : goal.returns-in_err-steps
returns-in_err-steps c before at =
    let t = c.args.task.now in
    let w = c.loop-process.self in
    let p = c.loop-process.process in
    let moved = c.loop-process.moved in
    let u = c.loop-process.invariant.course before at in
    let low : p < length w.members.items = omega (arith, c.loop-process-test.true, c.len-process-end.ensures, c.loop-process.invariant.counted) in
    let q = next t before p moved w u low in
    let room = c.args.room in
    subst (λ (o : Option ℕ). AllHalt t room before c.halt.new.self o) (sym c.from_residual.ensures)
    (stopped t before p moved w u q.0 q.1 c.halt.new.self _ room low refl (c.in_err-steps.ensures u.reached q.0 u.at q.1))

pub overflow_add-moved : goal.overflow_add-moved
overflow_add-moved c =
    let t = c.args.task.now in
    let w = c.loop-process.self in
    let p = c.loop-process.process in
    let before = c.requires.at.0 in
    let u = c.loop-process.invariant.course before c.requires.at.1 in
    let low : p < length w.members.items = omega (arith, c.loop-process-test.true, c.len-process-end.ensures, c.loop-process.invariant.counted) in
    let q = next t before p c.loop-process.moved w u low in
    let h = c.in_ok-steps.ensures u.reached q.0 u.at q.1 in
    omega (arith, h.0, c.loop-process.invariant.within, c.ranges.room.fits)

pub loop-process-preserved : goal.loop-process-preserved
loop-process-preserved c =
    let t = c.args.task.now in
    let w = c.loop-process.self in
    let p = c.loop-process.process in
    let moved = c.loop-process.moved in
    let first = c.requires.at.0 in
    let u = c.loop-process.invariant.course first c.requires.at.1 in
    let low : p < length w.members.items = omega (arith, c.loop-process-test.true, c.len-process-end.ensures, c.loop-process.invariant.counted) in
    let q = next t first p moved w u low in
    let h = c.in_ok-steps.ensures u.reached q.0 u.at q.1 in
    let more = one_more t first p moved w u q.0 q.1 c.halt.new.self _ c.in_ok-steps.steps h in
    record {
      within = omega (arith, h.0, c.loop-process.invariant.within);
      counted = same_members t first (p + 1) (moved + c.in_ok-steps.steps) c.halt.new.self more c.args.self.now c.requires.at.1;
      course = λ before at. (
          let v = c.loop-process.invariant.course before at in
          let r = next t before p moved w v low in
          one_more t before p moved w v r.0 r.1 c.halt.new.self _ c.in_ok-steps.steps (c.in_ok-steps.ensures v.reached r.0 v.at r.1));
    }

pub returns : goal.returns
returns c before at =
    let w = c.loop-process.self in
    let past : length w.members.items ≤ c.loop-process.process =
    omega (arith, c.loop-process-test.false, c.len-process-end.ensures, c.loop-process.invariant.counted) in
    all_halt c.args.task.now before c.loop-process.process c.loop-process.moved w (c.loop-process.invariant.course before at) c.args.room past
    c.loop-process.invariant.within
