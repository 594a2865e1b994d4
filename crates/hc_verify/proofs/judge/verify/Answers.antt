use Rattle.std.proofs.Common.{◌≡◌, ◌+◌, List, [], length, refl, subst, arith}
use Rattle.hc_trace.specs.declared.traces.TraceLine.{TraceLine}
use Rattle.hc_verify.specs.Judging.{FailsFrom}
use Rattle.hc_verify.proofs.Along.{at_start, one_line_more, line_fails, lines_within, judged}
use Rattle.hc_verify.proofs.judge.verify.Goals as goal

pub loop-line-init : goal.loop-line-init
loop-line-init c = record {
  numbered = omega arith;
  along = at_start c.args.task.now c.as_slice-line-items.result.now c.args.trace.now.end c.in_ok-walk.walk c.in_ok-walk.ensures;
  whole = c.as_slice-line-items.ensures;
}

pub returns-in_default : goal.returns-in_default
returns-in_default c =
    let t = c.args.task.now in
    let a = c.loop-line.invariant.along in
    let lines = c.as_slice-line-items.result.now in
    subst (λ (l : List TraceLine). FailsFrom t [] l c.args.trace.now.end c.loop-line.number) c.loop-line.invariant.whole
    (line_fails t lines c.args.trace.now.end c.loop-line.walk c.loop-line.room c.loop-line.line-index a c.line-item.result
    c.loop-line-test.true c.line-item.is c.loop-line.number c.follow_line.new.self c.loop-line.invariant.numbered
    (c.in_default.ensures a.at a.reached))

pub overflow_sub-room : goal.overflow_sub-room
overflow_sub-room c =
    let a = c.loop-line.invariant.along in
    (c.in-Some.ensures a.at a.reached).2.0

pub overflow_add-number : goal.overflow_add-number
overflow_add-number c =
    let t = c.args.task.now in
    let a = c.loop-line.invariant.along in
    let few = lines_within t c.loop-line.walk c.loop-line.room a.at a.reached in
    omega (arith, few, a.counted, c.loop-line.invariant.numbered, t.in_range.1)

pub loop-line-preserved : goal.loop-line-preserved
loop-line-preserved c =
    let a = c.loop-line.invariant.along in
    record {
      numbered = omega (arith, c.loop-line.invariant.numbered);
      along = one_line_more c.args.task.now c.as_slice-line-items.result.now c.args.trace.now.end c.loop-line.walk c.loop-line.room
          c.loop-line.line-index a c.line-item.result c.loop-line-test.true c.line-item.is c.in-Some.steps c.follow_line.new.self
          (c.in-Some.ensures a.at a.reached);
      whole = c.loop-line.invariant.whole;
    }

pub returns : goal.returns
returns c =
    let t = c.args.task.now in
    let a = c.loop-line.invariant.along in
    let count : c.loop-line.number ≡ length a.reached.lines + 2 = omega (arith, c.loop-line.invariant.numbered, a.counted) in
    judged t c.as_slice-line-items.result.now c.args.trace.now.end c.loop-line.walk c.loop-line.room c.loop-line.line-index a
    c.args.trace.now c.loop-line.invariant.whole (refl {a = c.args.trace.now.end}) c.loop-line-test.false c.judge_end.result
    (c.judge_end.ensures a.at a.reached count)
