use Rattle.std.proofs.Common.{arith}
use Rattle.hc_verify.proofs.Along.{end_line_within, without_end, at_end, end_fails}
use Rattle.hc_verify.proofs.walk.Walk.judge_end.Goals as goal

pub overflow_add-result : goal.overflow_add-result
overflow_add-result c =
    let r = c.requires.reached in
    let few = end_line_within c.args.task.now c.in-Some.line c.args.room r.0 c.in-Some-follow_end.moved (c.in-Some-follow_end.ensures r.0 r.1) in
    omega (arith, few, r.1.left, c.args.task.now.in_range.1)

pub returns-in-None : goal.returns-in-None
returns-in-None c before r count =
    without_end c.args.task.now c.args.self.now c.args.room before r c.args.end.now c.in-None.is

pub returns-in-None-follow_end : goal.returns-in-None-follow_end
returns-in-None-follow_end c before r count =
    end_fails c.args.task.now c.args.self.now c.args.room before r c.args.end.now c.in-Some.line c.args.number c.in-Some.is count
    (c.in-None-follow_end.ensures before r)

pub returns-in-Some-follow_end : goal.returns-in-Some-follow_end
returns-in-Some-follow_end c before r count =
    at_end c.args.task.now c.args.self.now c.args.room before r c.args.end.now c.in-Some.line c.in-Some-follow_end.moved c.in-Some.is
    (c.in-Some-follow_end.ensures before r)
