use Rattle.std.proofs.Common.{◌≤◌, ◌<◌, refl, length, arith}
use Rattle.hc_verify.proofs.Logging.{no_process, log_follows}
use Rattle.hc_verify.proofs.walk.Walk.log.Goals as goal

pub returns-then-process-len : goal.returns-then-process-len
returns-then-process-len c before r =
    let past : length c.args.self.now.members.items ≤ c.args.process = omega (arith, c.if-process-len.true, c.len.ensures) in
    no_process c.args.task.now c.args.process c.args.value c.args.room c.args.self.now before r c.args.at c.args.self.now past

pub returns : goal.returns
returns c before r =
    let low : c.args.process < length c.args.self.now.members.items = omega (arith, c.if-process-len.false, c.len.ensures) in
    log_follows c.args.task.now c.args.process c.args.value c.args.room c.args.self.now before r c.run-stretch.new.self c.run-stretch.result
    low (λ q there. c.run-stretch.ensures.runs c.args.task.now.system before q r.at there) c.run-stretch.ensures.at_most
    c.args.at (c.if-not-is_same.ensures.0 refl) c.steps_to_log.result c.steps_to_log.ensures
