use Rattle.std.proofs.Common.{◌∙◌}
use Rattle.hc_cexec.proofs.Steps.{blocked_says, blocked_at, over_says, over_at, undefined_says, undefined_at, takes_says, takes_at}
use Rattle.hc_cexec.proofs.machine.Machine.step_by.Goals as goal

pub returns-in-Blocked-clause-says : goal.returns-in-Blocked-clause-says
returns-in-Blocked-clause-says g c s at =
    blocked_says c.args.program.now c.args.self.now c.answer.new.self c.args.thread c.in-Blocked.ensures.keeps s at c.in-Blocked.ensures.answers

pub returns-in-Blocked-clause-at : goal.returns-in-Blocked-clause-at
returns-in-Blocked-clause-at g c s at =
    blocked_at c.args.program.now c.args.self.now c.answer.new.self c.args.thread c.in-Blocked.ensures.keeps s at c.in-Blocked.ensures.answers

pub returns-in-Over-clause-says : goal.returns-in-Over-clause-says
returns-in-Over-clause-says g c s at =
    over_says c.args.program.now c.args.self.now c.answer.new.self c.args.thread c.in-Over.ensures.keeps s at c.in-Over.ensures.answers

pub returns-in-Over-clause-at : goal.returns-in-Over-clause-at
returns-in-Over-clause-at g c s at =
    over_at c.args.program.now c.args.self.now c.answer.new.self c.args.thread c.in-Over.ensures.keeps s at c.in-Over.ensures.answers

pub returns-in-Undefined-clause-says : goal.returns-in-Undefined-clause-says
returns-in-Undefined-clause-says g c s at =
    undefined_says c.args.program.now c.args.self.now c.answer.new.self c.args.thread c.in-Undefined.ensures.keeps s at c.in-Undefined.kind
    c.in-Undefined.ensures.answers

pub returns-in-Undefined-clause-at : goal.returns-in-Undefined-clause-at
returns-in-Undefined-clause-at g c s at =
    undefined_at c.args.program.now c.args.self.now c.answer.new.self c.args.thread c.in-Undefined.ensures.keeps s at c.in-Undefined.kind
    c.in-Undefined.ensures.answers

pub returns-in-Takes-clause-says : goal.returns-in-Takes-clause-says
returns-in-Takes-clause-says g c s at =
    c.take.ensures.says
    ∙ takes_says c.args.program.now c.args.self.now c.answer.new.self c.args.thread c.in-Takes.ensures.keeps s at c.in-Takes.act c.in-Takes.then
    c.in-Takes.ensures.answers

pub returns-in-Takes-clause-at : goal.returns-in-Takes-clause-at
returns-in-Takes-clause-at g c s at =
    takes_at c.args.program.now c.args.self.now c.answer.new.self c.args.thread c.in-Takes.ensures.keeps s at c.in-Takes.act c.in-Takes.then c.take.new.self
    c.in-Takes.ensures.answers c.take.ensures.taken
