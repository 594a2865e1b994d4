use Rattle.hc_verify.proofs.LineNamed.{delay_line, comm_line, log_line}
use Rattle.hc_verify.proofs.walk.Walk.follow_line.Goals as goal

pub returns-in-Delay : goal.returns-in-Delay
returns-in-Delay c before r =
    delay_line c.args.task.now c.args.line.now c.args.room before c.delay.new.self c.in-Delay.by c.in-Delay.is c.delay.result
    (c.delay.ensures before r)

pub returns-in_ok-channel-in-Comm : goal.returns-in_ok-channel-in-Comm
returns-in_ok-channel-in-Comm c before r =
    let e = c.in-Comm in
    comm_line c.args.task.now c.args.line.now c.args.room before c.comm.new.self e.channel e.sender e.receiver e.value e.is
    c.in_ok-channel-in-Comm.channel c.in_ok-channel-in-Comm.ensures c.comm.result (c.comm.ensures before r)

pub returns-in_ok-process-in-Log : goal.returns-in_ok-process-in-Log
returns-in_ok-process-in-Log c before r =
    let e = c.in-Log in
    log_line c.args.task.now c.args.line.now c.args.room before c.log.new.self e.process e.value e.is
    c.in_ok-process-in-Log.process c.in_ok-process-in-Log.ensures c.log.result (c.log.ensures before r)
