-- What crosses threads: the shares, and what stands under the lock. Types that reach themselves have their facts in their
-- knots; each type above is found from those below.
use denote.Param.Send.{IsSend, IsSync, sendable}
use Rattle.std.proofs.Crossing.{crosses}
use Rattle.hc_term.proofs.expr.Expr.TheLaws.TheKnot as expr_knot
use Rattle.hc_term.proofs.expr.Cond.TheLaws.TheKnot as cond_knot
use Rattle.hc_term.proofs.stmt.Stmt.TheLaws.TheKnot as stmt_knot
use Rattle.hc_term.specs.contracts.expr.Expr as expr
use Rattle.hc_term.specs.contracts.expr.Cond as cond
use Rattle.hc_term.specs.contracts.stmt.Io as io
use Rattle.hc_term.specs.contracts.stmt.Rate as rate
use Rattle.hc_term.specs.contracts.stmt.Stmt as stmt
use Rattle.hc_term.specs.contracts.task.Task as task
use Rattle.hc_code.specs.contracts.code.ProcCode as code
use Rattle.hc_advance.specs.contracts.advance.Advance as advance
use Rattle.hc_joint.specs.contracts.joint.Joint as joint
use Rattle.hc_run.specs.contracts.share.Share as share
use Rattle.hc_run.specs.contracts.locked.Locked as locked
use Rattle.hc_run.specs.contracts.floor.Floor as floor

expr_send : IsSend (expr.the_field).row
expr_send = search (crosses, expr_knot.crosses, sendable) depth 60 fits 20000

cond_send : IsSend (cond.the_field).row
cond_send = search (crosses, expr_send, cond_knot.crosses, sendable) depth 60 fits 20000

io_send : IsSend (io.the_field).row
io_send = search (crosses, expr_send, sendable) depth 60 fits 20000

rate_send : IsSend (rate.the_field).row
rate_send = search (crosses, expr_send, sendable) depth 60 fits 20000

stmt_send : IsSend (stmt.the_field).row
stmt_send = search (crosses, expr_send, cond_send, io_send, rate_send, stmt_knot.crosses, sendable) depth 60 fits 20000

task_send : IsSend (task.the_field).row
task_send = search (crosses, stmt_send, sendable) depth 60 fits 20000

code_send : IsSend (code.the_field).row
code_send = search (crosses, expr_send, cond_send, io_send, rate_send, sendable) depth 60 fits 20000

advance_send : IsSend (advance.the_field).row
advance_send = search (crosses, code_send, sendable) depth 60 fits 20000

joint_send : IsSend (joint.the_field).row
joint_send = search (crosses, task_send, code_send, sendable) depth 60 fits 20000

share_send : IsSend (share.the_field).row
share_send = search (crosses, advance_send, sendable) depth 60 fits 20000

locked_send : IsSend (locked.the_field).row
locked_send = search (crosses, joint_send, sendable) depth 60 fits 20000

pub floor_sync : IsSync floor.the_row
floor_sync = search (crosses, locked_send, share_send, sendable) depth 60 fits 20000
