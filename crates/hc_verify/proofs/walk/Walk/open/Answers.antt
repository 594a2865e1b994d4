use Rattle.hc_verify.proofs.Begun.{is_at_opening}
use Rattle.hc_verify.proofs.walk.Walk.open.Goals as goal

pub returns : goal.returns
returns c =
    is_at_opening c.args.task.now _ c.as_slice-processes.result.now c.len-channels.result c.as_slice-processes.ensures c.len-channels.ensures
    c.in_ok-members.ensures c.in_ok-board.ensures c.zero.ensures
