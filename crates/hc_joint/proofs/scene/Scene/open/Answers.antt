use Rattle.hc_joint.proofs.Begun.{is_at_opening}
use Rattle.hc_joint.proofs.scene.Scene.open.Goals as goal

pub returns-clause-at : goal.returns-clause-at
returns-clause-at c =
    is_at_opening _ c.as_slice-processes.result.now c.len-channels.result c.as_slice-processes.ensures c.len-channels.ensures
    c.in_ok-history.ensures.items c.in_ok-members.ensures c.in_ok-board.ensures c.zero.ensures
