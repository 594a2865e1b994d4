use Rattle.hc_board.proofs.ReadyIndex.{ready_exactly}
use Rattle.hc_board.proofs.board.Board.ready.Goals as goal

pub returns : goal.returns
returns c at low =
    simp (← c.self.view_is) (ready_exactly c.self.inside.index c.self.inside.posts.items c.self.invariant.index c.self.invariant.limits.processes at low)
