use Rattle.std.proofs.Common.{rules}
use Rattle.hc_board.proofs.Marking.{state_marked}
use Rattle.hc_board.proofs.index.Index.mark_state.Goals as goal

pub returns : goal.returns
returns c =
    state_marked c.args.self.now c.args.process c.with_bit-self.result c.with_bit-self-2.result c.args.is_timed c.args.is_able
    c.requires.whole (search rules) c.with_bit-self.ensures c.with_bit-self-2.ensures
