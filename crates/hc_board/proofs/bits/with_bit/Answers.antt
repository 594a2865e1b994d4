use Rattle.hc_board.proofs.Bitwise.{set_bit, clear_bit}
use Rattle.hc_board.proofs.bits.with_bit.Goals as goal

pub returns-then-is_set : goal.returns-then-is_set
returns-then-is_set c i within =
    rw c.if-is_set.true (set_bit c.args.word c.args.bit i c.requires)

pub returns-else-is_set : goal.returns-else-is_set
returns-else-is_set c i within =
    rw c.if-is_set.false (clear_bit c.args.word c.args.bit i c.requires within)
