use Rattle.std.proofs.Common.{◌≡◌, ◌<◌, ℕ, nat_lt}
use Rattle.hc_board.specs.Bits.{has}
use Rattle.hc_board.proofs.bits.first_bits.Given as goal

abbrev pub invariant-loop-bit : goal.invariant-loop-bit
invariant-loop-bit l = (i : ℕ) → i < 64 → has l.word i ≡ nat_lt i l.bit
