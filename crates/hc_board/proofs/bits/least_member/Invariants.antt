use Rattle.std.proofs.Common.{◌≡◌, ◌<◌, ◌*◌, ℕ, false}
use Rattle.hc_board.specs.Bits.{is_in}
use Rattle.hc_board.proofs.bits.least_member.Given as goal

abbrev pub invariant-loop-at : goal.invariant-loop-at
invariant-loop-at l = (i : ℕ) → i < l.at * 64 → is_in l.words i ≡ false
