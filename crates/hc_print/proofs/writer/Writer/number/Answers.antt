use Rattle.std.proofs.Common.{arith}
use Rattle.std.proofs.Math.Nat.{one-le-pow}
use Rattle.hc_print.proofs.writer.Writer.number.Goals as goal

pub nonzero_div-digits : goal.nonzero_div-digits
nonzero_div-digits c = rw (c.pow.ensures) (one-le-pow c.from-places.result 10 (omega arith))
