use Rattle.std.proofs.Common.{◌+◌, ◌-◌, ◌/◌, ◌%◌, ap, arith}
use Rattle.std.proofs.Math.Nat.{one-le-pow}
use Rattle.hc_print.proofs.Digits.{digit_written}
use Rattle.hc_print.proofs.writer.Writer.last_digits.Goals as goal

pub nonzero_div-digits : goal.nonzero_div-digits
nonzero_div-digits c = rw (c.pow.ensures) (one-le-pow (c.loop-left.left - 1) 10 (omega arith))

pub loop-left-preserved : goal.loop-left-preserved
loop-left-preserved c = record {
  within = omega arith;
  rest = digit_written c.loop-left.self.bytes.items c.byte.new.self.bytes.items c.args.self.now.bytes.items
      c.loop-left.left c.args.count c.args.digits _ (omega arith)
      (ap (λ p. 48 + c.args.digits / p % 10) c.pow.ensures) c.in_ok-byte.ensures c.loop-left.invariant.rest;
}
