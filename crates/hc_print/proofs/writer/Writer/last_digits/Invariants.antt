use Rattle.std.proofs.Common.{◌≡◌, ◌≤◌, ℕ, List, ◌++◌}
use Rattle.hc_print.specs.Numerals.{last_digits}
use Rattle.hc_print.proofs.writer.Writer.last_digits.Given as goal

abbrev pub invariant-loop-left : goal.invariant-loop-left
invariant-loop-left l = record {
  within : l.left ≤ l.count;
  rest : (z : List ℕ) → l.self.bytes.items ++ last_digits l.left l.digits z ≡ l.initial.self.bytes.items ++ last_digits l.count l.digits z;
}

abbrev pub decreases-loop-left : goal.decreases-loop-left
decreases-loop-left l = l.left
