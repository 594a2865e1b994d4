use Rattle.std.proofs.Common.{◌≡◌, ◌≤◌, ◌+◌, ◌-◌, ◌*◌, ◌++◌, length}
use Rattle.hc_make.specs.Made.{pairs, last_line, made_text}
use Rattle.hc_make.proofs.made.made_source.Given as goal

abbrev pub invariant-loop-number : goal.invariant-loop-number
invariant-loop-number l = record {
  text : made_text l.pairs l.seed ≡ l.text.items ++ (pairs l.number (l.pairs - l.number) l.words ++ last_line);
  short : length l.text.items ≤ 7 + 260 * l.number;
}
