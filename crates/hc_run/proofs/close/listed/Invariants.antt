use Rattle.std.proofs.Common.{◌≡◌, ◌≤◌, take, length, vec_len, vec_capacity}
use Rattle.hc_run.proofs.close.listed.Given as goal

abbrev pub invariant-loop-count : goal.invariant-loop-count
invariant-loop-count l = record {
  items : l.turns.items ≡ take l.count-index l.counts;
  long : vec_len l.turns ≡ l.count-index;
  room : length l.counts ≤ vec_capacity l.turns;
}
