use Rattle.std.proofs.Common.{◌≡◌, ◌+◌, ◌≤◌, ◌++◌, length, reverse, vec_len, vec_capacity}
use Rattle.hc_grammar.proofs.stack.Stack.push_all.Given as goal

abbrev pub invariant-loop-last : goal.invariant-loop-last
invariant-loop-last g l = record {
  pushed : l.self-inside.items.items ++ reverse l.left ≡ l.initial.self-inside.items.items ++ reverse l.items;
  room : vec_len l.self-inside.items + length l.left ≤ vec_capacity l.self-inside.items;
}

abbrev pub decreases-loop-last : goal.decreases-loop-last
decreases-loop-last g l = length l.left
