use Rattle.std.proofs.Common.{◌≡◌, ◌+◌, ◌++◌, replicate, None, vec_len, vec_capacity}
use Rattle.hc_term.specs.Event.{silent_items}
use Rattle.hc_joint.proofs.event.push_quiet.Given as goal

abbrev pub invariant-loop-step : goal.invariant-loop-step
invariant-loop-step l = record {
  counted : vec_len l.history ≡ vec_len l.fn.history + l._step;
  room : vec_capacity l.history ≡ vec_capacity l.fn.history;
  items : l.history.items ≡ l.fn.history.items ++ silent_items l.clock l.process (replicate l._step None);
}
