use Rattle.std.proofs.Common.{length, ◌-◌, ◌≡◌, ◌≤◌, take}
use Rattle.hc_world.specs.Written.{Adds}
use Rattle.hc_world.proofs.sinks.write_all.Given as goal

-- what was taken so far is added, and no write failed
abbrev pub invariant-loop-at : goal.invariant-loop-at
invariant-loop-at g l = record {
  within : l.at ≤ length l.bytes;
  added : Adds (g.K.Sink.state l.initial.sink).told (g.K.Sink.state l.sink).told (take l.at l.bytes);
  kept : (g.K.Sink.state l.sink).faults ≡ (g.K.Sink.state l.initial.sink).faults;
  untouched : l.at ≡ 0 → l.sink ≡ l.initial.sink;
}

abbrev pub decreases-loop-at : goal.decreases-loop-at
decreases-loop-at g l = length l.bytes - l.at
