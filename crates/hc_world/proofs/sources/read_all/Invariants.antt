use Rattle.std.proofs.Common.{◌≡◌, ◌+◌, ◌-◌, ◌≤◌, length, vec_len}
use Rattle.std.specs.Io.KnownBytes.{Consumes}
use Rattle.hc_world.proofs.sources.read_all.Given as goal

-- what came so far is kept, each byte by one read at most, and no read failed
abbrev pub invariant-loop-bytes : goal.invariant-loop-bytes
invariant-loop-bytes g l = record {
  buffer_len : length l.buffer ≡ 4096;
  within : vec_len l.bytes ≤ l.most;
  came : Consumes (g.S.Source.state l.initial.source).left (g.S.Source.state l.source).left l.bytes.items;
  kept : (g.S.Source.state l.source).faults ≡ (g.S.Source.state l.initial.source).faults;
  counted : (g.S.Source.state l.source).calls ≤ (g.S.Source.state l.initial.source).calls + vec_len l.bytes;
}

abbrev pub decreases-loop-bytes : goal.decreases-loop-bytes
decreases-loop-bytes g l = l.most - vec_len l.bytes
