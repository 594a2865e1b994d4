-- What is known of a source and of a sink.
use Rattle.std.specs.Prelude.{ℕ, List, Option}
use Rattle.hc_world.specs.Written.{Written}

-- the bytes that are left, where they are told; how many reads failed; how many reads there were, at a source that counts them
pub record SourceState : Type 0 where
  pub left : Option (List ℕ)
  pub faults : ℕ
  pub calls : ℕ

-- the bytes written and how many of them are flushed, where they are told; how many writes and flushes failed
pub record SinkState : Type 0 where
  pub told : Option Written
  pub faults : ℕ
