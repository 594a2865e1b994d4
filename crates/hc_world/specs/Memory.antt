-- Sources and sinks in memory, whose calls fail by number.
use Rattle.std.specs.Prelude.{◌≡◌, ℕ, List, Result, OnOk, OnErr, Contains}
use Rattle.hc_world.specs.Counts.{one_more}
use Rattle.hc_world.specs.Written.{Written}

-- the numbers of the calls that fail, how many calls there were, and how many of them failed
pub record Calls : Type 0 where
  pub fails : List ℕ
  pub count : ℕ
  pub faults : ℕ

-- the next call, whose number is the count of those before it, is one that fails
abbrev pub IsNextToFail : Calls → Type 0
IsNextToFail calls = Contains calls.fails calls.count

-- there is one call more, and one fault more where it failed
pub record CountsCall {T E : Type 0} (old new : Calls) (result : Result T E) : Type 0 where
  pub same : new.fails ≡ old.fails
  pub count : new.count ≡ one_more old.count
  pub failed : OnErr result (new.faults ≡ one_more old.faults)
  pub kept : OnOk result (new.faults ≡ old.faults)

-- the bytes that are left, how many a read gives at most, and the reads
pub record SourceMemory : Type 0 where
  pub left : List ℕ
  pub most : ℕ
  pub calls : Calls

-- the bytes written, how many there is room for, and the writes and flushes
pub record SinkMemory : Type 0 where
  pub written : Written
  pub room : ℕ
  pub calls : Calls
