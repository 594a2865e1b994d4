-- What stands on a sink after a text was to be written on it.
-- `state` is the sink's own: what it tells of its bytes, and its count of faults.
use Rattle.std.specs.Prelude.{◌≡◌, ◌≢◌, ℕ, List, [], ◌++◌, length, Option, None, Some, Result, MatchResult, ⊤}
use Rattle.hc_world.specs.Counts.{Rose}
use Rattle.hc_world.specs.States.{SinkState}
use Rattle.hc_world.specs.Written.{Written, AddsPart}

-- these bytes were appended, and where there are any, all is flushed
abbrev pub AddsFlushed : Option Written → Option Written → List ℕ → Type 0
AddsFlushed None new bytes = ⊤
AddsFlushed (Some x) None bytes = ⊥
AddsFlushed (Some x) (Some y) bytes =
    (y.bytes ≡ x.bytes ++ bytes) × (bytes ≢ [] → y.flushed ≡ length y.bytes)

-- the whole text stands and is flushed, and nothing failed; an empty text makes no call
pub record IsWhole {K : Type 0} (state : K → SinkState)
    (before after : K) (text : List ℕ) : Type 0 where
  pub adds : AddsFlushed (state before).told (state after).told text
  pub kept : (state after).faults ≡ (state before).faults
  pub untouched : text ≡ [] → after ≡ before

-- a first part of the text stands, and a write or a flush failed
pub record IsCut {K : Type 0} (state : K → SinkState)
    (before after : K) (text : List ℕ) : Type 0 where
  pub part : AddsPart (state before).told (state after).told text
  pub rose : Rose (state before).faults (state after).faults

-- the whole text stands at `Ok`, and a first part of it at `Err`
abbrev pub PutsWhole : {K T E : Type 0} → (K → SinkState)
    → K → K → Result T E → List ℕ → Type 0
PutsWhole state before after result text =
    MatchResult result
    (λ _. IsWhole state before after text)
    (λ _. IsCut state before after text)
