-- What stands on a sink while a text is written on it piece by piece.
use Rattle.std.specs.Prelude.{◌≡◌, List, ℕ, [], ◌++◌, Result, MatchResult}
use Rattle.hc_world.specs.States.{SinkState}
use Rattle.hc_world.specs.Written.{Adds, Flushes}
use Rattle.hc_world.specs.Sinks.{IsCut}

-- these bytes stand so far, not flushed yet, and nothing failed
pub record IsBegun {K : Type 0} (state : K → SinkState)
    (before now : K) (bytes : List ℕ) : Type 0 where
  pub adds : Adds (state before).told (state now).told bytes
  pub kept : (state now).faults ≡ (state before).faults

-- of this text all but the rest stands so far, not flushed yet, and nothing failed
pub record IsUnderWay {K : Type 0} (state : K → SinkState)
    (before now : K) (text rest : List ℕ) : Type 0 where
  pub done : List ℕ
  pub split : text ≡ done ++ rest
  pub begun : IsBegun state before now done

-- all bytes are flushed, and nothing failed
pub record IsFlushed {K : Type 0} (state : K → SinkState)
    (before after : K) : Type 0 where
  pub flushes : Flushes (state before).told (state after).told
  pub kept : (state after).faults ≡ (state before).faults

-- the piece stands at `Ok`, and a first part of it at `Err`
abbrev pub PutsPiece : {K T E : Type 0} → (K → SinkState)
    → K → K → Result T E → List ℕ → Type 0
PutsPiece state before after result piece =
    MatchResult result
    (λ _. IsBegun state before after piece)
    (λ _. IsCut state before after piece)

-- all is flushed at `Ok`, and nothing more stands at `Err`
abbrev pub Finishes : {K T E : Type 0} → (K → SinkState)
    → K → K → Result T E → Type 0
Finishes state before after result =
    MatchResult result
    (λ _. IsFlushed state before after)
    (λ _. IsCut state before after [])
