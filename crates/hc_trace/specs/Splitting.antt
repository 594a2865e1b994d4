-- Where a trace begins in bytes that hold more than it.
use Rattle.std.specs.Prelude.{◌≡◌, ◌<◌, ℕ, ◌+◌, List, ◌++◌, drop, slice_get, Some, ◌⊎◌}
use Rattle.hc_trace.specs.declared.traces.Version.{Version}
use Rattle.hc_trace.specs.Traces.{header_of}

-- a line begins at this place: it is the start, or it is behind a newline
abbrev pub BeginsLine : List ℕ → ℕ → Type 0
BeginsLine bytes place = (place ≡ 0) ⊎ ((n : ℕ) × (place ≡ n + 1) × (slice_get bytes n ≡ Some 10))

-- the bytes begin with the header of a trace text
abbrev pub BeginsTrace : List ℕ → Type 0
BeginsTrace bytes = (version : Version) × (rest : List ℕ) × (bytes ≡ header_of version ++ rest)

-- at this place the header of a trace text stands, as a line
pub record HasHeaderAt (bytes : List ℕ) (place : ℕ) : Type 0 where
  pub line : BeginsLine bytes place
  pub header : BeginsTrace (drop place bytes)

-- it is the first such place
pub record IsFirstHeader (bytes : List ℕ) (place : ℕ) : Type 0 where
  pub here : HasHeaderAt bytes place
  pub first : (q : ℕ) → q < place → ¬ (HasHeaderAt bytes q)
