-- What a sink holds, where it tells, and what a write or a flush does to it.
use Rattle.std.specs.Prelude.{◌≡◌, ℕ, ◌<◌, ◌≤◌, List, [], ◌++◌, length, take, Option, None, Some, Result, MatchResult, ⊤}

-- the bytes written, and how many of them are flushed
pub record Written : Type 0 where
  pub bytes : List ℕ
  pub flushed : ℕ

-- these bytes were appended, and as many are flushed as before
abbrev pub Adds : Option Written → Option Written → List ℕ → Type 0
Adds None new added = ⊤
Adds (Some x) None added = ⊥
Adds (Some x) (Some y) added = (y.bytes ≡ x.bytes ++ added) × (y.flushed ≡ x.flushed)

-- no byte changed, and all are flushed
abbrev pub Flushes : Option Written → Option Written → Type 0
Flushes None new = ⊤
Flushes (Some x) None = ⊥
Flushes (Some x) (Some y) = (y.bytes ≡ x.bytes) × (y.flushed ≡ length x.bytes)

-- a first part of these bytes was appended, and as many are flushed as before
pub record AddsPart (old new : Option Written) (bytes : List ℕ) : Type 0 where
  pub first : List ℕ
  pub rest : List ℕ
  pub whole : bytes ≡ first ++ rest
  pub adds : Adds old new first

-- `write(piece)` appended the n bytes that it took at `Ok(n)`, at least one, and nothing at `Err`
abbrev pub WriteAdds : {E : Type 0} → Option Written → Option Written → Result ℕ E → List ℕ → Type 0
WriteAdds old new result piece =
    MatchResult result
    (λ n. (0 < n) × (n ≤ length piece) × Adds old new (take n piece))
    (λ _. Adds old new [])

-- `flush()` flushed all bytes at `Ok`, and left all as it was at `Err`
abbrev pub FlushKeeps : {T E : Type 0} → Option Written → Option Written → Result T E → Type 0
FlushKeeps old new result = MatchResult result (λ _. Flushes old new) (λ _. Adds old new [])
