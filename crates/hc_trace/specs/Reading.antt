-- Where bytes that are no trace text are refused.
use Rattle.std.specs.Prelude.{◌≡◌, ◌≢◌, ◌==◌, ℕ, ◌+◌, List, [], ◌∷◌, ◌++◌, ◌⊎◌, count_by}
use Rattle.std.specs.List.{AllByRecursion}
use Rattle.hc_trace.specs.declared.traces.Trace.{Trace}
use Rattle.hc_trace.specs.Traces.{IsTraceText}

-- no byte of them is b
abbrev pub Lacks : ℕ → List ℕ → Type 0
Lacks b bytes = AllByRecursion (λ c. c ≢ b) bytes

-- bytes without a newline, and a newline behind them
pub record IsWholeLine (bytes : List ℕ) : Type 0 where
  pub row : List ℕ
  pub plain : Lacks 10 row
  pub whole : bytes ≡ row ++ 10 ∷ []

abbrev pub newlines : List ℕ → ℕ
newlines bytes = count_by (λ b. b == 10) bytes

-- they are the text of some trace
abbrev pub IsText : List ℕ → Type 0
IsText bytes = (t : Trace) × IsTraceText bytes t

-- the line with the number n is the first that can't stand there: what is before it is empty or a trace text, and no
-- line that begins what is left goes on with it. Something is left, or nothing is there at all
pub record IsRefusedAt (bytes : List ℕ) (n : ℕ) : Type 0 where
  pub before : List ℕ
  pub after : List ℕ
  pub parts : bytes ≡ before ++ after
  pub number : n ≡ newlines before + 1
  pub stands : (before ≡ []) ⊎ IsText before
  pub more : (before ≡ []) ⊎ (after ≢ [])
  pub next : (line rest : List ℕ) → IsWholeLine line → after ≡ line ++ rest → ¬ (IsText (before ++ line))
