-- What a search finds, and bytes as words.
use Rattle.std.specs.Prelude.{◌≡◌, ℕ, List, [], ◌∷◌, ◌++◌, Option, Some, None}
use Rattle.hc_term.specs.TraceText.{words}
use Rattle.hc_trace.specs.declared.traces.Version.{Version}
use Rattle.hc_trace.specs.declared.traces.TraceEvent.{TraceEvent}
use Rattle.hc_trace.specs.declared.traces.TraceEnd.{TraceEnd}
use Rattle.hc_trace.specs.declared.traces.EndKind.{EndKind}
use Rattle.hc_trace.specs.Traces.{IsEvent, IsEnd, event_word, event_parts, end_parts}

-- what is found has the property, and nothing is found only where nothing has it
abbrev pub Finds : {A : Type 0} → (A → Type 0) → Option A → Type 0
Finds {A} P None = (x : A) → ¬ (P x)
Finds {A} P (Some x) = P x

-- the bytes are these words, with one blank between them
abbrev pub Spells : List ℕ → List (List ℕ) → Type 0
Spells bytes ws = bytes ++ 10 ∷ [] ≡ words ws

-- an event that is named by this word, and these bytes are what is behind it
abbrev pub IsEventOf : Version → List ℕ → List ℕ → TraceEvent → Type 0
IsEventOf v word parts e = IsEvent v e × (event_word e ≡ word) × Spells parts (event_parts e)

-- an end of this kind, and these bytes are what is behind its word
abbrev pub IsEndOf : EndKind → List ℕ → TraceEnd → Type 0
IsEndOf kind parts e = IsEnd e × (e.kind ≡ kind) × Spells parts (end_parts e.kind e.at e.who)
