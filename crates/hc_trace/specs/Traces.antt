-- The text of a trace, version 1 or 2: a header, its lines, and its end line where there is one.
use Rattle.std.specs.Prelude.{◌≡◌, ℕ, List, [], ◌∷◌, ◌++◌, Option, Some, None, IfSome, codes, ⊤}
use Rattle.std.specs.List.{flat_map, AllByRecursion}
use Rattle.hc_rational.specs.Words.{Rational, IsFrac}
use Rattle.hc_frac.specs.Text.{text_of}
use Rattle.hc_frac.specs.Word.{IsWord}
use Rattle.hc_term.specs.TraceText.{words}
use Rattle.hc_trace.specs.declared.traces.Version.{Version}
use Rattle.hc_trace.specs.declared.traces.Version.TheVariants.{First, Second}
use Rattle.hc_trace.specs.declared.traces.Trace.{Trace}
use Rattle.hc_trace.specs.declared.traces.TraceLine.{TraceLine}
use Rattle.hc_trace.specs.declared.traces.TraceEvent.{TraceEvent}
use Rattle.hc_trace.specs.declared.traces.TraceEvent.TheVariants.{Delay, Comm, Log}
use Rattle.hc_trace.specs.declared.traces.TraceEnd.{TraceEnd}
use Rattle.hc_trace.specs.declared.traces.EndKind.{EndKind}
use Rattle.hc_trace.specs.declared.traces.EndKind.TheVariants.{Terminated, Deadlock, Horizon, Limit, Overflow}

-- ---- what may stand in a trace

-- all names are words, all numbers fractions, and a communication names both ends exactly in version 2
abbrev pub IsEvent : Version → TraceEvent → Type 0
IsEvent v (Delay by) = IsFrac by
IsEvent First (Comm channel None None value) = IsWord channel × IsFrac value
IsEvent Second (Comm channel (Some sender) (Some receiver) value) = IsWord channel × IsWord sender × IsWord receiver × IsFrac value
IsEvent v (Comm channel sender receiver value) = ⊥
IsEvent v (Log process value) = IsWord process × IsFrac value

abbrev pub IsLine : Version → TraceLine → Type 0
IsLine v l = IsFrac l.at × IsEvent v l.event

-- a process is named at an overflow alone
abbrev pub IsWho : EndKind → Option (List ℕ) → Type 0
IsWho kind None = ⊤
IsWho Overflow (Some process) = IsWord process
IsWho kind (Some process) = ⊥

abbrev pub IsEnd : TraceEnd → Type 0
IsEnd e = IsFrac e.at × IsWho e.kind e.who

-- ---- the words of a line

abbrev pub event_word : TraceEvent → List ℕ
event_word (Delay by) = codes "delay"
event_word (Comm channel sender receiver value) = codes "comm"
event_word (Log process value) = codes "log"

abbrev pub event_parts : TraceEvent → List (List ℕ)
event_parts (Delay by) = text_of by ∷ []
event_parts (Comm channel (Some sender) (Some receiver) value) = channel ∷ sender ∷ receiver ∷ text_of value ∷ []
event_parts (Comm channel sender receiver value) = channel ∷ text_of value ∷ []
event_parts (Log process value) = process ∷ text_of value ∷ []

abbrev pub line_words : TraceLine → List (List ℕ)
line_words l = text_of l.at ∷ event_word l.event ∷ event_parts l.event

abbrev pub end_word : EndKind → List ℕ
end_word Terminated = codes "terminated"
end_word Deadlock = codes "deadlock"
end_word Horizon = codes "horizon"
end_word Limit = codes "limit"
end_word Overflow = codes "overflow"

abbrev pub end_parts : EndKind → Rational → Option (List ℕ) → List (List ℕ)
end_parts Overflow at (Some process) = text_of at ∷ process ∷ []
end_parts Overflow at None = text_of at ∷ codes "*" ∷ []
end_parts kind at who = text_of at ∷ []

abbrev pub end_words : TraceEnd → List (List ℕ)
end_words e = codes "end" ∷ end_word e.kind ∷ end_parts e.kind e.at e.who

-- ---- the text

abbrev pub header_row : Version → List ℕ
header_row First = codes "hcsp-trace 1"
header_row Second = codes "hcsp-trace 2"

abbrev pub header_of : Version → List ℕ
header_of v = header_row v ++ 10 ∷ []

abbrev pub line_text : TraceLine → List ℕ
line_text l = words (line_words l)

abbrev pub end_text : Option TraceEnd → List ℕ
end_text (Some e) = words (end_words e)
end_text None = []

abbrev pub trace_text : Trace → List ℕ
trace_text t = header_of t.version ++ flat_map line_text t.lines ++ end_text t.end

-- the bytes are the text of this trace
pub record IsTraceText (bytes : List ℕ) (t : Trace) : Type 0 where
  pub each : AllByRecursion (IsLine t.version) t.lines
  pub last : IfSome t.end IsEnd
  pub spelled : bytes ≡ trace_text t
