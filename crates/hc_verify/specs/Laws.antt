-- What holds of verdicts.
use Rattle.std.specs.Prelude.{◌≡◌, ◌↔◌, ℕ, List, Option, IsTrue}
use Rattle.hc_rational.specs.Words.{Rational}
use Rattle.hc_term.specs.declared.system.System.{System}
use Rattle.hc_term.specs.declared.task.Task.{Task}
use Rattle.hc_term.specs.declared.run.Item.{Item}
use Rattle.hc_term.specs.declared.run.Stop.{Stop}
use Rattle.hc_term.specs.TraceText.{whole}
use Rattle.hc_runs.specs.Fractions.{task_numbers}
use Rattle.hc_trace.specs.declared.traces.Version.TheVariants.{Second}
use Rattle.hc_trace.specs.declared.traces.Trace.{Trace}
use Rattle.hc_trace.specs.Traces.{IsTraceText}
use Rattle.hc_trace.specs.Written.{HasWords}
use Rattle.hc_order.specs.Shown.{End}
use Rattle.hc_order.specs.Verified.{IsTrace}
use Rattle.hc_verify.specs.declared.verdict.Verdict.{Verdict}
use Rattle.hc_verify.specs.declared.verdict.Verdict.TheVariants.{Yes}
use Rattle.hc_verify.specs.Judging.{AreItems, IsEnd, JudgesTrace}
use Rattle.hc_verify.specs.Texts.{text_in, IsFirstPart}

-- a trace has one verdict at most
abbrev pub TraceHasOneVerdict : Type 0
TraceHasOneVerdict = (t : Task) (trace : Trace) (v w : Verdict) → JudgesTrace t trace v → JudgesTrace t trace w → v ≡ w

-- the trace names the lines and the end of a behaviour, or without an end line its first lines
pub record IsOfBehaviour (t : Task) (trace : Trace) : Type 0 where
  pub lines : List Item
  pub end : Option End
  pub named : AreItems t.system trace.lines lines
  pub end_named : IsEnd t.system trace.end end
  pub is_trace : IsTrace t lines end

-- the verdict is yes exactly there
abbrev pub YesIsOfBehaviour : Type 0
YesIsOfBehaviour = (t : Task) (trace : Trace) → ((n : ℕ) × JudgesTrace t trace (Yes n)) ↔ IsOfBehaviour t trace

-- in version 2 that text is the one that is written of a behaviour
abbrev pub TextsAreWritten : Type 0
TextsAreWritten = (sys : System) (items : List Item) (clock : Rational) (stop : Stop) →
    text_in Second sys items clock stop ≡ whole sys items clock stop

-- Where names are words and numbers fractions, as the types of a task say, the verdict on the trace of a text is yes exactly
-- where the text is a first part of that of a behaviour, in its version.
abbrev pub YesIsFirstPart : Type 0
YesIsFirstPart =
    (t : Task) (bytes : List ℕ) (trace : Trace) → HasWords t.system → IsTrue (task_numbers t) → IsTraceText bytes trace →
    ((n : ℕ) × JudgesTrace t trace (Yes n)) ↔ IsFirstPart t trace.version bytes
