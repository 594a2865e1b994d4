-- What is made new is a trace.
use Rattle.std.specs.Prelude.{◌≡◌, ℕ, List, IfOk}
use Rattle.hc_term.specs.declared.system.System.{System}
use Rattle.hc_trace.specs.declared.traces.Version.TheVariants.{Second}
use Rattle.hc_trace.specs.declared.traces.Trace.{Trace}
use Rattle.hc_trace.specs.Traces.{IsTraceText, trace_text}
use Rattle.hc_trace.specs.Written.{HasWords}
use Rattle.hc_upgrade.specs.Upgraded.{upgraded}

-- The text of a trace that was made new is that of a trace of version 2, in which all names are words and all numbers fractions.
abbrev pub UpgradedIsTrace : Type 0
UpgradedIsTrace =
    (sys : System) (bytes : List ℕ) (t : Trace) → HasWords sys → IsTraceText bytes t →
    IfOk (upgraded sys t) (λ u. (u.version ≡ Second) × IsTraceText (trace_text u) u)
