-- A trace made new: version 2, with the same lines and the same end line, and with the names that the system has for the
-- processes at both ends of a channel.
use Rattle.std.specs.Prelude.{ℕ, ◌+◌, ◌&&◌, if◌then◌else◌, List, [], ◌∷◌, Option, Some, None, Result, Ok, Err}
use Rattle.std.specs.Option.{option_map}
use Rattle.hc_rational.specs.Words.{Rational}
use Rattle.hc_term.specs.declared.system.System.{System}
use Rattle.hc_trace.specs.declared.traces.Version.TheVariants.{Second}
use Rattle.hc_trace.specs.declared.traces.Trace.{Trace}
use Rattle.hc_trace.specs.declared.traces.TraceLine.{TraceLine}
use Rattle.hc_trace.specs.declared.traces.TraceEvent.{TraceEvent}
use Rattle.hc_trace.specs.declared.traces.TraceEvent.TheVariants.{Delay, Comm, Log}
use Rattle.hc_trace.specs.declared.traces.TraceEnd.{TraceEnd}
use Rattle.hc_trace.specs.Traces.{trace_text}
use Rattle.hc_upgrade.specs.declared.routes.Route.{Route}
use Rattle.hc_upgrade.specs.Routes.{routes, route_named, agrees}

-- a communication of a value over a channel that is there, if its ends, where they are named, are those of the channel
abbrev pub over : Option Route → Option (List ℕ) → Option (List ℕ) → Rational → Option TraceEvent
over None sender receiver value = None
over (Some r) sender receiver value =
    if agrees sender r.sender && agrees receiver r.receiver then Some (Comm r.channel (Some r.sender) (Some r.receiver) value) else None

-- a communication names both ends of its channel; all else is as it was
abbrev pub upgraded_event : List Route → TraceEvent → Option TraceEvent
upgraded_event rs (Delay by) = Some (Delay by)
upgraded_event rs (Comm channel sender receiver value) = over (route_named channel rs) sender receiver value
upgraded_event rs (Log process value) = Some (Log process value)

abbrev pub upgraded_line : List Route → TraceLine → Option TraceLine
upgraded_line rs l = option_map (λ e. record { at = l.at; event = e }) (upgraded_event rs l.event)

-- line number n in front of those behind it
abbrev pub in_front_of : ℕ → Option TraceLine → Result (List TraceLine) ℕ → Result (List TraceLine) ℕ
in_front_of n None rest = Err n
in_front_of n (Some l) (Err m) = Err m
in_front_of n (Some l) (Ok ls) = Ok (l ∷ ls)

-- lines made new, of which the first has number n; or the number of the first that can't be
abbrev pub upgraded_lines : List Route → ℕ → List TraceLine → Result (List TraceLine) ℕ
upgraded_lines rs n [] = Ok []
upgraded_lines rs n (l ∷ ls) = in_front_of n (upgraded_line rs l) (upgraded_lines rs (n + 1) ls)

abbrev pub with_lines : Option TraceEnd → Result (List TraceLine) ℕ → Result Trace ℕ
with_lines end (Err n) = Err n
with_lines end (Ok ls) = Ok (record { version = Second; lines = ls; end = end })

-- A trace made new by the names of a system; or the number of its first line with a communication over no channel with
-- both ends, or with other ends than those named. The header is line 1.
abbrev pub upgraded : System → Trace → Result Trace ℕ
upgraded sys t = with_lines t.end (upgraded_lines (routes sys) 2 t.lines)

abbrev pub text_or_line : Result Trace ℕ → Result (List ℕ) ℕ
text_or_line (Err n) = Err n
text_or_line (Ok t) = Ok (trace_text t)

-- the text of that
abbrev pub upgraded_text : System → Trace → Result (List ℕ) ℕ
upgraded_text sys t = text_or_line (upgraded sys t)
