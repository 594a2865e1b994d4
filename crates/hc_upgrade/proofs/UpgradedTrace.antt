-- What is made new is a trace of version 2.
use Rattle.std.proofs.Common.{◌≡◌, ◌<◌, ℕ, zero, suc, ◌+◌, Bool, true, false, cond, List, [], ◌∷◌, ◌++◌, length, slice_get, Option, Some, None, Result, Ok, Err, refl, arith}
use Rattle.std.specs.Prelude.{◌&&◌, IfSome, IfOk, nat_eq}
use Rattle.std.specs.List.{AllByRecursion}
use Rattle.std.specs.Option.{option_map}
use Rattle.std.specs.Cmp.Lexicographic.{pointwise}
use Rattle.hc_rational.specs.Words.{Rational, IsFrac}
use Rattle.hc_frac.specs.Word.{IsWord}
use Rattle.hc_term.specs.declared.system.Process.{Process}
use Rattle.hc_term.specs.declared.system.System.{System}
use Rattle.hc_term.specs.Ends.{ends_of}
use Rattle.hc_term.specs.TraceText.{name_of}
use Rattle.hc_trace.specs.declared.traces.Version.{Version}
use Rattle.hc_trace.specs.declared.traces.Version.TheVariants.{First, Second}
use Rattle.hc_trace.specs.declared.traces.TraceLine.{TraceLine}
use Rattle.hc_trace.specs.declared.traces.TraceEnd.{TraceEnd}
use Rattle.hc_trace.specs.declared.traces.TraceEvent.{TraceEvent}
use Rattle.hc_trace.specs.declared.traces.TraceEvent.TheVariants.{Delay, Comm, Log}
use Rattle.hc_trace.specs.Traces.{IsEvent, IsLine, IsEnd, IsTraceText, trace_text}
use Rattle.hc_trace.specs.Written.{HasWords}
use Rattle.hc_trace.proofs.EndsTable.{end_within}
use Rattle.hc_upgrade.specs.declared.routes.Route.{Route}
use Rattle.hc_upgrade.specs.Routes.{route_between, route_at, listed, routes_from, routes, route_named, agrees}
use Rattle.hc_upgrade.specs.Upgraded.{over, upgraded_event, upgraded_line, in_front_of, upgraded_lines, with_lines}
use Rattle.hc_upgrade.specs.Laws.{UpgradedIsTrace}

either : {X : Type 0} (P : X → Type 0) (b : Bool) (x y : X) → P x → P y → P (cond b x y)
either P true x y f g = f
either P false x y f g = g

-- ---- routes

abbrev IsNamed : Route → Type 0
IsNamed r = IsWord r.channel × IsWord r.sender × IsWord r.receiver

process_word : (ps : List Process) (p : ℕ) → AllByRecursion (λ q. IsWord q.name) ps → p < length ps → IsWord (name_of (slice_get ps p))
process_word [] p h within = absurd (omega (arith, within))
process_word (q ∷ qs) zero h within = h.0
process_word (q ∷ qs) (suc p) h within = process_word qs p h.1 (omega (arith, within))

between : (sys : System) (channel : List ℕ) (p q : Option ℕ) → HasWords sys → IsWord channel
    → IfSome p (λ n. n < length sys.processes) → IfSome q (λ n. n < length sys.processes) → IfSome (route_between sys channel p q) IsNamed
between sys channel None q h w f g = tt
between sys channel (Some p) None h w f g = tt
between sys channel (Some p) (Some q) h w f g =
    (w, process_word sys.processes p h.processes f, process_word sys.processes q h.processes g)

all_listed : (o : Option Route) (rest : List Route) → IfSome o IsNamed → AllByRecursion IsNamed rest → AllByRecursion IsNamed (listed o ++ rest)
all_listed None rest f g = g
all_listed (Some r) rest f g = (f, g)

routes_named : (sys : System) (c : ℕ) (names : List (List ℕ)) → HasWords sys → AllByRecursion IsWord names
    → AllByRecursion IsNamed (routes_from sys c names)
routes_named sys c [] h w = tt
routes_named sys c (name ∷ names) h w =
    all_listed (route_at sys c name) (routes_from sys (c + 1) names)
    (
    between sys name (ends_of sys c).sender (ends_of sys c).receiver h w.0 (end_within true c sys.processes)
    (end_within false c sys.processes)
    )
    (routes_named sys (c + 1) names h w.1)

found_named : (channel : List ℕ) (rs : List Route) → AllByRecursion IsNamed rs → IfSome (route_named channel rs) IsNamed
found_named channel [] h = tt
found_named channel (r ∷ rs) h =
    either (λ o. IfSome o IsNamed) (pointwise nat_eq r.channel channel) (Some r) (route_named channel rs) h.0 (found_named channel rs h.1)

-- ---- lines

over_is_event : (o : Option Route) (sender receiver : Option (List ℕ)) (value : Rational) → IfSome o IsNamed → IsFrac value
    → IfSome (over o sender receiver value) (IsEvent Second)
over_is_event None sender receiver value f g = tt
over_is_event (Some r) sender receiver value f g =
    let P : Option TraceEvent → Type 0 = λ o. IfSome o (IsEvent Second) in
    either P (agrees sender r.sender && agrees receiver r.receiver) (Some (Comm r.channel (Some r.sender) (Some r.receiver) value)) None
    (f.0, f.1, f.2, g) tt

event_upgraded : (v : Version) (rs : List Route) (e : TraceEvent) → AllByRecursion IsNamed rs → IsEvent v e
    → IfSome (upgraded_event rs e) (IsEvent Second)
event_upgraded First rs (Delay by) h f = f
event_upgraded Second rs (Delay by) h f = f
event_upgraded First rs (Comm c None None value) h f = over_is_event (route_named c rs) None None value (found_named c rs h) f.1
event_upgraded Second rs (Comm c (Some s) (Some r) value) h f =
    over_is_event (route_named c rs) (Some s) (Some r) value (found_named c rs h) f.3
event_upgraded First rs (Log p value) h f = f
event_upgraded Second rs (Log p value) h f = f
event_upgraded v rs e h f = absurd f

abbrev line_at : Rational → TraceEvent → TraceLine
line_at at e = record { at = at; event = e }

at_clock : (at : Rational) (o : Option TraceEvent) → IsFrac at → IfSome o (IsEvent Second)
    → IfSome (option_map (line_at at) o) (IsLine Second)
at_clock at None f g = tt
at_clock at (Some e) f g = (f, g)

in_front : (n : ℕ) (o : Option TraceLine) (r : Result (List TraceLine) ℕ) → IfSome o (IsLine Second)
    → IfOk r (AllByRecursion (IsLine Second)) → IfOk (in_front_of n o r) (AllByRecursion (IsLine Second))
in_front n None r f g = tt
in_front n (Some l) (Err m) f g = tt
in_front n (Some l) (Ok ls) f g = (f, g)

lines_upgraded : (v : Version) (rs : List Route) (n : ℕ) (ls : List TraceLine) → AllByRecursion IsNamed rs → AllByRecursion (IsLine v) ls
    → IfOk (upgraded_lines rs n ls) (AllByRecursion (IsLine Second))
lines_upgraded v rs n [] h f = tt
lines_upgraded v rs n (l ∷ ls) h f =
    in_front n (upgraded_line rs l) (upgraded_lines rs (n + 1) ls) (at_clock l.at (upgraded_event rs l.event) f.0.0 (event_upgraded v rs l.event h f.0.1))
    (lines_upgraded v rs (n + 1) ls h f.1)

-- ---- traces

whole : (end : Option TraceEnd) (r : Result (List TraceLine) ℕ) → IfSome end IsEnd → IfOk r (AllByRecursion (IsLine Second))
    → IfOk (with_lines end r) (λ u. (u.version ≡ Second) × IsTraceText (trace_text u) u)
whole end (Err n) f g = tt
whole end (Ok ls) f g = (refl, record { each = g; last = f; spelled = refl })

pub upgraded_is_trace : UpgradedIsTrace
upgraded_is_trace sys bytes t h is =
    whole t.end (upgraded_lines (routes sys) 2 t.lines) is.last
    (lines_upgraded t.version (routes sys) 2 t.lines (routes_named sys 0 sys.channels h h.channels) is.each)
