use Rattle.std.proofs.Common.{inr, ℕ, List, IfErr, subst}
use Rattle.std.proofs.lemmas.Result.{err_from_is_err_and}
use Rattle.std.proofs.lemmas.List.{take_rest}
use Rattle.hc_trace.specs.Stops.{IsStop}
use Rattle.hc_cmd.proofs.TracedTexts.{source_refused, trace_refused}
use Rattle.hc_cmd.proofs.tracing.traced.Goals as goal

pub returns-in_err-place : goal.returns-in_err-place
returns-in_err-place c =
    let exit = err_from_is_err_and c.from_residual.result c.from_residual.ensures.1 in
    rw (exit.1, exit.2) (inr c.in_err-place.ensures)

pub returns-in_err-system : goal.returns-in_err-system
returns-in_err-system c =
    let exit = err_from_is_err_and c.from_residual-in_err-system.result c.from_residual-in_err-system.ensures.1 in
    rw (exit.1, exit.2) (source_refused c.args.text.now c.in_ok-place.place c.in_ok-place.ensures c.in_err-system.field-0.0 c.in_err-system.ensures)

pub returns-in_err-trace : goal.returns-in_err-trace
returns-in_err-trace c =
    let exit = err_from_is_err_and c.from_residual-in_err-trace.result c.from_residual-in_err-trace.ensures.1 in
    let stops = subst (λ (bytes : List ℕ). IfErr c.read_trace.result (IsStop bytes)) (take_rest c.args.text.now c.in_ok-place.place) c.read_trace.ensures.refusal_is in
    rw (exit.1, exit.2) (trace_refused c.args.text.now c.in_ok-place.place c.in_ok-place.ensures _ c.in_ok-system.system c.in_ok-system.ensures
    c.read_trace.result c.map_err.result c.in_err-trace.field-0.0 stops c.map_err.ensures.cases c.in_err-trace.was)
