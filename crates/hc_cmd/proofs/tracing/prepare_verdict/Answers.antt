use Rattle.std.proofs.lemmas.Result.{err_from_is_err_and}
use Rattle.hc_cmd.specs.declared.ending.Text.{Text}
use Rattle.hc_cmd.specs.Prepared.{reply_in}
use Rattle.hc_cmd.specs.Traced.{Judges}
use Rattle.hc_cmd.proofs.Finding.{memory_or, ok_found}
use Rattle.hc_cmd.proofs.TracedTexts.{not_traced, traced_gives}
use Rattle.hc_cmd.proofs.tracing.prepare_verdict.Goals as goal

pub returns-in_err-system : goal.returns-in_err-system
returns-in_err-system c =
    let exit = err_from_is_err_and c.from_residual.result c.from_residual.ensures.1 in
    rw (exit.1, exit.2) (memory_or _ _ (not_traced _ c.args.text.now) c.in_err-system.field-0.0 c.in_err-system.ensures)

pub returns : goal.returns
returns c =
    let settings = c.args.settings in
    let system = c.in_ok-system.system in
    let trace = c.in_ok-system.trace in
    let judges = ok_found (λ (t : Text). Judges settings system trace (reply_in t)) _ c.verdict_of.result c.map_err.result c.in_ok-told.told
    c.verdict_of.ensures c.map_err.ensures.cases c.in_ok-told.was in
    (tt, traced_gives (Judges settings) c.args.text.now system trace c.in_ok-system.ensures _ judges)
