use Rattle.std.proofs.Common.{◌≡◌, ◌∙◌, sym, ap, Ok}
use Rattle.std.proofs.lemmas.Result.{err_from_is_err_and}
use Rattle.hc_upgrade.specs.Upgraded.{upgraded_text}
use Rattle.hc_cmd.specs.Traced.{converted, Converts}
use Rattle.hc_cmd.proofs.Finding.{memory_or, ok_found}
use Rattle.hc_cmd.proofs.TracedTexts.{not_traced, traced_gives, conversion_refused}
use Rattle.hc_cmd.proofs.tracing.prepare_conversion.Goals as goal

pub returns-in_err-system : goal.returns-in_err-system
returns-in_err-system c =
    let exit = err_from_is_err_and c.from_residual.result c.from_residual.ensures.1 in
    rw (exit.1, exit.2) (memory_or _ _ (not_traced _ c.args.text.now) c.in_err-system.field-0.0 c.in_err-system.ensures)

pub returns-in_err-bytes : goal.returns-in_err-bytes
returns-in_err-bytes c =
    let exit = err_from_is_err_and c.from_residual-in_err-bytes.result c.from_residual-in_err-bytes.ensures.1 in
    rw (exit.1, exit.2) (conversion_refused c.args.text.now c.in_ok-system.system c.in_ok-system.trace c.in_ok-system.ensures
    c.upgrade.result c.map_err.result c.in_err-bytes.field-0.0 c.upgrade.ensures.refusal c.map_err.ensures.cases c.in_err-bytes.was)

pub returns : goal.returns
returns c =
    let system = c.in_ok-system.system in
    let trace = c.in_ok-system.trace in
    let text = ok_found (λ text. upgraded_text system trace ≡ Ok text.items) _ c.upgrade.result c.map_err.result c.in_ok-bytes.bytes
    c.upgrade.ensures.text c.map_err.ensures.cases c.in_ok-bytes.was in
    (tt, traced_gives Converts c.args.text.now system trace c.in_ok-system.ensures _ (c.done.ensures ∙ sym (ap converted text)))
