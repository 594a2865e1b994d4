use Rattle.std.specs.Prelude.{IsSome}
use Rattle.std.proofs.lemmas.Result.{err_from_is_err_and}
use Rattle.hc_cmd.specs.declared.running.Run.{Run}
use Rattle.hc_cmd.specs.Sources.{OfSource}
use Rattle.hc_cmd.specs.Running.{Runs, told}
use Rattle.hc_cmd.proofs.Finding.{memory_or, not_accepted, accepts, ok_found, prepared_so}
use Rattle.hc_cmd.proofs.running.prepare_run_of.Goals as goal

pub told_of-requires : goal.told_of-requires
told_of-requires g c =
    ok_found (λ (r : Run). IsSome r.joint.stop) _ c.complete.result c.map_err.result c.in_ok-over.over c.complete.ensures.stopped c.map_err.ensures.cases c.in_ok-over.was

pub returns-in_err-system : goal.returns-in_err-system
returns-in_err-system g c =
    let exit = err_from_is_err_and c.from_residual.result c.from_residual.ensures.1 in
    rw (exit.1, exit.2) (memory_or _ _ (not_accepted _ c.args.text.now) c.in_err-system.field-0.0 c.in_err-system.ensures)

pub returns : goal.returns
returns g c =
    let asked = c.args.asked in
    let system = c.in_ok-system.system in
    let runs = ok_found (λ (r : Run). Runs asked system (told asked.channels r.joint r.report.items)) _
    c.complete.result c.map_err.result c.in_ok-over.over c.complete.ensures.runs c.map_err.ensures.cases c.in_ok-over.was in
    prepared_so (OfSource (λ flat. Runs asked) c.args.text.now) _ c.told_of.result
    (accepts _ c.args.text.now _ system c.in_ok-system.ensures _ runs) c.told_of.ensures
