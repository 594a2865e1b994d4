use Rattle.std.proofs.Common.{◌≡◌}
use Rattle.std.proofs.lemmas.Result.{err_from_is_err_and}
use Rattle.hc_term.specs.Given.{HasParts}
use Rattle.hc_cmd.specs.declared.ending.Text.{Text}
use Rattle.hc_cmd.specs.declared.simulation.Simulation.{Simulation}
use Rattle.hc_cmd.specs.Answers.{listed}
use Rattle.hc_cmd.specs.Prepared.{AtOpening, reply_in}
use Rattle.hc_cmd.proofs.Finding.{memory_or, not_accepted, accepts, ok_found}
use Rattle.hc_cmd.proofs.prepared.prepare_listing.Goals as goal

pub list-requires : goal.list-requires
list-requires c = ok_found AtOpening _ c.open.result c.map_err.result c.in_ok-simulation.simulation c.open.ensures.opening c.map_err.ensures.cases c.in_ok-simulation.was

pub returns-in_err-system : goal.returns-in_err-system
returns-in_err-system c =
    let exit = err_from_is_err_and c.from_residual.result c.from_residual.ensures.1 in
    rw (exit.1, exit.2) (memory_or _ _ (not_accepted _ c.args.text.now) c.in_err-system.field-0.0 c.in_err-system.ensures)

pub returns : goal.returns
returns c =
    let settings = c.args.settings in
    let system = c.in_ok-system.system in
    let made = c.in_ok-simulation.simulation in
    let parts = ok_found (λ (s : Simulation). HasParts system settings.seed settings.horizon settings.limit s.joint.task) _
    c.open.result c.map_err.result made c.open.ensures.parts c.map_err.ensures.cases c.in_ok-simulation.was in
    let stands = ok_found (λ (t : Text). reply_in t ≡ listed made.joint.task) _ c.list.result c.map_err-2.result c.in_ok-listing.listing
    c.list.ensures c.map_err-2.ensures.cases c.in_ok-listing.was in
    (tt, accepts _ c.args.text.now _ system c.in_ok-system.ensures _ (record { task = made.joint.task; parts = parts; stands = stands }))
