use Rattle.std.proofs.Common.{◌≡◌, ap₂}
use Rattle.std.proofs.lemmas.Result.{err_from_is_err_and}
use Rattle.hc_cmd.specs.declared.executing.Execution.{Execution}
use Rattle.hc_cmd.specs.Executed.{program, executed}
use Rattle.hc_cmd.specs.Prepared.{IsOpened}
use Rattle.hc_cmd.proofs.Finding.{memory_or, ok_found}
use Rattle.hc_cmd.proofs.CTexts.{none_there, goes_back}
use Rattle.hc_cmd.proofs.executing.prepare_execution.Goals as goal

pub open-requires : goal.open-requires
open-requires c = goes_back c.program_laws.ensures.calls c.args.text.now c.in_ok-program.program c.in_ok-program.ensures

pub returns-in_err-program : goal.returns-in_err-program
returns-in_err-program c =
    let exit = err_from_is_err_and c.from_residual.result c.from_residual.ensures.1 in
    rw (exit.1, exit.2) (memory_or _ _ (none_there _ c.args.text.now) c.in_err-program.field-0.0 c.in_err-program.ensures)

pub returns : goal.returns
returns c =
    let g = c.in_ok-program.program in
    let made = c.in_ok-execution.execution in
    let opened : IsOpened made = ok_found IsOpened _ c.open.result c.map_err.result made c.open.ensures.opened c.map_err.ensures.cases c.in_ok-execution.was in
    let same = ok_found (λ (e : Execution). e.program ≡ g) _ c.open.result c.map_err.result made c.open.ensures.program c.map_err.ensures.cases c.in_ok-execution.was in
    let asked = ok_found (λ (e : Execution). e.asked ≡ c.args.asked) _ c.open.result c.map_err.result made c.open.ensures.asked c.map_err.ensures.cases c.in_ok-execution.was in
    (opened, program g c.in_ok-program.ensures (ap₂ executed asked same))
