use Rattle.std.proofs.lemmas.Result.{err_from_is_err_and}
use Rattle.hc_cmd.proofs.Finding.{memory_or, not_accepted, accepts, done_so}
use Rattle.hc_cmd.proofs.prepared.prepare_size.Goals as goal

pub returns-in_err-flat : goal.returns-in_err-flat
returns-in_err-flat c =
    let exit = err_from_is_err_and c.from_residual.result c.from_residual.ensures.1 in
    rw (exit.1, exit.2) (memory_or _ _ (not_accepted _ c.args.text.now) c.in_err-flat.field-0.0 c.in_err-flat.ensures)

pub returns : goal.returns
returns c = (tt, accepts _ c.args.text.now c.in_ok-flat.flat c.in_ok-flat.system c.in_ok-flat.ensures _ (done_so _ _ c.size_line.ensures))
