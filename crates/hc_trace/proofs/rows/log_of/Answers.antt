use Rattle.hc_trace.proofs.Events.{log_parts}
use Rattle.hc_trace.proofs.rows.log_of.Goals as goal

pub returns-in_err-process : goal.returns-in_err-process
returns-in_err-process c v = rw c.from_residual.ensures (λ e h.
    let parts = log_parts v c.args.parts.now e h in
    c.in_err-process.ensures (parts.name, parts.value) (parts.word, parts.fits, parts.spells))
