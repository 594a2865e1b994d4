use Rattle.hc_trace.proofs.Headers.{begins_first, begins_second}
use Rattle.hc_trace.proofs.splitting.begins_trace.Goals as goal

pub returns-then-starts_with : goal.returns-then-starts_with
returns-then-starts_with c = begins_first c.args.bytes.now c.starts_with.result c.starts_with.ensures.value c.if-starts_with.true

pub returns-else-starts_with : goal.returns-else-starts_with
returns-else-starts_with c =
    begins_second c.args.bytes.now c.starts_with.result c.starts_with-else-starts_with.result c.starts_with.ensures.value c.if-starts_with.false c.starts_with-else-starts_with.ensures.value
