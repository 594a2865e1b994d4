use Rattle.hc_trace.proofs.UnderWay.{read_exactly}
use Rattle.hc_trace.proofs.reading.read_trace.Goals as goal

pub returns : goal.returns
returns c = read_exactly c.args.bytes.now c.read_lines.result c.read_lines.ensures.trace c.read_lines.ensures.refusal
