use Rattle.std.proofs.Common.{◌∙◌}
use Rattle.hc_cexec.proofs.Roused.{waiting_at}
use Rattle.hc_cexec.proofs.machine.Machine.waiting.Goals as goal

pub returns : goal.returns
returns c g s at = c.is_waiting.ensures ∙ waiting_at g c.args.self.now at.0 s at.1 c.args.thread
