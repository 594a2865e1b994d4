use Rattle.std.proofs.Common.{◌∙◌}
use Rattle.hc_cexec.proofs.Roused.{waiting_at, roused_at}
use Rattle.hc_cexec.proofs.machine.Machine.wake.Goals as goal

pub returns-clause-says : goal.returns-clause-says
returns-clause-says c g s at = c.rouse.ensures.says ∙ waiting_at g c.args.self.now at.0 s at.1 c.args.thread

pub returns-clause-at : goal.returns-clause-at
returns-clause-at c g s at = (at.0, roused_at g c.args.self.now at.0 s at.1 c.args.thread c.rouse.new.self c.rouse.ensures.roused)
