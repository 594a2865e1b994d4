use Rattle.std.proofs.Common.{sym, ap, subst}
use Rattle.hc_cmd.specs.Reply.{Reply}
use Rattle.hc_cmd.specs.Prepared.{Performs, reply_to}
use Rattle.hc_cmd.proofs.prepared.Prepared.perform.Goals as goal

-- what a simulation lets stand is what is ready there
pub returns-in-Simulation : goal.returns-in-Simulation
returns-in-Simulation g c =
    subst (λ (reply : Reply). Performs g.O.Sink.state c.args.out.now c.perform.new.out reply c.perform.result)
    (sym (ap reply_to c.in-Simulation.is)) c.perform.ensures

pub returns-in-Execution : goal.returns-in-Execution
returns-in-Execution g c =
    subst (λ (reply : Reply). Performs g.O.Sink.state c.args.out.now c.perform-in-Execution.new.out reply c.perform-in-Execution.result)
    (sym (ap reply_to c.in-Execution.is)) c.perform-in-Execution.ensures
