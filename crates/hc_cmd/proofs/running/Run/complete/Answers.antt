use Rattle.std.proofs.Common.{ap}
use Rattle.hc_cmd.specs.Running.{told}
use Rattle.hc_cmd.proofs.running.Run.complete.Goals as goal

pub returns-clause-runs : goal.returns-clause-runs
returns-clause-runs g c =
    let outcome = c.in_ok-outcome.outcome in
    record {
      task = c.task_of-task.result;
      parts = c.task_of-task.ensures;
      joint = outcome.joint;
      turns = outcome.turns.items;
      own = outcome.own_turns;
      outcome = c.in_ok-outcome.ensures;
      stands = ap (told c.args.asked.channels outcome.joint) c.in_ok-report.ensures;
    }
