use Rattle.std.proofs.Common.{sym, ap, subst, ◌∙◌}
use Rattle.hc_term.specs.declared.run.Stop.{Stop}
use Rattle.hc_term.specs.declared.run.Stop.TheVariants.{Overflow}
use Rattle.hc_verify.specs.Ending.{ReachesEnd, is_of_time}
use Rattle.hc_verify.proofs.EndReached.{reached_in_time}
use Rattle.hc_verify.proofs.walk.Walk.end.Goals as goal

pub returns-in-Terminated : goal.returns-in-Terminated
returns-in-Terminated c before r =
    subst (λ (s : Stop). ReachesEnd c.args.task.now s c.args.at c.args.room before c.terminate.result) (sym c.in-Terminated.is)
    (c.terminate.ensures before r)

pub returns-in-Deadlock : goal.returns-in-Deadlock
returns-in-Deadlock c before r =
    reached_in_time c.args.task.now c.args.stop c.args.at c.args.room before c.stand_still.result (ap is_of_time c.in-Deadlock.is)
    (c.stand_still.ensures before r)

pub returns-in-Horizon : goal.returns-in-Horizon
returns-in-Horizon c before r =
    reached_in_time c.args.task.now c.args.stop c.args.at c.args.room before c.stand_still-in-Horizon.result (ap is_of_time c.in-Horizon.is)
    (c.stand_still-in-Horizon.ensures before r)

pub returns-in-Limit : goal.returns-in-Limit
returns-in-Limit c before r =
    subst (λ (s : Stop). ReachesEnd c.args.task.now s c.args.at c.args.room before c.limit.result) (sym c.in-Limit.is)
    (c.limit.ensures before r)

pub returns-in-None : goal.returns-in-None
returns-in-None c before r =
    subst (λ (s : Stop). ReachesEnd c.args.task.now s c.args.at c.args.room before c.stand_still-in-None.result) (sym c.in-Overflow.is)
    (c.stand_still-in-None.ensures before r)

pub returns-in-Some : goal.returns-in-Some
returns-in-Some c before r =
    subst (λ (s : Stop). ReachesEnd c.args.task.now s c.args.at c.args.room before c.overflow.result)
    (sym (c.in-Overflow.is ∙ ap Overflow c.in-Some.is)) (c.overflow.ensures before r)
