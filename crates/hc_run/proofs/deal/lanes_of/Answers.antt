-- Each process adds a lane, or is another worker's.
use Rattle.std.proofs.Common.{◌+◌, sym, subst}
use Rattle.hc_run.specs.Lanes.{AreOf}
use Rattle.hc_run.proofs.Dealing.{dealt, passed}
use Rattle.hc_run.proofs.deal.lanes_of.Goals as goal
use Rattle.hc_run.proofs.deal.lanes_of.Goals.{then-process-used+in_ok-lane_of+in_ok-push, else-process-used}

pub loop-process-preserved : goal.loop-process-preserved
loop-process-preserved c =
    let used = c.args.used in
    let worker = c.args.worker in
    let n = c.loop-process.process in
    let before = c.loop-process.lanes in
    let so_far = c.loop-process.invariant in
    elim c.if-process-used.branch [
      | then-process-used+in_ok-lane_of+in_ok-push w ↦ subst (λ lanes. AreOf used worker (n + 1) lanes.items) (sym w.lanes-is)
          (subst (λ xs. AreOf used worker (n + 1) xs) (sym w.in_ok-push.ensures.items)
          (dealt used worker n before.items so_far w.in_ok-lane_of.field-0 w.in_ok-lane_of.ensures w.if-process-used.true))
      | else-process-used w ↦ subst (λ lanes. AreOf used worker (n + 1) lanes.items) (sym w.lanes-is)
          (passed used worker n before.items so_far w.if-process-used.false)
    ]
