use Rattle.std.proofs.Common.{sym, subst, ◌∙◌}
use Rattle.hc_term.specs.declared.task.Task.{Task}
use Rattle.hc_trace.specs.InRange.{StopInRange}
use Rattle.hc_det.proofs.Ending.{stop_named}
use Rattle.hc_det.proofs.text.channels_text.Goals as goal

pub end_line-requires : goal.end_line-requires
end_line-requires c =
    subst (λ (t : Task). StopInRange t.system c.in-Some.stop) (sym c.task.ensures)
    (stop_named c.args.joint.now c.history.ensures.keeps c.in-Some.stop (sym c.stop.ensures ∙ c.in-Some.is))
