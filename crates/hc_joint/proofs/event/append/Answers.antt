use Rattle.std.proofs.Common.{◌∙◌, sym, ap, ◌-◌, ◌++◌, replicate, Some, None}
use Rattle.hc_term.specs.declared.run.StretchEnd.{StretchEnd}
use Rattle.hc_term.specs.Event.{silent_items}
use Rattle.hc_step.specs.Represents.{logs_by}
use Rattle.hc_joint.proofs.Stretched.{items-push}
use Rattle.hc_joint.proofs.event.append.Goals as goal

pub returns-in-Logged-clause-items : goal.returns-in-Logged-clause-items
returns-in-Logged-clause-items c =
    let before = c.args.history.now.items in
    let steps = c.args.stretch.now.steps in
    items-push c.args.clock c.args.process before c.push_quiet.new.history.items c.push_silent.new.history.items (Some c.in-Logged.value)
    (replicate (steps - 1) None) c.push_quiet.ensures.items c.push_silent.ensures.items
    ∙ ap (λ (e : StretchEnd). before ++ silent_items c.args.clock c.args.process (logs_by steps e)) (sym c.in-Logged.is)
