use Rattle.std.proofs.Common.{◌-◌, sym, subst, Bool, length, take, drop}
use Rattle.std.proofs.lemmas.Result.{err_from_is_err_and}
use Rattle.hc_term.specs.declared.task.Task.{Task}
use Rattle.hc_trace.specs.InRange.{AreInRange}
use Rattle.hc_joint.specs.Keeps.{GoesForward}
use Rattle.hc_sim.proofs.Turning.{taken, slice_in_range, tells_turn, cuts_turn}
use Rattle.hc_sim.proofs.simulating.tell_turn.Goals as goal

pub put_lines-requires-clause-range : goal.put_lines-requires-clause-range
put_lines-requires-clause-range g c =
    let old = c.args.joint.now in
    let new = c.forward.new.self in
    let told = c.history-told.result.now in
    let shown = c.history.result.now in
    let went = subst (λ (b : Bool). GoesForward old.stop old new b) c.if-not-forward.false c.forward.ensures in
    subst (λ (t : Task). AreInRange t.system (take (length shown - length told) (drop (length told) shown))) (sym c.task.ensures)
    (slice_in_range old new told shown c.history-told.ensures.items c.history.ensures.items (taken old new went).1 c.history.ensures.keeps)

pub returns-in_err-put_lines : goal.returns-in_err-put_lines
returns-in_err-put_lines g c =
    let old = c.args.joint.now in
    let new = c.forward.new.self in
    let exit = err_from_is_err_and c.from_residual.result c.from_residual.ensures.1 in
    let went = subst (λ (b : Bool). GoesForward old.stop old new b) c.if-not-forward.false c.forward.ensures in
    rw exit.1 (cuts_turn g.O.Sink.state c.args.out.now c.put_lines.new.out old new c.history-told.result.now c.history.result.now c.task.result.now _
    c.task.ensures c.history-told.ensures.items c.history.ensures.items c.history-told.ensures.keeps c.history.ensures.keeps went c.in_err-put_lines.ensures)

pub returns : goal.returns
returns g c =
    let old = c.args.joint.now in
    let new = c.forward.new.self in
    let went = subst (λ (b : Bool). GoesForward old.stop old new b) c.if-not-forward.false c.forward.ensures in
    tells_turn g.O.Sink.state c.args.out.now c.put_lines.new.out old new c.history-told.result.now c.history.result.now c.task.result.now
    c.task.ensures c.history-told.ensures.items c.history.ensures.items c.history-told.ensures.keeps c.history.ensures.keeps went c.in_ok-put_lines.ensures
