use Rattle.std.proofs.lemmas.Result.{err_from_is_err_and}
use Rattle.hc_crun.proofs.Flushing.{stopped_short, told, flush_failed}
use Rattle.hc_crun.proofs.executing.exec_opened.Goals as goal

pub returns-in_err-end : goal.returns-in_err-end
returns-in_err-end g c at =
    let exit = err_from_is_err_and c.from_residual.result c.from_residual.ensures.1 in
    let p = c.args.program.now in
    rw exit.1 (stopped_short g.O.Sink.state c.args.out.now p c.args.seed c.args.steps c.tell_items-told.new.machine c.moved.result
    (c.moved.ensures p) c.tell_items-told.new.out (c.in_err-end.ensures at))

pub returns-in_err-finish : goal.returns-in_err-finish
returns-in_err-finish g c at =
    let exit = err_from_is_err_and c.from_residual-in_err-finish.result c.from_residual-in_err-finish.ensures.1 in
    let p = c.args.program.now in
    rw exit.1 (flush_failed g.O.Sink.state c.args.out.now p c.args.seed c.args.steps c.tell_items-told.new.machine c.moved.result
    (c.moved.ensures p) c.tell_items-told.new.out c.finish.new.sink c.in_ok-end.end (c.in_ok-end.ensures at) c.in_err-finish.ensures)

pub returns : goal.returns
returns g c at =
    let p = c.args.program.now in
    told g.O.Sink.state c.args.out.now p c.args.seed c.args.steps c.tell_items-told.new.machine c.moved.result
    (c.moved.ensures p) c.tell_items-told.new.out c.finish.new.sink c.in_ok-end.end (c.in_ok-end.ensures at) c.in_ok-finish.ensures
