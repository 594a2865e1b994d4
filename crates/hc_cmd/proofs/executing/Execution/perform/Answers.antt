use Rattle.std.proofs.Common.{◌∙◌, ◌++◌, ap, ap₂}
use Rattle.std.proofs.lemmas.Result.{err_from_is_err_and}
use Rattle.hc_crun.specs.Told.{IsTold, IsCutShort}
use Rattle.hc_cmd.specs.Executed.{status_by, end_text, moved_text}
use Rattle.hc_cmd.proofs.Executions.{moved_counted, ok_of, err_of}
use Rattle.hc_cmd.proofs.executing.Execution.perform.Goals as goal

pub returns-in_err-end : goal.returns-in_err-end
returns-in_err-end g c =
    let asked = c.args.self.asked in
    let program = c.args.self.program in
    let exit = err_from_is_err_and c.from_residual.result c.from_residual.ensures.1 in
    let is = err_of (IsTold g.O.Sink.state c.args.out.now c.exec_opened.new.out program asked.seed asked.steps c.exec_opened.new.moved)
    (λ _. IsCutShort g.O.Sink.state c.args.out.now c.exec_opened.new.out program asked.seed asked.steps c.exec_opened.new.moved)
    c.exec_opened.result c.in_err-end.field-0.0 (c.exec_opened.ensures c.requires) c.in_err-end.was in
    rw exit.1 is.cut

pub returns : goal.returns
returns g c =
    let asked = c.args.self.asked in
    let program = c.args.self.program in
    let is = ok_of (IsTold g.O.Sink.state c.args.out.now c.exec_opened.new.out program asked.seed asked.steps c.exec_opened.new.moved)
    (λ _. IsCutShort g.O.Sink.state c.args.out.now c.exec_opened.new.out program asked.seed asked.steps c.exec_opened.new.moved)
    c.exec_opened.result c.in_ok-end.end (c.exec_opened.ensures c.requires) c.in_ok-end.was in
    let few = is.moved_is ∙ moved_counted program asked in
    (is.text, c.status_of_end.ensures ∙ ap status_by is.end_is, c.lines_of.ensures ∙ ap₂ (λ end moved. end_text end ++ moved_text asked.report moved) is.end_is few)
