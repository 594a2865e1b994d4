use Rattle.std.proofs.Common.{sym, subst, ◌∙◌}
use Rattle.std.proofs.lemmas.Result.{err_from_is_err_and}
use Rattle.hc_rational.specs.Words.{Rational}
use Rattle.hc_term.specs.declared.task.Task.{Task}
use Rattle.hc_term.specs.TraceText.{end_line}
use Rattle.hc_trace.specs.InRange.{StopInRange}
use Rattle.hc_world.specs.Pieces.{IsUnderWay}
use Rattle.hc_sim.specs.Told.{history_text}
use Rattle.hc_sim.proofs.Turning.{stop_named, some_text, cut_in_history, end_is_left}
use Rattle.hc_sim.proofs.writing.write_history.Goals as goal

pub returns-in_err-put_text : goal.returns-in_err-put_text
returns-in_err-put_text g c =
    let exit = err_from_is_err_and c.from_residual.result c.from_residual.ensures.1 in
    rw exit.1 (cut_in_history g.O.Sink.state c.args.out.now c.put_text.new.out c.args.joint.now c.in-Some.stop (sym c.stop.ensures ∙ c.in-Some.is) c.in_err-put_text.ensures.puts)

pub put_stop-requires : goal.put_stop-requires
put_stop-requires g c =
    subst (λ (t : Task). StopInRange t.system c.in-Some.stop) (sym c.task.ensures)
    (stop_named c.args.joint.now c.put_text.ensures.keeps c.in-Some.stop (sym c.stop.ensures ∙ c.in-Some.is))

pub returns : goal.returns
returns g c =
    let s = c.args.joint.now in
    let state = g.O.Sink.state in
    let stands = sym c.stop.ensures ∙ c.in-Some.is in
    let left = end_is_left state c.args.out.now c.put_text.new.out s c.in-Some.stop stands c.in_ok-put_text.ensures.puts in
    let there : IsUnderWay state c.args.out.now c.put_text.new.out (history_text s) (end_line c.task.result.now.system c.clock.result c.in-Some.stop) =
    subst (λ (t : Task). IsUnderWay state c.args.out.now c.put_text.new.out (history_text s) (end_line t.system c.clock.result c.in-Some.stop)) (sym c.task.ensures)
    (subst (λ (q : Rational). IsUnderWay state c.args.out.now c.put_text.new.out (history_text s) (end_line s.task.system q c.in-Some.stop)) (sym c.clock.ensures) left) in
    c.put_stop.ensures c.args.out.now (history_text s) (some_text state c.args.out.now s c.in-Some.stop stands) there
