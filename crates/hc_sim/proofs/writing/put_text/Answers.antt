use Rattle.std.proofs.Common.{subst, List}
use Rattle.std.proofs.lemmas.Result.{err_from_is_err_and}
use Rattle.hc_term.specs.declared.task.Task.{Task}
use Rattle.hc_term.specs.declared.run.Item.{Item}
use Rattle.hc_term.specs.TraceText.{lines}
use Rattle.hc_trace.proofs.RangeLemmas.{runs_are_in_range}
use Rattle.hc_world.specs.Pieces.{PutsPiece}
use Rattle.hc_sim.proofs.Turning.{cut_in_header, lines_follow}
use Rattle.hc_sim.proofs.writing.put_text.Goals as goal

pub returns-in_err-put_piece-clause-puts : goal.returns-in_err-put_piece-clause-puts
returns-in_err-put_piece-clause-puts g c =
    let s = c.args.joint.now in
    let exit = err_from_is_err_and c.from_residual.result c.from_residual.ensures.1 in
    rw exit.1 (cut_in_header g.O.Sink.state c.args.out.now c.put_piece.new.sink s.task.system s.history c.in_err-put_piece.ensures)

pub put_lines-requires-clause-range : goal.put_lines-requires-clause-range
put_lines-requires-clause-range g c =
    let s = c.args.joint.now in
    let k = c.history-history.ensures.keeps in
    rw (c.task.ensures, c.history-history.ensures.items) (runs_are_in_range s.task s.history k.reached k.is_reached.leads)

pub returns-clause-puts : goal.returns-clause-puts
returns-clause-puts g c =
    let s = c.args.joint.now in
    let state = g.O.Sink.state in
    let puts : PutsPiece state c.put_piece.new.sink c.put_lines.new.out c.put_lines.result (lines s.task.system s.history) =
    subst (λ (t : Task). PutsPiece state c.put_piece.new.sink c.put_lines.new.out c.put_lines.result (lines t.system s.history)) c.task.ensures
    (subst (λ (items : List Item). PutsPiece state c.put_piece.new.sink c.put_lines.new.out c.put_lines.result (lines c.task.result.now.system items)) c.history-history.ensures.items c.put_lines.ensures) in
    lines_follow state c.args.out.now c.put_piece.new.sink c.put_lines.new.out s.task.system s.history c.put_lines.result c.in_ok-put_piece.ensures puts
