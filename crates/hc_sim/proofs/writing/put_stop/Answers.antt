use Rattle.std.proofs.Common.{◌≡◌, [], sym, ◌∙◌}
use Rattle.std.proofs.lemmas.List.{append-nil}
use Rattle.std.proofs.lemmas.Result.{err_from_is_err_and}
use Rattle.hc_world.proofs.PieceLemmas.{under_way_piece, cut_at_piece, puts_at_end}
use Rattle.hc_term.specs.TraceText.{end_line}
use Rattle.hc_sim.proofs.writing.put_stop.Goals as goal

pub returns-in_err-put_piece : goal.returns-in_err-put_piece
returns-in_err-put_piece g c before text some under =
    let exit = err_from_is_err_and c.from_residual.result c.from_residual.ensures.1 in
    let is : end_line c.args.system.now c.args.clock c.args.stop ≡ c.as_bytes.result.now = cc in
    rw exit.1 (cut_at_piece [] (is ∙ sym (append-nil c.as_bytes.result.now)) under c.in_err-put_piece.ensures)

pub returns : goal.returns
returns g c before text some under =
    let is : end_line c.args.system.now c.args.clock c.args.stop ≡ c.as_bytes.result.now = cc in
    puts_at_end c.finish.new.sink c.finish.result some
    (under_way_piece [] (is ∙ sym (append-nil c.as_bytes.result.now)) under c.in_ok-put_piece.ensures) c.finish.ensures
