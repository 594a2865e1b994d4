use Rattle.std.proofs.Common.{arith, subst, List, ℕ}
use Rattle.std.proofs.lemmas.Result.{err_from_is_err_and}
use Rattle.hc_world.specs.Pieces.{IsUnderWay}
use Rattle.hc_world.proofs.PieceLemmas.{under_way_piece, cut_at_piece, begun_whole}
use Rattle.hc_trace.proofs.RangeLemmas.{one_in_range}
use Rattle.hc_term.specs.TraceText.{lines}
use Rattle.hc_sim.proofs.TextLemmas.{lines_next, lines_end}
use Rattle.hc_sim.proofs.writing.put_lines.Goals as goal

pub put_line-requires-clause-range : goal.put_line-requires-clause-range
put_line-requires-clause-range g c =
    one_in_range c.args.system.now c.args.items.now c.loop-item.item-index c.item-item.result c.requires.range (omega arith) c.item-item.is

pub returns-in_err-put_line : goal.returns-in_err-put_line
returns-in_err-put_line g c =
    let exit = err_from_is_err_and c.from_residual.result c.from_residual.ensures.1 in
    let next = lines_next c.args.system.now c.args.items.now c.loop-item.item-index c.item-item.result (omega arith) c.item-item.is in
    rw exit.1 (cut_at_piece _ next c.loop-item.invariant c.in_err-put_line.ensures)

pub loop-item-preserved : goal.loop-item-preserved
loop-item-preserved g c =
    let next = lines_next c.args.system.now c.args.items.now c.loop-item.item-index c.item-item.result (omega arith) c.item-item.is in
    under_way_piece _ next c.loop-item.invariant c.in_ok-put_line.ensures

pub returns : goal.returns
returns g c =
    let none = lines_end c.args.system.now c.args.items.now c.loop-item.item-index (omega arith) in
    let P : List ℕ → Type 0 = λ rest. IsUnderWay g.O.Sink.state c.args.out.now c.loop-item.out (lines c.args.system.now c.args.items.now) rest in
    begun_whole (subst P none c.loop-item.invariant)
