use Rattle.std.proofs.Common.{drop}
use Rattle.hc_world.specs.Pieces.{IsUnderWay}
use Rattle.hc_term.specs.TraceText.{lines}
use Rattle.hc_sim.proofs.writing.put_lines.Given as goal

abbrev pub invariant-loop-item : goal.invariant-loop-item
invariant-loop-item g l =
    IsUnderWay g.O.Sink.state l.fn.out l.out (lines l.system l.items) (lines l.system (drop l.item-index l.items))
