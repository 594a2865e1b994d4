use Rattle.std.proofs.Common.{drop}
use Rattle.hc_board.proofs.Marking.{IsMarkedFor}
use Rattle.hc_board.proofs.index.Index.mark_all.Given as goal

abbrev pub invariant-loop-offer : goal.invariant-loop-offer
invariant-loop-offer l = IsMarkedFor l.offers (drop l.offer-index l.offers) l.process l.is_offered l.initial.self l.self
