use Rattle.std.proofs.Common.{◌≡◌}
use Rattle.hc_term.specs.Moved.{offer_after}
use Rattle.hc_term.proofs.Fronts.{front}
use Rattle.hc_term.proofs.post.move_offers.Given as goal

abbrev pub invariant-loop-at : goal.invariant-loop-at
invariant-loop-at l = l.offers ≡ front (offer_after l.by) l.at l.initial.offers
