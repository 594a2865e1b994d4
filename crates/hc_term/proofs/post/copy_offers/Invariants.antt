use Rattle.std.proofs.Common.{◌≡◌, take}
use Rattle.hc_term.proofs.post.copy_offers.Given as goal

abbrev pub invariant-loop-offer : goal.invariant-loop-offer
invariant-loop-offer l = l.to ≡ take l.offer-index l.from
