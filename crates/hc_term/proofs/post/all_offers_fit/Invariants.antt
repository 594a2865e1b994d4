use Rattle.std.proofs.Common.{◌≡◌, drop}
use Rattle.std.specs.List.{list_all}
use Rattle.hc_term.specs.Posts.{offer_fits}
use Rattle.hc_term.proofs.post.all_offers_fit.Given as goal

abbrev pub invariant-loop-offer : goal.invariant-loop-offer
invariant-loop-offer l = list_all (offer_fits l.by) l.offers ≡ list_all (offer_fits l.by) (drop l.offer-index l.offers)
