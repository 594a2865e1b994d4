use Rattle.std.proofs.Common.{◌+◌, List, ◌∷◌, drop, sym, ap, subst, ◌∙◌}
use Rattle.std.proofs.lemmas.List.{drop_more}
use Rattle.hc_term.specs.declared.post.Offer.{Offer}
use Rattle.hc_board.proofs.Marking.{IsMarkedFor, next_marked}
use Rattle.hc_board.proofs.index.Index.mark_all.Goals as goal

pub loop-offer-preserved : goal.loop-offer-preserved
loop-offer-preserved c =
    next_marked _ _ c.offer-item.result _ _ _ _ _
    (subst (λ (os : List Offer). IsMarkedFor c.args.offers.now os c.args.process c.args.is_offered c.args.self.now c.loop-offer.self)
    (drop_more c.args.offers.now c.loop-offer.offer-index c.offer-item.result c.loop-offer-test.true
    ∙ ap (λ (o : Offer). o ∷ drop (c.loop-offer.offer-index + 1) c.args.offers.now) (sym c.offer-item.is)) c.loop-offer.invariant)
    c.mark.ensures
