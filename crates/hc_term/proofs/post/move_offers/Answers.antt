use Rattle.std.proofs.Common.{◌≡◌, ◌<◌, sym, ap, ap₂, subst, ◌∙◌, true, add-one, arith, length}
use Rattle.std.proofs.Math.ListN.{get_or, set}
use Rattle.hc_term.specs.Posts.{offer_fits}
use Rattle.hc_term.specs.Moved.{offer_after}
use Rattle.hc_term.proofs.Fronts.{front, length-front, get_or-front, set-front, front-all, all-get_or}
use Rattle.hc_term.proofs.post.move_offers.Goals as goal

pub bounds-as_slice-at : goal.bounds-as_slice-at
bounds-as_slice-at c =
    omega (
      arith,
      c.loop-at-test.true,
      ap length c.as_slice-at-end.ensures.elements,
      ap length c.as_slice.ensures.elements,
      ap length c.loop-at.invariant,
      length-front (offer_after c.args.by) c.loop-at.at c.args.offers.now,
    )

module _ (c : goal.After-index-as_slice-at) where
  -- the element at hand is still as it was at the start
  here : c.index-as_slice-at.result ≡ get_or c.args.offers.now c.loop-at.at c.index-as_slice-at.result
  here =
      c.index-as_slice-at.is
      ∙ ap (λ xs. get_or xs c.loop-at.at c.index-as_slice-at.result) (c.as_slice.ensures.elements ∙ c.loop-at.invariant)
      ∙ get_or-front (offer_after c.args.by) c.loop-at.at c.args.offers.now c.index-as_slice-at.result

  within : c.loop-at.at < length c.args.offers.now
  within = omega (arith, c.loop-at-test.true, ap length c.as_slice-at-end.ensures.elements)

pub moved_offer-after-requires : goal.moved_offer-after-requires
moved_offer-after-requires c =
    subst (λ x. offer_fits c.args.by x ≡ true) (sym (here c))
    (all-get_or (offer_fits c.args.by) c.args.offers.now c.loop-at.at c.index-as_slice-at.result (within c) c.requires)

pub set-requires : goal.set-requires
set-requires c =
    (omega arith, omega (arith, within c.before.before, ap length c.loop-at.invariant, length-front (offer_after c.args.by) c.loop-at.at c.args.offers.now))

pub loop-at-preserved : goal.loop-at-preserved
loop-at-preserved c =
    let f = offer_after c.args.by in
    let xs = c.args.offers.now in
    c.set.ensures
    ∙ ap₂ (λ ys y. set ys c.loop-at.at y) c.loop-at.invariant (c.moved_offer-after.ensures ∙ ap f (here c.before.before.before))
    ∙ set-front f c.loop-at.at xs c.index-as_slice-at.result (within c.before.before.before)
    ∙ ap (λ n. front f n xs) (sym (add-one c.loop-at.at))

pub returns : goal.returns
returns c =
    c.loop-at.invariant
    ∙ front-all (offer_after c.args.by) c.loop-at.at c.args.offers.now
    (omega (arith, c.loop-at-test.false, ap length c.as_slice-at-end.ensures.elements))
