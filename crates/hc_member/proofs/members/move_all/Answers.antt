use Rattle.std.proofs.Common.{◌≡◌, true, sym, subst, arith}
use Rattle.std.proofs.Math.ListN.{get_or}
use Rattle.hc_term.specs.Posts.{post_fits}
use Rattle.hc_term.specs.Together.{is_within}
use Rattle.hc_term.proofs.Fronts.{all-get_or}
use Rattle.hc_member.specs.declared.member.Member.{Member}
use Rattle.hc_member.proofs.Moves.{within_bound, none_moved, one_moved, all_moved}
use Rattle.hc_member.proofs.members.move_all.Goals as goal

module _ (c : goal.After-index-members-at) where
  -- the member at hand is still as it was at the start
  here : get_or c.loop-at.members c.loop-at.at c.index-members-at.result ≡ get_or c.args.members.now c.loop-at.at c.index-members-at.result
  here = c.loop-at.invariant.after c.loop-at.at c.index-members-at.result (omega arith)

pub loop-at-init : goal.loop-at-init
loop-at-init c = none_moved c.args.by c.args.members.now

pub move_by-requires-clause-fits : goal.move_by-requires-clause-fits
move_by-requires-clause-fits c =
    subst (λ (m : Member). post_fits c.args.by m.local.post ≡ true) (sym (here c))
    (all-get_or (λ m. post_fits c.args.by m.local.post) c.args.members.now c.loop-at.at c.index-members-at.result c.loop-at-test.true c.requires.fits)

pub move_by-requires-clause-to_bound : goal.move_by-requires-clause-to_bound
move_by-requires-clause-to_bound c =
    within_bound c.args.by (get_or c.loop-at.members c.loop-at.at c.index-members-at.result).local.post.bound
    (subst (λ (m : Member). is_within c.args.by m.local.post.bound ≡ true) (sym (here c))
    (all-get_or (λ m. is_within c.args.by m.local.post.bound) c.args.members.now c.loop-at.at c.index-members-at.result c.loop-at-test.true c.requires.to_bound))

pub loop-at-preserved : goal.loop-at-preserved
loop-at-preserved c =
    one_moved c.args.by c.loop-at.at c.args.members.now c.loop-at.members c.index-members-at.result c.move_by.new.self c.loop-at-test.true
    c.loop-at.invariant (record { each = c.move_by.ensures })

pub returns : goal.returns
returns c clock qs all = all_moved c.args.by c.loop-at.at c.args.members.now c.loop-at.members clock qs c.loop-at-test.false c.loop-at.invariant all
