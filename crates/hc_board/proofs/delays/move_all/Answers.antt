use Rattle.std.proofs.Common.{◌≡◌, ℕ, List, true, sym, ap, ap₂, subst, ◌∙◌, add-one}
use Rattle.std.proofs.Math.ListN.{set}
use Rattle.hc_rational.specs.Words.{Rational}
use Rattle.hc_term.specs.declared.post.Post.{Post}
use Rattle.hc_term.specs.Offers.{going_post}
use Rattle.hc_term.specs.Posts.{post_fits}
use Rattle.hc_term.specs.Moved.{moved_post}
use Rattle.hc_term.proofs.Fronts.{front, get_or-front, set-front, front-all, all-get_or}
use Rattle.hc_board.specs.MeetingBoard.{shown}
use Rattle.hc_board.proofs.delays.move_all.Goals as goal

-- the post at hand is still as it was at the start
here : (by : Rational) (at : ℕ) (ps qs : List Post) → qs ≡ front (moved_post by) at ps → shown qs at ≡ shown ps at
here by at ps qs e = ap (λ rs. shown rs at) e ∙ get_or-front (moved_post by) at ps going_post

pub move_post-requires-clause-fits : goal.move_post-requires-clause-fits
move_post-requires-clause-fits c =
    subst (λ (p : Post). post_fits c.args.by p ≡ true) (sym (here c.args.by c.loop-at.at c.args.posts.now c.loop-at.posts c.loop-at.invariant.moved))
    (all-get_or (post_fits c.args.by) c.args.posts.now c.loop-at.at going_post c.loop-at-test.true c.requires.fits)

pub loop-at-preserved : goal.loop-at-preserved
loop-at-preserved c =
    let f = moved_post c.args.by in
    let ps = c.args.posts.now in
    record {
      moved =
          c.move_post.ensures.posts
          ∙ (ap₂ (λ qs q. set qs c.loop-at.at q) c.loop-at.invariant.moved (ap f (here c.args.by c.loop-at.at ps c.loop-at.posts c.loop-at.invariant.moved))
          ∙ (set-front f c.loop-at.at ps going_post c.loop-at-test.true ∙ ap (λ n. front f n ps) (sym (add-one c.loop-at.at))));
      index = c.move_post.ensures.index;
      deadlines = c.move_post.ensures.deadlines;
    }

pub returns : goal.returns
returns c = record {
  posts = c.loop-at.invariant.moved ∙ front-all (moved_post c.args.by) c.loop-at.at c.args.posts.now c.loop-at-test.false;
  index = c.loop-at.invariant.index;
  deadlines = c.loop-at.invariant.deadlines;
}
