use Rattle.std.proofs.Common.{◌≡◌, ◌∙◌, sym, subst, true}
use Rattle.hc_term.specs.declared.post.Post.{Post}
use Rattle.hc_term.specs.Posts.{receives_on}
use Rattle.hc_member.proofs.member.Member.received.Goals as goal

pub returns : goal.returns
returns c p clock q r offers = record {
  number = c.received.ensures.keeps.same_process ∙ r.number;
  table = r.table;
  agrees = r.agrees;
  stands = c.received.ensures.received r.table clock q r.agrees r.stands
      (subst (λ (x : Post). receives_on c.args.channel x.offers ≡ true) (sym r.stands.same_post) offers);
}
