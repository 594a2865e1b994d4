use Rattle.std.proofs.Common.{◌≢◌, ◌∙◌, sym, subst, None}
use Rattle.hc_term.specs.declared.post.Post.{Post}
use Rattle.hc_term.specs.Posts.{sent_on}
use Rattle.hc_member.proofs.member.Member.sent.Goals as goal

pub returns : goal.returns
returns c p clock q r offers = record {
  number = c.sent.ensures.keeps.same_process ∙ r.number;
  table = r.table;
  agrees = r.agrees;
  stands = c.sent.ensures.sent r.table clock q r.agrees r.stands
      (subst (λ (x : Post). sent_on c.args.channel x.offers ≢ None) (sym r.stands.same_post) offers);
}
