use Rattle.std.proofs.Common.{◌≡◌, ◌≢◌, ap, sym, subst, ◌∙◌, Some, None, ℕ}
use Rattle.hc_term.specs.declared.post.Post.{Post}
use Rattle.hc_term.specs.Posts.{sent_on}
use Rattle.hc_term.specs.Communication.{sent_at}
use Rattle.hc_code.specs.Stands.{At}
use Rattle.hc_step.specs.Ways.{ways_of, sent_way}
use Rattle.hc_step.proofs.Sees.{agrees_at}
use Rattle.hc_step.proofs.Going.{carried}
use Rattle.hc_step.proofs.Meetings.{sent_place, sent_leads}
use Rattle.hc_step.proofs.local.Local.sent.Goals as goal

pub go-requires : goal.go-requires
go-requires c =
    let l = c.args.self.now in
    let found : sent_way c.args.channel (ways_of c.at.result.now) ≡ Some c.in-Some.next =
    sym (ap (sent_way c.args.channel) c.ways_of-ways.ensures) ∙ (sym c.sent_way.ensures ∙ c.in-Some.is) in
    sent_place l.variables l.place c.args.channel c.in-Some.next c.args.code.now.instrs c.at.result.now c.requires.usable c.at.ensures found

pub returns-in-Some-clause-sent : goal.returns-in-Some-clause-sent
returns-in-Some-clause-sent c t clock q all r offered =
    let l = c.args.self.now in
    let i = c.at.result.now in
    let k = sent_leads t c.args.channel clock q.store q.mark q.todo i (agrees_at t t c.args.code.now.instrs l.place q.todo i all r.at_place c.at.ensures)
    (subst (λ (p : Post). sent_on c.args.channel p.offers ≢ None) r.same_post offered) in
    let found : sent_way c.args.channel (ways_of i) ≡ Some c.in-Some.next =
    sym (ap (sent_way c.args.channel) c.ways_of-ways.ensures) ∙ (sym c.sent_way.ensures ∙ c.in-Some.is) in
    let same : k.next ≡ c.in-Some.next = let e : Some k.next ≡ Some c.in-Some.next = sym k.is ∙ found in cc in
    c.go.ensures.stands t clock q (sent_at c.args.channel q.todo) all (subst (λ (n : ℕ). At t n (sent_at c.args.channel q.todo)) same k.at)
    (carried t clock l q r)

pub returns-in_default-clause-sent : goal.returns-in_default-clause-sent
returns-in_default-clause-sent c t clock q all r offered =
    let l = c.args.self.now in
    let i = c.at.result.now in
    let k = sent_leads t c.args.channel clock q.store q.mark q.todo i (agrees_at t t c.args.code.now.instrs l.place q.todo i all r.at_place c.at.ensures)
    (subst (λ (p : Post). sent_on c.args.channel p.offers ≢ None) r.same_post offered) in
    absurd (c.in_default.not-Some k.next (c.sent_way.ensures ∙ (ap (sent_way c.args.channel) c.ways_of-ways.ensures ∙ k.is)))
