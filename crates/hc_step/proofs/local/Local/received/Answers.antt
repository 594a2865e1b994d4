use Rattle.std.proofs.Common.{◌≡◌, ap, sym, subst, ◌∙◌, true, Some, ℕ}
use Rattle.std.specs.Prelude.{slice_set}
use Rattle.hc_term.specs.declared.post.Post.{Post}
use Rattle.hc_term.specs.declared.model.Mark.TheVariants.{Going}
use Rattle.hc_term.specs.declared.model.ProcessState.{ProcessState}
use Rattle.hc_term.specs.Posts.{receives_on}
use Rattle.hc_code.specs.Stands.{At}
use Rattle.hc_step.specs.declared.meeting.Taken.{Taken}
use Rattle.hc_step.specs.Represents.{Represents}
use Rattle.hc_step.specs.Ways.{ways_of, received_way}
use Rattle.hc_step.proofs.Sees.{agrees_at}
use Rattle.hc_step.proofs.Going.{carried}
use Rattle.hc_step.proofs.Meetings.{received_place, received_leads}
use Rattle.hc_step.proofs.local.Local.received.Goals as goal

pub set_and_go-requires-clause-in_range : goal.set_and_go-requires-clause-in_range
set_and_go-requires-clause-in_range c =
    let l = c.args.self.now in
    let found : received_way c.args.channel (ways_of c.at.result.now) ≡ Some c.in-Some.taken =
    sym (ap (received_way c.args.channel) c.ways_of-ways.ensures) ∙ (sym c.received_way.ensures ∙ c.in-Some.is) in
    (received_place l.variables l.place c.args.channel c.in-Some.taken c.args.code.now.instrs c.at.result.now c.requires.usable c.at.ensures found).variable

pub set_and_go-requires-clause-within : goal.set_and_go-requires-clause-within
set_and_go-requires-clause-within c =
    let l = c.args.self.now in
    let found : received_way c.args.channel (ways_of c.at.result.now) ≡ Some c.in-Some.taken =
    sym (ap (received_way c.args.channel) c.ways_of-ways.ensures) ∙ (sym c.received_way.ensures ∙ c.in-Some.is) in
    (received_place l.variables l.place c.args.channel c.in-Some.taken c.args.code.now.instrs c.at.result.now c.requires.usable c.at.ensures found).place

pub returns-in-Some-clause-received : goal.returns-in-Some-clause-received
returns-in-Some-clause-received c t clock q all r offered =
    let l = c.args.self.now in
    let i = c.at.result.now in
    let code = c.args.code.now.instrs in
    let k = received_leads t c.args.channel clock c.args.value q q.store q.mark q.todo i
    (agrees_at t t code l.place q.todo i all r.at_place c.at.ensures)
    (subst (λ (p : Post). receives_on c.args.channel p.offers ≡ true) r.same_post offered) in
    let found : received_way c.args.channel (ways_of i) ≡ Some c.in-Some.taken =
    sym (ap (received_way c.args.channel) c.ways_of-ways.ensures) ∙ (sym c.received_way.ensures ∙ c.in-Some.is) in
    let same : k.takes.taken ≡ c.in-Some.taken = let e : Some k.takes.taken ≡ Some c.in-Some.taken = sym k.takes.is ∙ found in cc in
    let sets : c.in-Some.taken.variable ≡ k.variable = sym (ap (λ (x : Taken). x.variable) same) ∙ k.takes.sets in
    subst (λ (p : ProcessState). Represents t clock c.set_and_go.new.self p)
    (ap (λ (x : ℕ). record q { todo = k.rest; store = slice_set q.store x c.args.value; mark = Going }) sets ∙ sym k.same)
    (c.set_and_go.ensures.stands t clock q k.rest all (subst (λ (x : Taken). At t x.next k.rest) same k.takes.at) (carried t clock l q r))

pub returns-in_default-clause-received : goal.returns-in_default-clause-received
returns-in_default-clause-received c t clock q all r offered =
    let l = c.args.self.now in
    let i = c.at.result.now in
    let code = c.args.code.now.instrs in
    let k = received_leads t c.args.channel clock c.args.value q q.store q.mark q.todo i
    (agrees_at t t code l.place q.todo i all r.at_place c.at.ensures)
    (subst (λ (p : Post). receives_on c.args.channel p.offers ≡ true) r.same_post offered) in
    absurd (c.in_default.not-Some k.takes.taken (c.received_way.ensures ∙ (ap (received_way c.args.channel) c.ways_of-ways.ensures ∙ k.takes.is)))
