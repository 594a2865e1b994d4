use Rattle.std.proofs.Common.{sym, ap, ◌∙◌, List}
use Rattle.hc_term.specs.declared.post.Post.{Post}
use Rattle.hc_term.specs.Posts.{passing_on}
use Rattle.hc_board.specs.Seen.{Seen}
use Rattle.hc_board.specs.Able.{least_from}
use Rattle.hc_board.specs.Answers.{answer_of}
use Rattle.hc_verify.proofs.StandingStill.{none_where_able, time_tells}
use Rattle.hc_verify.proofs.TimePasses.{unfired}
use Rattle.hc_verify.proofs.walk.Walk.passing.Goals as goal

pub returns-then-is_some-2 : goal.returns-then-is_some-2
returns-then-is_some-2 c before at =
    let w = c.args.self.now in
    let quiet = sym c.is_some.ensures ∙ c.if-is_some.false in
    let same = unfired c.fire.result w.board.posts c.fire.new.self.posts quiet (ap (λ (b : Seen). b.posts) c.fire.ensures.after) in
    none_where_able c.args.task.now w before at c.fire.result c.fire.ensures.met c.least_able.result
    (c.least_able.ensures ∙ ap (λ (ps : List Post). least_from 0 ps) same) (sym c.is_some-2.ensures ∙ c.if-is_some-2.true)

pub returns : goal.returns
returns c before at =
    let t = c.args.task.now in
    let w = c.args.self.now in
    let quiet = sym c.is_some.ensures ∙ c.if-is_some.false in
    let same = unfired c.fire.result w.board.posts c.fire.new.self.posts quiet (ap (λ (b : Seen). b.posts) c.fire.ensures.after) in
    time_tells t w before at c.fire.result c.fire.ensures.met c.least_able.result
    (c.least_able.ensures ∙ ap (λ (ps : List Post). least_from 0 ps) same) quiet (sym c.is_some-2.ensures ∙ c.if-is_some-2.false)
    c.delay.result (c.delay.ensures.answer ∙ ap (λ (ps : List Post). answer_of (passing_on w.clock t.horizon ps)) same)
