use Rattle.std.proofs.Common.{refl, sym, ap, ◌∙◌, map, List}
use Rattle.hc_term.specs.declared.post.Post.{Post}
use Rattle.hc_term.specs.Moved.{moved_post}
use Rattle.hc_term.specs.Posts.{passing_on}
use Rattle.hc_board.specs.Seen.{Seen}
use Rattle.hc_board.specs.Able.{least_from}
use Rattle.hc_board.specs.Answers.{answer_of}
use Rattle.hc_verify.proofs.TimePasses.{none_where_able, time_passes, unfired}
use Rattle.hc_verify.proofs.walk.Walk.time.Goals as goal

pub returns-then-is_some-2 : goal.returns-then-is_some-2
returns-then-is_some-2 c before r =
    let w = c.args.self.now in
    let quiet = sym c.is_some.ensures ∙ c.if-is_some.false in
    let same = unfired c.fire.result w.board.posts c.fire.new.self.posts quiet (ap (λ (b : Seen). b.posts) c.fire.ensures.after) in
    none_where_able c.args.task.now w before r w c.fire.result c.least_able.result c.fire.ensures.met
    (c.least_able.ensures ∙ ap (λ (ps : List Post). least_from 0 ps) same) (sym c.is_some-2.ensures ∙ c.if-is_some-2.true)

pub returns-in-Took : goal.returns-in-Took
returns-in-Took c before r =
    let t = c.args.task.now in
    let w = c.args.self.now in
    let by = c.in-Took.by in
    let quiet = sym c.is_some.ensures ∙ c.if-is_some.false in
    let same = unfired c.fire.result w.board.posts c.fire.new.self.posts quiet (ap (λ (b : Seen). b.posts) c.fire.ensures.after) in
    time_passes t w before r _ c.fire.result c.least_able.result c.fire.ensures.met
    (c.least_able.ensures ∙ ap (λ (ps : List Post). least_from 0 ps) same) by quiet (sym c.is_some-2.ensures ∙ c.if-is_some-2.false)
    (c.in-Took.ensures.answer ∙ ap (λ (ps : List Post). answer_of (passing_on w.clock t.horizon ps)) same) refl refl
    (ap (λ (b : Seen). b.posts) c.in-Took.ensures.after ∙ ap (map (moved_post by)) same)
    (ap (λ (b : Seen). b.channels) c.in-Took.ensures.after ∙ ap (λ (b : Seen). b.channels) c.fire.ensures.after)
