use Rattle.std.proofs.Common.{rules, ◌≡◌, ◌<◌, ◌+◌, ap, subst, ◌∙◌, Bool, true, false, length, vec_len, arith}
use Rattle.hc_term.specs.declared.model.Configuration.{Configuration}
use Rattle.hc_term.specs.Step.{ready}
use Rattle.hc_joint.specs.Stands.{IsAt}
use Rattle.hc_joint.specs.Parts.{room, Meets}
use Rattle.hc_joint.proofs.Events.{under_start, under_next, under_left, under_none, met_more, under_limit, quiet_here, under_waits}
use Rattle.hc_joint.proofs.scene.Scene.meet_and_wait.Goals as goal

pub loop-left-init : goal.loop-left-init
loop-left-init c =
    let s = c.args.self.now in
    let counted : vec_len s.history ≡ length s.history.items = search rules in
    record {
      counted = omega (arith, counted, c.len-left.ensures);
      course = λ before at. under_start s before at;
    }

pub meet-requires-clause-at : goal.meet-requires-clause-at
meet-requires-clause-at c =
    let u = c.loop-left.invariant.course c.requires.at.0 c.requires.at.1 in
    (u.reached, u.follows.at)

pub wait-requires-clause-quiet : goal.wait-requires-clause-quiet
wait-requires-clause-quiet c =
    let now = c.loop-left.self in
    let mid = c.meet.new.self in
    let not_met : c.meet.result ≡ false = search rules in
    let meets = subst (λ (b : Bool). (d : Configuration) → IsAt now d → Meets now mid d (ready now.task d) b) not_met c.meet.ensures in
    quiet_here c.args.self.now now mid c.requires.at.0 (c.loop-left.invariant.course c.requires.at.0 c.requires.at.1) meets

pub returns-then-not-meet : goal.returns-then-not-meet
returns-then-not-meet c before at =
    let s = c.args.self.now in
    let now = c.loop-left.self in
    let mid = c.meet.new.self in
    let u = c.loop-left.invariant.course before at in
    let left : 0 < room now = under_left s now c.loop-left._left c.loop-left.invariant.counted c.loop-left-test.true before u in
    let not_met : c.meet.result ≡ false = search rules in
    let meets = subst (λ (b : Bool). (d : Configuration) → IsAt now d → Meets now mid d (ready now.task d) b) not_met c.meet.ensures in
    under_waits s now mid c.wait.new.self c.wait.result left meets c.wait.ensures before u

pub loop-left-preserved : goal.loop-left-preserved
loop-left-preserved c =
    let s = c.args.self.now in
    let now = c.loop-left.self in
    let mid = c.meet.new.self in
    let u = c.loop-left.invariant.course c.requires.at.0 c.requires.at.1 in
    let left : 0 < room now = under_left s now c.loop-left._left c.loop-left.invariant.counted c.loop-left-test.true c.requires.at.0 u in
    let is_met : c.meet.result ≡ true = search rules in
    let meets = subst (λ (b : Bool). (d : Configuration) → IsAt now d → Meets now mid d (ready now.task d) b) is_met c.meet.ensures in
    record {
      counted = met_more s now mid meets c.requires.at.0 u ∙ ap (λ n. n + 1) c.loop-left.invariant.counted;
      course = λ before at. under_next s now mid left meets before (c.loop-left.invariant.course before at);
    }

pub returns : goal.returns
returns c before at =
    let s = c.args.self.now in
    let now = c.loop-left.self in
    let u = c.loop-left.invariant.course before at in
    under_limit s now (under_none s now c.loop-left._left c.loop-left.invariant.counted c.loop-left-test.false before u) before u
