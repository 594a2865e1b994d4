use Rattle.std.proofs.Common.{◌<◌, ◌∙◌, sym, ap, Some, arith}
use Rattle.hc_term.specs.declared.run.Stop.{Stop}
use Rattle.hc_board.specs.declared.delayed.Delayed.TheVariants as said
use Rattle.hc_joint.specs.Parts.{room}
use Rattle.hc_joint.proofs.Halting.{looked, never_unfit, never_took, stops_not, stops_at_rest, stops_at_horizon}
use Rattle.hc_joint.proofs.scene.Scene.stop_after_delay.Goals as goal

pub returns-then-is_some-clause-stop : goal.returns-then-is_some-clause-stop
returns-then-is_some-clause-stop c at is over =
    let left : 0 < room c.args.self.now = omega (arith, is.within, c.if-len-self.false, c.len.ensures) in
    stops_not c.args.self.now at is (room c.args.self.now) c.least_able.result left
    c.least_able.ensures (sym c.is_some.ensures ∙ c.if-is_some.true)

pub unreachable-requires : goal.unreachable-requires
unreachable-requires c =
    never_unfit c.args.self.now c.requires.0 c.requires.1 c.least_able.result
    (looked c.args.self.now c.requires.0 c.requires.1 c.least_able.result said.Unfit c.is_some.result c.least_able.ensures c.is_some.ensures
    c.if-is_some.false c.in-Unfit.ensures.answer)
    c.requires.2

pub unreachable-requires-in-Took : goal.unreachable-requires-in-Took
unreachable-requires-in-Took c =
    never_took c.args.self.now c.requires.0 c.requires.1 c.least_able.result c.in-Took.field-0
    (looked c.args.self.now c.requires.0 c.requires.1 c.least_able.result (said.Took c.in-Took.field-0) c.is_some.result c.least_able.ensures c.is_some.ensures
    c.if-is_some.false c.in-Took.ensures.answer)
    c.requires.2

pub returns-in-NoBound-clause-stop : goal.returns-in-NoBound-clause-stop
returns-in-NoBound-clause-stop c at is over =
    let left : 0 < room c.args.self.now = omega (arith, is.within, c.if-len-self.false, c.len.ensures) in
    ap (λ (stop : Stop). Some stop) (c.end_of_rest.ensures at (ap (λ b. b.posts) c.in-NoBound.ensures.after ∙ is.shown))
    ∙ stops_at_rest c.args.self.now at is (room c.args.self.now) c.least_able.result left
    (looked c.args.self.now at is c.least_able.result said.NoBound c.is_some.result c.least_able.ensures c.is_some.ensures
    c.if-is_some.false c.in-NoBound.ensures.answer)
    over

pub returns-in-AtHorizon-clause-stop : goal.returns-in-AtHorizon-clause-stop
returns-in-AtHorizon-clause-stop c at is over =
    let left : 0 < room c.args.self.now = omega (arith, is.within, c.if-len-self.false, c.len.ensures) in
    stops_at_horizon c.args.self.now at is (room c.args.self.now) c.least_able.result left
    (looked c.args.self.now at is c.least_able.result said.AtHorizon c.is_some.result c.least_able.ensures c.is_some.ensures
    c.if-is_some.false c.in-AtHorizon.ensures.answer)
    over
