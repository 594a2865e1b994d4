use Rattle.std.proofs.Common.{◌∙◌, ◌-◌, refl, sym, ap, Some}
use Rattle.hc_term.specs.declared.run.Stop.{Stop}
use Rattle.hc_term.specs.Step.{delayed}
use Rattle.hc_board.specs.declared.delayed.Delayed.TheVariants as said
use Rattle.hc_joint.specs.Parts.{room}
use Rattle.hc_joint.proofs.Halting.{looked, quiet_answers, quiet_takes, comes_not, comes_to_rest, comes_to_horizon, comes_to_overflow, is_passing, over_after, comes_after}
use Rattle.hc_joint.proofs.scene.Scene.wait.Goals as goal

pub returns-then-is_some : goal.returns-then-is_some
returns-then-is_some c at is quiet =
    let s = c.args.self.now in
    comes_not s at is s (room s - 1) (record { task = refl; items = refl; members = refl; clock = refl }) refl c.least_able.result
    c.least_able.ensures (sym c.is_some.ensures ∙ c.if-is_some.true)

pub returns-in-NoBound : goal.returns-in-NoBound
returns-in-NoBound c at is quiet =
    let s = c.args.self.now in
    comes_to_rest s at is _ (room s - 1) (record { task = refl; items = refl; members = refl; clock = refl }) c.in-NoBound.ensures.after
    (Some c.end_of_rest.result)
    (quiet_answers s at is c.least_able.result said.NoBound
    (looked s at is c.least_able.result said.NoBound c.is_some.result c.least_able.ensures c.is_some.ensures
    c.if-is_some.false c.in-NoBound.ensures.answer)
    quiet)
    (ap (λ (stop : Stop). Some stop) (c.end_of_rest.ensures at (ap (λ b. b.posts) c.in-NoBound.ensures.after ∙ is.shown)))

pub returns-in-AtHorizon : goal.returns-in-AtHorizon
returns-in-AtHorizon c at is quiet =
    let s = c.args.self.now in
    comes_to_horizon s at is _ (room s - 1) (record { task = refl; items = refl; members = refl; clock = refl }) c.in-AtHorizon.ensures.after
    (quiet_answers s at is c.least_able.result said.AtHorizon
    (looked s at is c.least_able.result said.AtHorizon c.is_some.result c.least_able.ensures c.is_some.ensures
    c.if-is_some.false c.in-AtHorizon.ensures.answer)
    quiet)

pub returns-in-Unfit : goal.returns-in-Unfit
returns-in-Unfit c at is quiet =
    let s = c.args.self.now in
    comes_to_overflow s at is _ (room s - 1) (record { task = refl; items = refl; members = refl; clock = refl }) c.in-Unfit.ensures.after
    (quiet_answers s at is c.least_able.result said.Unfit
    (looked s at is c.least_able.result said.Unfit c.is_some.result c.least_able.ensures c.is_some.ensures
    c.if-is_some.false c.in-Unfit.ensures.answer)
    quiet)

pub let_pass-requires-clause-passes : goal.let_pass-requires-clause-passes
let_pass-requires-clause-passes c =
    let s = c.args.self.now in
    let by = c.in-Took.by in
    let at = c.requires.quiet.0 in
    let is = c.requires.quiet.1 in
    let passes = quiet_takes s at is c.least_able.result by
    (looked s at is c.least_able.result (said.Took by) c.is_some.result c.least_able.ensures c.is_some.ensures
    c.if-is_some.false c.in-Took.ensures.answer)
    c.requires.quiet.2 in
    (at, is_passing s at is by passes _ (record { task = refl; items = refl; members = refl; clock = refl }) c.in-Took.ensures.after)

pub stop_after_delay-requires : goal.stop_after_delay-requires
stop_after_delay-requires c =
    let s = c.args.self.now in
    let by = c.in-Took.by in
    let at = c.requires.quiet.0 in
    let is = c.requires.quiet.1 in
    let passes = quiet_takes s at is c.least_able.result by
    (looked s at is c.least_able.result (said.Took by) c.is_some.result c.least_able.ensures c.is_some.ensures
    c.if-is_some.false c.in-Took.ensures.answer)
    c.requires.quiet.2 in
    let passed = c.let_pass.ensures at
    (is_passing s at is by passes _ (record { task = refl; items = refl; members = refl; clock = refl }) c.in-Took.ensures.after) in (
      delayed by at,
      passed.at,
      over_after s at is by passes _ _ passed (record { task = refl; items = refl; members = refl; clock = refl }),
    )

pub returns-in-Took : goal.returns-in-Took
returns-in-Took c at is quiet =
    let s = c.args.self.now in
    let by = c.in-Took.by in
    let passes = quiet_takes s at is c.least_able.result by
    (looked s at is c.least_able.result (said.Took by) c.is_some.result c.least_able.ensures c.is_some.ensures
    c.if-is_some.false c.in-Took.ensures.answer)
    quiet in
    let passed = c.let_pass.ensures at
    (is_passing s at is by passes _ (record { task = refl; items = refl; members = refl; clock = refl }) c.in-Took.ensures.after) in
    comes_after s at is by passes _ _ passed (record { task = refl; items = refl; members = refl; clock = refl }) _ _ c.stop_after_delay.ensures.same
    (c.stop_after_delay.ensures.stop (delayed by at) passed.at
    (over_after s at is by passes _ _ passed (record { task = refl; items = refl; members = refl; clock = refl })))
