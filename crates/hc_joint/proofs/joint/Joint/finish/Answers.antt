use Rattle.std.proofs.Common.{◌∙◌, sym, ap, subst, refl, arith}
use Rattle.hc_joint.specs.Seen.{Seen}
use Rattle.hc_joint.specs.Keeps.{Keeps}
use Rattle.hc_joint.proofs.Kept.{made_keeps}
use Rattle.hc_joint.proofs.Halting.{none_is}
use Rattle.hc_joint.proofs.Finishing.{begun, turn_goes_on, turn_falls, turn_keeps_task, turn_keeps_recomputed, turn_counts, had_turn}
use Rattle.hc_joint.proofs.joint.Joint.finish.Goals as goal

pub loop-self-init : goal.loop-self-init
loop-self-init c = record {
  task = refl;
  recomputed = refl;
  grown = omega arith;
  course = begun c.args.self.now c.args.self.now.stop refl;
}

pub loop-self-smaller : goal.loop-self-smaller
loop-self-smaller c =
    let j = c.self.inside in
    let now = c.loop-self.self in
    let new = c.forward.new.self in
    let kept = subst Keeps c.self.view_is (made_keeps j.scene j.stop j.turns j.recomputed c.self.invariant) in
    let none = ap (λ (s : Seen). s.stop) (sym c.self.view_is) ∙ none_is j.stop (c.loop-self-test.ensures) in
    turn_falls now new kept none (had_turn now new c.forward.result none c.forward.ensures)

pub loop-self-preserved : goal.loop-self-preserved
loop-self-preserved c =
    let j = c.self.inside in
    let now = c.loop-self.self in
    let new = c.forward.new.self in
    let old = c.args.self.now in
    let kept = subst Keeps c.self.view_is (made_keeps j.scene j.stop j.turns j.recomputed c.self.invariant) in
    let none = ap (λ (s : Seen). s.stop) (sym c.self.view_is) ∙ none_is j.stop (c.loop-self-test.ensures) in
    let turn = had_turn now new c.forward.result none c.forward.ensures in
    record {
      task = turn_keeps_task now new kept none turn ∙ c.loop-self.invariant.task;
      recomputed = turn_keeps_recomputed now new kept none turn ∙ c.loop-self.invariant.recomputed;
      grown = omega (arith, c.loop-self.invariant.grown, turn_counts now new kept none turn);
      course = turn_goes_on now new kept none turn old.stop old refl c.loop-self.invariant.course;
    }
