use Rattle.std.proofs.Common.{◌∙◌, arith}
use Rattle.hc_joint.proofs.Stretched.{quiet-push}
use Rattle.hc_joint.proofs.event.push_quiet.Goals as goal

pub loop-step-preserved : goal.loop-step-preserved
loop-step-preserved c = record {
  counted = omega (arith, c.push_silent.ensures.length, c.loop-step.invariant.counted);
  room = c.push_silent.ensures.capacity ∙ c.loop-step.invariant.room;
  items = quiet-push c.args.clock c.args.process c.args.history.now.items c.loop-step.history.items c.push_silent.new.history.items c.loop-step._step
      c.loop-step.invariant.items c.push_silent.ensures.items;
}
