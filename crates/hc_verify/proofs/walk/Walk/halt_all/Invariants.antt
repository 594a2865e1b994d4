use Rattle.std.proofs.Common.{◌≡◌, ◌≤◌, length}
use Rattle.hc_term.specs.declared.model.Configuration.{Configuration}
use Rattle.hc_verify.specs.Stands.{IsAt}
use Rattle.hc_verify.proofs.Stilling.{Underway}
use Rattle.hc_verify.proofs.walk.Walk.halt_all.Given as goal

abbrev pub invariant-loop-process : goal.invariant-loop-process
invariant-loop-process l = record {
  within : l.moved ≤ l.room;
  counted : length l.self.members.items ≡ length l.fn.self.members.items;
  course : (c : Configuration) → IsAt l.task.system l.fn.self c → Underway l.task l.process l.moved c l.self;
}
