-- No lane that was looked at is able.
use Rattle.std.proofs.Common.{◌≡◌, ◌≤◌, ◌<◌, ℕ, false, length}
use Rattle.std.specs.Prelude.{slice_index_or}
use Rattle.hc_term.specs.declared.model.Configuration.{Configuration}
use Rattle.hc_joint.specs.Able.{is_able}
use Rattle.hc_joint.specs.Keeps.{IsReached}
use Rattle.hc_run.specs.declared.share.Lane.{Lane}
use Rattle.hc_run.proofs.find.find_lane.Given as goal

abbrev pub invariant-loop-at : goal.invariant-loop-at
invariant-loop-at l = (c : Configuration) → IsReached l.joint c →
    (k : ℕ) → l.start ≤ k → k < l.at → (d : Lane) → is_able (slice_index_or l.lanes k d).process c.processes ≡ false

abbrev pub invariant-loop-before : goal.invariant-loop-before
invariant-loop-before l = record {
  after : (c : Configuration) → IsReached l.joint c →
      (k : ℕ) → l.start ≤ k → k < length l.lanes → (d : Lane) → is_able (slice_index_or l.lanes k d).process c.processes ≡ false;
  first : (c : Configuration) → IsReached l.joint c →
      (k : ℕ) → k < l.before → (d : Lane) → is_able (slice_index_or l.lanes k d).process c.processes ≡ false;
}
