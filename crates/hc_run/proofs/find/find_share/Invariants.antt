-- No share that was looked at has an able lane.
use Rattle.std.proofs.Common.{◌≤◌, ◌<◌, ℕ, length}
use Rattle.std.specs.Prelude.{slice_index_or}
use Rattle.hc_term.specs.declared.model.Configuration.{Configuration}
use Rattle.hc_joint.specs.Keeps.{IsReached}
use Rattle.hc_run.specs.Lanes.{NoneIsAble}
use Rattle.hc_run.specs.declared.share.Share.{Share}
use Rattle.hc_run.proofs.find.find_share.Given as goal

abbrev pub invariant-loop-at : goal.invariant-loop-at
invariant-loop-at l = (c : Configuration) → IsReached l.joint c →
    (k : ℕ) → l.start ≤ k → k < l.at → (d : Share) → NoneIsAble c (slice_index_or l.shares k d).lanes.items

abbrev pub invariant-loop-before : goal.invariant-loop-before
invariant-loop-before l = record {
  after : (c : Configuration) → IsReached l.joint c →
      (k : ℕ) → l.start ≤ k → k < length l.shares → (d : Share) → NoneIsAble c (slice_index_or l.shares k d).lanes.items;
  first : (c : Configuration) → IsReached l.joint c →
      (k : ℕ) → k < l.before → (d : Share) → NoneIsAble c (slice_index_or l.shares k d).lanes.items;
}
