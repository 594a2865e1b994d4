-- The shares so far are dealt, the last worker's first.
use Rattle.std.proofs.Common.{◌≡◌, ◌<◌, ◌-◌, ℕ, All, length, vec_len}
use Rattle.std.specs.Prelude.{slice_index_or}
use Rattle.hc_run.specs.Lanes.{AreOf}
use Rattle.hc_run.specs.declared.share.Share.{Share}
use Rattle.hc_run.proofs.deal.deal.Given as goal

abbrev pub invariant-loop-dealt : goal.invariant-loop-dealt
invariant-loop-dealt l = record {
  count : vec_len l.shares ≡ l.dealt;
  lanes : All (λ share. AreOf l.used share.worker (length l.task.system.processes) share.lanes.items) l.shares.items;
  workers : (k : ℕ) → k < l.dealt → (d : Share) → (slice_index_or l.shares.items k d).worker ≡ l.used - 1 - k;
}
