-- Which workers are to be woken.
use Rattle.std.specs.Prelude.{◌≡◌, ◌≢◌, ◌⊎◌, ◌<◌, ◌%◌, ℕ, Bool, List, true, false, length, slice_index_or, None}
use Rattle.hc_term.specs.declared.model.Configuration.{Configuration}
use Rattle.hc_joint.specs.Able.{is_able}
use Rattle.hc_joint.specs.Seen.{Seen}

-- Where the history leads to c: marked are all workers at a stop, each worker with a process that has a silent step, and no
-- others. Process p is of worker number p modulo the number of workers.
pub record AreWanted (s : Seen) (used : ℕ) (marks : List Bool) (c : Configuration) : Type 0 where
  pub stop : s.stop ≢ None → (w : ℕ) → w < 64 → slice_index_or marks w false ≡ true
  pub able_ones : (p : ℕ) → p < length s.task.system.processes → is_able p c.processes ≡ true → slice_index_or marks (p % used) false ≡ true
  pub no_others : (w : ℕ) → w < 64 → slice_index_or marks w false ≡ true
      → (s.stop ≢ None) ⊎ ((p : ℕ) × (p % used ≡ w) × (is_able p c.processes ≡ true))
