-- What the lanes of a worker are.
use Rattle.std.specs.Prelude.{◌≡◌, ◌==◌, ◌%◌, ◌<◌, ℕ, Bool, List, All, true, false, length, slice_index_or}
use Rattle.std.specs.List.{list_any}
use Rattle.hc_term.specs.declared.model.Configuration.{Configuration}
use Rattle.hc_joint.specs.Able.{is_able}
use Rattle.hc_run.specs.declared.share.Lane.{Lane}

-- the process has a lane
abbrev pub has_lane : ℕ → List Lane → Bool
has_lane p lanes = list_any (λ lane. lane.process == p) lanes

-- the lanes are of the worker's processes, and each of those below this number has one
pub record AreOf (used worker processes : ℕ) (lanes : List Lane) : Type 0 where
  pub mine : All (λ lane. lane.process % used ≡ worker) lanes
  pub all : (p : ℕ) → p < processes → p % used ≡ worker → has_lane p lanes ≡ true

-- no lane's process has a silent step
abbrev pub NoneIsAble : Configuration → List Lane → Type 0
NoneIsAble c lanes = (k : ℕ) → k < length lanes → (d : Lane) → is_able (slice_index_or lanes k d).process c.processes ≡ false
