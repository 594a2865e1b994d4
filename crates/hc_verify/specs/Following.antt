-- What comes of following one line.
use Rattle.std.specs.Prelude.{◌≡◌, ◌≤◌, ℕ, ◌+◌, true, List, Option, Some, None}
use Rattle.hc_term.specs.declared.task.Task.{Task}
use Rattle.hc_term.specs.declared.run.Item.{Item}
use Rattle.hc_term.specs.declared.model.Configuration.{Configuration}
use Rattle.hc_term.specs.Step.{opening}
use Rattle.hc_order.specs.Shown.{all_visible}
use Rattle.hc_order.specs.Demand.{Follows, OnDemand}
use Rattle.hc_verify.specs.declared.walk.Walk.{Walk}
use Rattle.hc_trace.specs.declared.traces.TraceLine.{TraceLine}
use Rattle.hc_verify.specs.Named.{IsItemOf}
use Rattle.hc_verify.specs.Stands.{IsAt}

-- The walk stands for c, to which moving on demand along some lines leads, and so many steps are left to the limit.
pub record IsReached (t : Task) (w : Walk) (room : ℕ) (c : Configuration) : Type 0 where
  pub lines : List Item
  pub visible : all_visible lines ≡ true
  pub steps : ℕ
  pub follows : OnDemand t lines steps (opening t) c
  pub left : steps + room ≡ t.limit
  pub at : IsAt t.system w c

-- The line was followed from c in so many steps, and the walk stands where it led; or it can't be followed in as many
-- steps as are left.
abbrev pub Followed : Task → Item → ℕ → Configuration → Walk → Option ℕ → Type 0
Followed t line room c new (Some k) = (k ≤ room) × ((d : Configuration) × Follows t line k c d × IsAt t.system new d)
Followed t line room c new None = (k : ℕ) (d : Configuration) → Follows t line k c d → k ≤ room → ⊥

-- so it is with the item that a line names; or the line names none that can be followed so
abbrev pub FollowedLine : Task → TraceLine → ℕ → Configuration → Walk → Option ℕ → Type 0
FollowedLine t line room c new (Some k) = (i : Item) × IsItemOf t.system line i × Followed t i room c new (Some k)
FollowedLine t line room c new None = (i : Item) → IsItemOf t.system line i → Followed t i room c new None
