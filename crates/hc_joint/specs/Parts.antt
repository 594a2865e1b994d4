-- What came of an event, or of a part of one.
use Rattle.std.specs.Prelude.{◌≡◌, ◌-◌, ◌++◌, [], ◌∷◌, ℕ, Bool, true, false, List, length, Option, Some, None}
use Rattle.hc_term.specs.declared.run.Step.TheVariants.{Comm}
use Rattle.hc_term.specs.declared.run.Item.{Item}
use Rattle.hc_term.specs.declared.run.Stop.{Stop}
use Rattle.hc_term.specs.declared.run.StretchEnd.{StretchEnd}
use Rattle.hc_term.specs.declared.model.Meeting.{Meeting}
use Rattle.hc_term.specs.declared.model.Configuration.{Configuration}
use Rattle.hc_term.specs.Moved.{fired}
use Rattle.hc_term.specs.Step.{posts, replaced, met}
use Rattle.hc_term.specs.Event.{Progress, Event, silent_items}
use Rattle.hc_member.specs.States.{AllIn}
use Rattle.hc_joint.specs.declared.scene.Scene.{Scene}
use Rattle.hc_joint.specs.Stands.{IsAt}

-- how many steps are left to the limit
abbrev pub room : Scene → ℕ
room s = s.task.limit - length s.history.items

-- the new scene stands for this configuration, with these items behind those of the old one
pub record Follows (old new : Scene) (more : List Item) (c : Configuration) : Type 0 where
  pub task : new.task ≡ old.task
  pub items : new.history.items ≡ old.history.items ++ more
  pub at : IsAt new c

-- the event took place, or so much of one, and this stop was set
pub record Comes (old new : Scene) (e : Event) (set : Option Stop) : Type 0 where
  pub follows : Follows old new e.items e.end
  pub stop : set ≡ e.stop

-- the steps of process p are behind the history, and it is in the state after them
pub record Runs (p : ℕ) (old new : Scene) (end : StretchEnd) (c : Configuration) (g : Progress) : Type 0 where
  pub follows : Follows old new (silent_items c.clock p g.logs) (replaced c p g.next)
  pub ended : end ≡ g.end

-- where no channel is ready nothing changes; else the meeting takes place
abbrev pub Meets : Scene → Scene → Configuration → Option Meeting → Bool → Type 0
Meets old new c None met_some = (met_some ≡ false) × (new ≡ old)
Meets old new c (Some m) met_some =
    (met_some ≡ true) × Follows old new (record { at = c.clock; step = Comm m.channel m.value } ∷ []) (met m c)

-- The two that met in c were told, and nothing else changed but the board, where they show what their new states show.
pub record IsTold (m : Meeting) (c : Configuration) (old new : Scene) : Type 0 where
  pub task : new.task ≡ old.task
  pub history : new.history ≡ old.history
  pub clock : new.clock ≡ old.clock
  pub channels : new.board.channels ≡ old.board.channels
  pub members : AllIn c.clock new.members.items (met m c).processes
  pub shown : old.board.posts ≡ fired m (posts c) → new.board.posts ≡ posts (met m c)
