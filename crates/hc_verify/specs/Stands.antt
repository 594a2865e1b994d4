-- The configuration for which the members, the board and the clock of a walk stand.
use Rattle.std.specs.Prelude.{◌≡◌, ℕ, length}
use Rattle.hc_term.specs.declared.system.System.{System}
use Rattle.hc_term.specs.declared.model.Configuration.{Configuration}
use Rattle.hc_term.specs.Step.{posts, replaced}
use Rattle.hc_term.specs.Event.{Progress}
use Rattle.hc_step.specs.declared.stretch.Stretch.{Stretch}
use Rattle.hc_member.specs.States.{AllIn}
use Rattle.hc_verify.specs.declared.walk.Walk.{Walk}

pub record IsAt (sys : System) (w : Walk) (c : Configuration) : Type 0 where
  pub members : AllIn c.clock w.members.items c.processes
  pub shown : w.board.posts ≡ posts c
  pub channels : w.board.channels ≡ length sys.channels
  pub clock : w.clock ≡ c.clock

-- the stretch of process p took the steps that the definition has, and ended so, and the process is in the state after them
pub record Runs (sys : System) (p : ℕ) (new : Walk) (s : Stretch) (c : Configuration) (g : Progress) : Type 0 where
  pub at : IsAt sys new (replaced c p g.next)
  pub counted : s.steps ≡ length g.logs
  pub ended : s.end ≡ g.end
