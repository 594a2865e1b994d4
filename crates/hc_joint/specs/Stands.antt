-- The configuration for which the members, the board and the clock stand.
use Rattle.std.specs.Prelude.{◌≡◌, ◌≤◌, length, map, Some}
use Rattle.hc_rational.specs.Words.{Rational}
use Rattle.hc_term.specs.declared.model.Configuration.{Configuration}
use Rattle.hc_term.specs.Posts.{Took}
use Rattle.hc_term.specs.Moved.{moved_post}
use Rattle.hc_term.specs.Step.{opening, posts, passing, Leads}
use Rattle.hc_member.specs.States.{AllIn}
use Rattle.hc_joint.specs.declared.scene.Scene.{Scene}

-- The members, the board and the clock stand for the configuration c, to which the history leads from the opening of the
-- task.
pub record IsAt (s : Scene) (c : Configuration) : Type 0 where
  pub leads : Leads s.task (opening s.task) s.history.items c
  pub within : length s.history.items ≤ s.task.limit
  pub members : AllIn c.clock s.members.items c.processes
  pub shown : s.board.posts ≡ posts c
  pub channels : s.board.channels ≡ length s.task.system.channels
  pub clock : s.clock ≡ c.clock

-- they stand for some configuration
abbrev pub IsSomewhere : Scene → Type 0
IsSomewhere s = (c : Configuration) × IsAt s c

-- They stand for c, in which so much time passes, but for the board, which has moved already.
pub record IsPassing (s : Scene) (c : Configuration) (by : Rational) : Type 0 where
  pub leads : Leads s.task (opening s.task) s.history.items c
  pub within : length s.history.items ≤ s.task.limit
  pub members : AllIn c.clock s.members.items c.processes
  pub shown : s.board.posts ≡ map (moved_post by) (posts c)
  pub channels : s.board.channels ≡ length s.task.system.channels
  pub clock : s.clock ≡ c.clock
  pub passes : passing s.task c ≡ Some (Took by)
