-- How time passes in a walk.
use Rattle.std.specs.Prelude.{◌≡◌, length, map, Bool, true, false, List, Option, Some, None}
use Rattle.hc_rational.specs.Words.{Rational}
use Rattle.hc_term.specs.declared.task.Task.{Task}
use Rattle.hc_term.specs.declared.run.Item.{Item}
use Rattle.hc_term.specs.declared.model.Configuration.{Configuration}
use Rattle.hc_term.specs.Posts.{Took}
use Rattle.hc_term.specs.Moved.{moved_post}
use Rattle.hc_term.specs.Step.{opening, posts, passing, delayed, Leads}
use Rattle.hc_member.specs.States.{AllIn}
use Rattle.hc_verify.specs.declared.walk.Walk.{Walk}
use Rattle.hc_verify.specs.Stands.{IsAt}

-- the walk stands for c, to which a run leads
pub record IsRunTo (t : Task) (w : Walk) (c : Configuration) : Type 0 where
  pub items : List Item
  pub leads : Leads t (opening t) items c
  pub at : IsAt t.system w c

-- It stands for c, in which so much time passes, but for the board, which has moved already.
pub record IsPassing (t : Task) (w : Walk) (c : Configuration) (by : Rational) : Type 0 where
  pub items : List Item
  pub leads : Leads t (opening t) items c
  pub members : AllIn c.clock w.members.items c.processes
  pub shown : w.board.posts ≡ map (moved_post by) (posts c)
  pub channels : w.board.channels ≡ length t.system.channels
  pub clock : w.clock ≡ c.clock
  pub passes : passing t c ≡ Some (Took by)

-- so much time passes in c, and the board has moved by it; or no time passes
abbrev pub Times : Task → Configuration → Walk → Option Rational → Type 0
Times t c new (Some by) = IsPassing t new c by
Times t c new None = (by : Rational) → passing t c ≡ Some (Took by) → ⊥

-- whether so much time passes in c, after which the walk stands
abbrev pub Delays : Task → Configuration → Rational → Walk → Bool → Type 0
Delays t c by new true = (passing t c ≡ Some (Took by)) × IsAt t.system new (delayed by c)
Delays t c by new false = passing t c ≡ Some (Took by) → ⊥
