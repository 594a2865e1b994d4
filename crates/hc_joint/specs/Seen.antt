-- What contracts see of a joint.
use Rattle.std.specs.Prelude.{ℕ, List, Option}
use Rattle.hc_rational.specs.Words.{Rational}
use Rattle.hc_term.specs.declared.task.Task.{Task}
use Rattle.hc_term.specs.declared.run.Item.{Item}
use Rattle.hc_term.specs.declared.run.Stop.{Stop}

-- the task; the clock in time units; all items of the run so far; the stop, where one is set; the number of turns, and
-- of those whose stretch was handed in but worked out anew
pub record Seen : Type 0 where
  pub task : Task
  pub clock : Rational
  pub history : List Item
  pub stop : Option Stop
  pub turns : ℕ
  pub recomputed : ℕ
