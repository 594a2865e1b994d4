-- What a run by threads answers.
use Rattle.std.specs.Prelude.{◌≡◌, ◌+◌, ℕ, List, length, sum, IsSome}
use Rattle.hc_term.specs.declared.task.Task.{Task}
use Rattle.hc_joint.specs.Seen.{Seen}
use Rattle.hc_joint.specs.Keeps.{Keeps}

-- The joint is of this task, and a stop stands. What every joint keeps holds of it: so its history is a run, made of as
-- many events as it has turns. There is a number for each worker, and with the caller's turns they add up to the turns.
pub record IsOutcome (task : Task) (workers : ℕ) (joint : Seen) (turns : List ℕ) (own : ℕ) : Type 0 where
  pub task_is : joint.task ≡ task
  pub stopped : IsSome joint.stop
  pub keeps : Keeps joint
  pub workers_are : length turns ≡ workers
  pub adds_up : sum turns + own ≡ joint.turns
