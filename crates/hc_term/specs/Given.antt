-- What a task was made of.
use Rattle.std.specs.Prelude.{◌≡◌, ℕ}
use Rattle.hc_rational.specs.Words.{Rational}
use Rattle.hc_term.specs.declared.system.System.{System}
use Rattle.hc_term.specs.declared.task.Task.{Task}

-- the task has this system, seed, horizon and limit
pub record HasParts (system : System) (seed : ℕ) (horizon : Rational) (limit : ℕ) (task : Task) : Type 0 where
  pub same_system : task.system ≡ system
  pub same_seed : task.seed ≡ seed
  pub same_horizon : task.horizon ≡ horizon
  pub same_limit : task.limit ≡ limit
