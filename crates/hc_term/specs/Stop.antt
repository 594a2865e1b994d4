-- Where a run stops, and behaviours.
use Rattle.std.specs.Prelude.{◌≡◌, ◌<◌, ℕ, true, false, List, length, Some, None, ◌⊎◌}
use Rattle.hc_term.specs.declared.task.Task.{Task}
use Rattle.hc_term.specs.declared.run.Item.{Item}
use Rattle.hc_term.specs.declared.run.Stop.{Stop}
use Rattle.hc_term.specs.declared.run.Stop.TheVariants.{Terminated, Deadlock, Horizon, Limit, Overflow}
use Rattle.hc_term.specs.declared.model.Configuration.{Configuration}
use Rattle.hc_term.specs.Silent.{Outcome}
use Rattle.hc_term.specs.Silent as silent
use Rattle.hc_term.specs.Posts.{NoBound, AtHorizon, Overflows}
use Rattle.hc_term.specs.Step.{all_ended, passing, silent_of, IsRun}

-- what a stop other than Limit says of a configuration
abbrev pub StopsAt : Task → Configuration → Stop → Type 0
StopsAt t c Limit = ⊥
StopsAt t c (Overflow (Some p)) = silent_of t c p ≡ silent.Unfit
StopsAt t c (Overflow None) = passing t c ≡ Some Overflows
StopsAt t c Terminated = all_ended c.processes ≡ true
StopsAt t c Deadlock = (passing t c ≡ Some NoBound) × (all_ended c.processes ≡ false)
StopsAt t c Horizon = passing t c ≡ Some AtHorizon

-- the stops after n steps: at the limit Limit and no other, before it each that holds
abbrev pub Stops : Task → ℕ → Configuration → Stop → Type 0
Stops t n c stop = ((n ≡ t.limit) × (stop ≡ Limit)) ⊎ ((n < t.limit) × StopsAt t c stop)

-- a run with one of its stops
pub record IsBehaviour (t : Task) (items : List Item) (end : Configuration) (stop : Stop) : Type 0 where
  pub run : IsRun t items end
  pub stops : Stops t (length items) end stop
