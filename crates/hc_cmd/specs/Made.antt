-- What `make` tells of a made source: how large its run is.
use Rattle.std.specs.Prelude.{◌≡◌, ◌*◌, ℕ, Bool, true, false, List, [], ◌∷◌, ◌++◌, Some, pos, codes, decimal, count_by}
use Rattle.hc_rational.specs.Rational.{whole}
use Rattle.hc_term.specs.declared.run.Step.{Step}
use Rattle.hc_term.specs.declared.run.Step.TheVariants.{Silent, Comm}
use Rattle.hc_term.specs.declared.run.Item.{Item}
use Rattle.hc_term.specs.declared.run.Stop.{Stop}
use Rattle.hc_term.specs.declared.run.Stop.TheVariants.{Terminated, Deadlock, Horizon, Limit, Overflow}
use Rattle.hc_term.specs.declared.system.System.{System}
use Rattle.hc_term.specs.declared.task.Task.{Task}
use Rattle.hc_term.specs.Given.{HasParts}
use Rattle.hc_term.specs.Canonical.{canonical}

abbrev pub is_communication : Step → Bool
is_communication (Comm c v) = true
is_communication _ = false

abbrev pub is_log : Step → Bool
is_log (Silent p (Some v)) = true
is_log _ = false

abbrev pub communications : List Item → ℕ
communications items = count_by (λ i. is_communication i.step) items

abbrev pub logs : List Item → ℕ
logs items = count_by (λ i. is_log i.step) items

-- the word of a stop, as in the end line of a trace
abbrev pub word_of : Stop → List ℕ
word_of Terminated = codes "terminated"
word_of Deadlock = codes "deadlock"
word_of Horizon = codes "horizon"
word_of Limit = codes "limit"
word_of (Overflow p) = codes "overflow"

-- the line of so many pairs of processes with these steps and this stop
abbrev pub line_of : ℕ → List Item → Stop → List ℕ
line_of pairs items stop =
    codes "made " ++ decimal pairs ++ codes " processes " ++ decimal (2 * pairs) ++ codes " communications " ++ decimal (communications items)
    ++ codes " logs " ++ decimal (logs items) ++ codes " end " ++ word_of stop ++ 10 ∷ []

-- what is run of a made source: its system, with seed 0, a horizon of 30,000 time units, and 1,000,000 steps at most
abbrev pub IsMadeTask : System → Task → Type 0
IsMadeTask system task = HasParts system 0 (whole (pos 30000)) 1000000 task

-- this line tells of the canonical run of the system
pub record TellsRun (pairs : ℕ) (system : System) (line : List ℕ) : Type 0 where
  pub task : Task
  pub parts : IsMadeTask system task
  pub says : line ≡ line_of pairs (canonical task).items (canonical task).stop
