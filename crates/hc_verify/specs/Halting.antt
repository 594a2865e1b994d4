-- Processes that take all their invisible steps.
use Rattle.std.specs.Prelude.{◌≡◌, ◌<◌, ◌≤◌, ℕ, slice_get, Option, Some, None}
use Rattle.hc_rational.specs.Words.{Rational}
use Rattle.hc_term.specs.declared.task.Task.{Task}
use Rattle.hc_term.specs.declared.run.StretchEnd.{StretchEnd}
use Rattle.hc_term.specs.declared.run.StretchEnd.TheVariants as ends
use Rattle.hc_term.specs.declared.model.ProcessState.{ProcessState}
use Rattle.hc_term.specs.declared.model.Configuration.{Configuration}
use Rattle.hc_term.specs.Silent.{Did, silent}
use Rattle.hc_term.specs.Step.{replaced}
use Rattle.hc_order.specs.Demand.{Strolls, Advances, everyone}
use Rattle.hc_verify.specs.declared.walk.Walk.{Walk}
use Rattle.hc_verify.specs.Stands.{IsAt}

-- process number p has no silent step in this state
abbrev pub HasNoStep : Task → Rational → ℕ → ProcessState → Type 0
HasNoStep t clock p r = (logged : Option Rational) (x : ProcessState) → silent t.seed p clock r ≡ Did logged x → ⊥

-- so it is with all
abbrev pub AreStill : Task → Configuration → Type 0
AreStill t c = (p : ℕ) (r : ProcessState) → slice_get c.processes p ≡ Some r → HasNoStep t c.clock p r

-- Process p took so many invisible steps from q, and has no step left; or it can't have fewer than there is room for.
abbrev pub Halts : Task → ℕ → ℕ → Configuration → ProcessState → Walk → Option ℕ → Type 0
Halts t p room c q new (Some m) =
    (m ≤ room) × ((r : ProcessState) × Strolls t c.clock p m q r × HasNoStep t c.clock p r × IsAt t.system new (replaced c p r))
Halts t p room c q new None = (m : ℕ) (r : ProcessState) → Strolls t c.clock p m q r → HasNoStep t c.clock p r → m < room → ⊥

-- so it is with all processes
abbrev pub AllHalt : Task → ℕ → Configuration → Walk → Option ℕ → Type 0
AllHalt t room c new (Some m) =
    (m ≤ room) × ((d : Configuration) × Advances everyone t m c d × AreStill t d × IsAt t.system new d)
AllHalt t room c new None = (m : ℕ) (d : Configuration) → Advances everyone t m c d → AreStill t d → m < room → ⊥

-- the steps of a stretch that ended where the process has no step, not before a log or where all that were allowed are taken
abbrev pub still_steps : StretchEnd → ℕ → Option ℕ
still_steps ends.Waits n = Some n
still_steps ends.Ended n = Some n
still_steps ends.Unfit n = Some n
still_steps (ends.Logged v) n = None
still_steps ends.Spent n = None
