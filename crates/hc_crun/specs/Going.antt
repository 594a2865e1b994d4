-- Where a machine stands in the schedule of a seed, and what stands on the sink.
use Rattle.std.specs.Prelude.{◌≡◌, ◌⊎◌, ◌≤◌, ℕ, suc, take, Result, MatchResult}
use Rattle.hc_world.specs.States.{SinkState}
use Rattle.hc_world.specs.Sinks.{IsCut}
use Rattle.hc_world.specs.Pieces.{IsBegun}
use Rattle.hc_cast.specs.declared.program.CProgram.{CProgram}
use Rattle.hc_cmach.specs.declared.exec_end.ExecEnd.{ExecEnd}
use Rattle.hc_cmach.specs.Machine.{scheduled, prints}
use Rattle.hc_cmach.specs.Seeded.{seeded, performed}
use Rattle.hc_cexec.specs.declared.machine.Machine.{Machine}
use Rattle.hc_cexec.specs.Stands.{IsAt}
use Rattle.hc_crun.specs.Told.{told_text}

-- what the items before the last of these print stood whole, if there are any
abbrev pub Stood : {O : Type 0} → (O → SinkState) → O → CProgram → ℕ → ℕ → ℕ → Type 0
Stood {O} state before g seed steps items =
    (items ≡ 0) ⊎ ((done : ℕ) × (items ≡ suc done) × (sink : O) × IsBegun state before sink (prints g (take done (seeded g seed steps))))

-- the machine stands behind some items
pub record IsBehind {O : Type 0} (state : O → SinkState) (before : O) (g : CProgram) (seed steps : ℕ) (m : Machine) : Type 0 where
  pub items : ℕ
  pub within : items ≤ steps
  pub at : IsAt g m (scheduled g (take items (seeded g seed steps)))
  pub stood : Stood state before g seed steps items

-- it ended as the definition says, and the whole text stands
pub record Went {O : Type 0} (state : O → SinkState) (before after : O) (g : CProgram) (seed steps : ℕ) (m : Machine) (end : ExecEnd) : Type 0 where
  pub end_is : end ≡ (performed g seed steps).end
  pub text : IsBegun state before after (told_text g seed steps)
  pub at : IsAt g m (performed g seed steps).state
  pub behind : IsBehind state before g seed steps m

-- a write failed
pub record Stopped {O : Type 0} (state : O → SinkState) (before after : O) (g : CProgram) (seed steps : ℕ) (m : Machine) : Type 0 where
  pub cut : IsCut state before after (told_text g seed steps)
  pub behind : IsBehind state before g seed steps m

-- all items were done up to the end, or a write failed
abbrev pub Goes : {O E : Type 0} → (O → SinkState) → O → O → CProgram → ℕ → ℕ → Machine → Result ExecEnd E → Type 0
Goes state before after g seed steps m result =
    MatchResult result (Went state before after g seed steps m) (λ _. Stopped state before after g seed steps m)
