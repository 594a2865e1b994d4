-- What is told of a program under the schedule of a seed.
use Rattle.std.specs.Prelude.{◌≡◌, ◌⊎◌, ◌≤◌, ℕ, suc, List, take, Result, Ok, Err, MatchResult}
use Rattle.hc_world.specs.States.{SinkState}
use Rattle.hc_world.specs.Sinks.{IsWhole, IsCut}
use Rattle.hc_world.specs.Pieces.{IsBegun}
use Rattle.hc_cast.specs.declared.program.CProgram.{CProgram}
use Rattle.hc_cmach.specs.declared.exec_end.ExecEnd.{ExecEnd}
use Rattle.hc_cmach.specs.Machine.{scheduled, prints, printed_by}
use Rattle.hc_cmach.specs.Seeded.{seeded, performed}
use Rattle.hc_cexec.specs.Stands.{counted}
use Rattle.hc_crun.specs.declared.executing.ExecStop.{ExecStop}
use Rattle.hc_crun.specs.declared.executing.ExecStop.TheVariants as stop

-- what is printed under the schedule of the seed: all of it, or up to the first end line or the first undefined step
abbrev pub told_text : CProgram → ℕ → ℕ → List ℕ
told_text g seed steps = printed_by g (performed g seed steps).state

-- it ended as the definition says, the whole text stands and is flushed, and the steps that moved are counted
pub record IsTold {O : Type 0} (state : O → SinkState) (before after : O) (g : CProgram) (seed steps moved : ℕ) (end : ExecEnd) : Type 0 where
  pub end_is : end ≡ (performed g seed steps).end
  pub text : IsWhole state before after (told_text g seed steps)
  pub moved_is : moved ≡ counted (performed g seed steps).state.moved

-- Where the writing fails: a first part of the text stands, a write or a flush failed, and so many steps had moved after
-- some items; what is printed by all but the last of these stood whole.
pub record IsCutShort {O : Type 0} (state : O → SinkState) (before after : O) (g : CProgram) (seed steps moved : ℕ) : Type 0 where
  pub cut : IsCut state before after (told_text g seed steps)
  pub items : ℕ
  pub within : items ≤ steps
  pub moved_is : moved ≡ counted (scheduled g (take items (seeded g seed steps))).moved
  pub stood : (items ≡ 0) ⊎ ((done : ℕ) × (items ≡ suc done) × (sink : O) × IsBegun state before sink (prints g (take done (seeded g seed steps))))

-- what is told by a machine that was opened
abbrev pub Tells : {O E : Type 0} → (O → SinkState) → O → O → CProgram → ℕ → ℕ → ℕ → Result ExecEnd E → Type 0
Tells state before after g seed steps moved result =
    MatchResult result (IsTold state before after g seed steps moved) (λ _. IsCutShort state before after g seed steps moved)

-- the same; or memory ran out before anything was done
abbrev pub Executes : {O : Type 0} → (O → SinkState) → O → O → CProgram → ℕ → ℕ → ℕ → ℕ → Result ExecEnd ExecStop → Type 0
Executes state before after g seed steps old moved (Ok end) = IsTold state before after g seed steps moved end
Executes state before after g seed steps old moved (Err stop.Memory) = (after ≡ before) × (moved ≡ old)
Executes state before after g seed steps old moved (Err stop.Failed) = IsCutShort state before after g seed steps moved
