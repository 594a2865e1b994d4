-- A program at its opening, in the words of the code.
use Rattle.std.specs.Prelude.{◌≡◌, ℕ, ◌+◌, max, List, [], ◌∷◌, ◌++◌, length, map, replicate, pos, Some, None}
use Rattle.hc_cast.specs.declared.program.CProgram.{CProgram}
use Rattle.hc_ccode.specs.declared.code.Code.{Code}
use Rattle.hc_ccode.specs.declared.code.Entry.{Entry}
use Rattle.hc_schedule.specs.declared.status.Status.TheVariants.{Ready}
use Rattle.hc_cmach.specs.State.{empty_row, zeros}
use Rattle.hc_cexec.specs.declared.activation.Activation.{Activation}
use Rattle.hc_cexec.specs.declared.thread.Thread.{Thread}
use Rattle.hc_cexec.specs.declared.kernel.World.{World}

-- the greatest of a number and the numbers of parameters
abbrev pub most_of : ℕ → List Entry → ℕ
most_of n [] = n
most_of n (e ∷ es) = most_of (max n e.params) es

-- a body that nobody has called
abbrev pub idle : Entry → Activation
idle e = record { values = replicate (e.params + e.locals) (pos 0); place = e.start; caller = None; result = None; gives = e.gives }

-- a thread at its first statement
abbrev pub opened : List Entry → Entry → Thread
opened es e = record { row = empty_row; activations = map idle es ++ idle e ∷ []; current = Some (length es); status = Ready }

pub record IsOpened (g : CProgram) (c : Code) (w : World) : Type 0 where
  pub owner : w.owner ≡ None
  pub row : w.row ≡ empty_row
  pub arrays : w.arrays ≡ map (λ a. zeros a.length) g.arrays
  pub threads : w.threads.items ≡ map (opened c.functions) c.threads
  pub arguments : w.arguments ≡ replicate (most_of 6 c.functions) (pos 0)
