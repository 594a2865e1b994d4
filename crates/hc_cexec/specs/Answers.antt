-- What a step comes to, in the words of the code.
use Rattle.std.specs.Prelude.{◌≡◌, ℕ, List, length, slice_get, ℤ, Option, Some, None}
use Rattle.hc_ccode.specs.declared.code.Code.{Code}
use Rattle.hc_schedule.specs.declared.status.Status.{Status}
use Rattle.hc_schedule.specs.declared.status.Status.TheVariants.{Ready, Waiting, Woken}
use Rattle.hc_schedule.specs.Threads.{hold}
use Rattle.hc_cprim.specs.declared.deed.Seat.{Seat}
use Rattle.hc_cexec.specs.declared.asked.Asked.{Asked}
use Rattle.hc_cexec.specs.declared.asked.Answer.{Answer}
use Rattle.hc_cexec.specs.declared.asked.Answer.TheVariants as answer
use Rattle.hc_cexec.specs.declared.thread.Thread.{Thread}
use Rattle.hc_cexec.specs.declared.kernel.World.{World}
use Rattle.hc_cexec.specs.Asks.{AsksFor}
use Rattle.hc_cexec.specs.Applied.{is_mine, retaken, settled}

-- the seat is that of thread t
pub record IsSeatOf (w : World) (t channels processes : ℕ) (th : Thread) (seat : Seat) : Type 0 where
  pub thread : seat.thread ≡ t
  pub owns : seat.owns ≡ is_mine (hold w.owner t)
  pub row : seat.row.now ≡ th.row
  pub common : seat.common.now ≡ w.row
  pub channels_are : seat.channels ≡ channels
  pub processes_are : seat.processes ≡ processes

-- thread t asks for this; the values of a call's arguments are there afterwards
pub record AsksOf (c : Code) (w : World) (t channels processes : ℕ) (th : Thread) (there : List ℤ) (x : Asked) : Type 0 where
  pub seat : Seat
  pub is : IsSeatOf w t channels processes th seat
  pub asks : AsksFor c seat w.arrays th there x

-- a thread that is ready gets the answer to what it asks for
pub record AnswersReady (c : Code) (w : World) (t channels processes : ℕ) (th : Thread) (there : List ℤ) (x : Answer) : Type 0 where
  pub asked : Asked
  pub asks : AsksOf c w t channels processes th there asked
  pub is : x ≡ settled w t asked

abbrev pub AnswersBy : Code → World → ℕ → ℕ → ℕ → Thread → List ℤ → Answer → Status → Type 0
AnswersBy c w t channels processes th there x Ready = AnswersReady c w t channels processes th there x
AnswersBy c w t channels processes th there x (Waiting k) = x ≡ answer.Blocked
AnswersBy c w t channels processes th there x Woken = x ≡ retaken (hold w.owner t)

abbrev pub AnswersAt : Code → World → ℕ → ℕ → ℕ → List ℤ → Answer → Option Thread → Type 0
AnswersAt c w t channels processes there x None = x ≡ answer.Over
AnswersAt c w t channels processes there x (Some th) = AnswersBy c w t channels processes th there x th.status

-- a step of thread t comes to this
abbrev pub AnswersAs : Code → World → ℕ → ℕ → ℕ → List ℤ → Answer → Type 0
AnswersAs c w t channels processes there x = AnswersAt c w t channels processes there x (slice_get w.threads.items t)

-- nothing changes but the arguments, of which there are as many
pub record KeepsAll (old new : World) : Type 0 where
  pub owner : new.owner ≡ old.owner
  pub row : new.row ≡ old.row
  pub arrays : new.arrays ≡ old.arrays
  pub threads : new.threads.items ≡ old.threads.items
  pub even : length new.arguments ≡ length old.arguments
