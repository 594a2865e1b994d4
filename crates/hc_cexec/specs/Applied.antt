-- What a step does to the world, in the words of the code.
use Rattle.std.specs.Prelude.{◌≡◌, ℕ, Bool, true, false, ◌==◌, if◌then◌else◌, List, [], map, slice_get, slice_set, slice_index_or, ℤ, Option, Some, None}
use Rattle.hc_rational.specs.Words.{Rational, zero_ℚ, is_zero}
use Rattle.hc_cmach.specs.declared.kind.Kind.{Kind}
use Rattle.hc_cmach.specs.declared.kind.Kind.TheVariants.{ZeroDivisor, NotOwner, LockedTwice, Unlocked}
use Rattle.hc_cmach.specs.State.{common_row}
use Rattle.hc_ccode.specs.declared.code.Entry.{Entry}
use Rattle.hc_schedule.specs.declared.status.Status.{Status}
use Rattle.hc_schedule.specs.declared.status.Status.TheVariants.{Ready, Waiting, Woken}
use Rattle.hc_schedule.specs.Threads.{Hold, Free, Mine, Others, hold, stirred, waits}
use Rattle.hc_cexec.specs.declared.asked.Act.{Act}
use Rattle.hc_cexec.specs.declared.asked.Act.TheVariants as act
use Rattle.hc_cexec.specs.declared.asked.Then.{Then}
use Rattle.hc_cexec.specs.declared.asked.Then.TheVariants as then
use Rattle.hc_cexec.specs.declared.asked.Asked.{Asked}
use Rattle.hc_cexec.specs.declared.asked.Asked.TheVariants as asked
use Rattle.hc_cexec.specs.declared.asked.Answer.{Answer}
use Rattle.hc_cexec.specs.declared.asked.Answer.TheVariants as answer
use Rattle.hc_cexec.specs.declared.thread.Thread.{Thread}
use Rattle.hc_cexec.specs.declared.kernel.World.{World}
use Rattle.hc_cexec.specs.Goes.{went, with_row}

-- ---- whether it may be done

abbrev pub takes : Act → Then → Answer
takes a x = answer.Takes a x

abbrev pub is_mine : Hold → Bool
is_mine Free = false
is_mine Mine = true
is_mine Others = false

abbrev pub under : Hold → Kind → Answer → Answer
under Mine k x = x
under Free k x = answer.Undefined k
under Others k x = answer.Undefined k

abbrev pub locking : Hold → Answer → Answer
locking Free x = x
locking Mine x = answer.Undefined LockedTwice
locking Others x = answer.Blocked

-- whether a thread that finds the mutex so may do this
abbrev pub ruled : Hold → Act → Answer → Answer
ruled h act.Goes x = x
ruled h (act.PutsOwn d v) x = x
ruled h act.Locks x = locking h x
ruled h act.Unlocks x = under h NotOwner x
ruled h (act.Waits k) x = under h NotOwner x
ruled h (act.Wakes k) x = under h Unlocked x
ruled h (act.PutsCommon d v) x = under h Unlocked x
ruled h (act.Stores a i z) x = under h Unlocked x
ruled h (act.Prints l) x = under h Unlocked x
ruled h act.Retakes x = under h Unlocked x

-- a woken thread takes the mutex again
abbrev pub retaken : Hold → Answer
retaken Free = answer.Takes act.Retakes then.Stays
retaken Mine = answer.Blocked
retaken Others = answer.Blocked

-- ---- why a division is undefined

abbrev pub row_at : Option Thread → List Rational
row_at None = []
row_at (Some th) = th.row

abbrev pub row_in : World → ℕ → List Rational
row_in w r = if r == common_row then w.row else row_at (slice_get w.threads.items r)

abbrev pub kind_by : World → ℕ → ℕ → Kind → Kind
kind_by w r b k = if is_zero (slice_index_or (row_in w r) b zero_ℚ) then ZeroDivisor else k

-- what comes of what thread t asks for
abbrev pub settled : World → ℕ → Asked → Answer
settled w t asked.Returned = answer.Over
settled w t (asked.Fails k) = answer.Undefined k
settled w t (asked.Divides r b k) = answer.Undefined (kind_by w r b k)
settled w t (asked.Does a x) = ruled (hold w.owner t) a (takes a x)

-- ---- what changes

abbrev pub owner_after : Act → ℕ → Option ℕ → Option ℕ
owner_after act.Locks t o = Some t
owner_after act.Retakes t o = Some t
owner_after act.Unlocks t o = None
owner_after (act.Waits k) t o = None
owner_after _ t o = o

abbrev pub status_after : Act → Status
status_after (act.Waits k) = Waiting k
status_after _ = Ready

abbrev pub row_after : Act → List Rational → List Rational
row_after (act.PutsCommon d v) row = slice_set row d v
row_after _ row = row

abbrev pub arrays_after : Act → List (List ℤ) → List (List ℤ)
arrays_after (act.Stores a i z) xs = slice_set xs a (slice_set (slice_index_or xs a []) i z)
arrays_after _ xs = xs

-- the thread gone on, with its row, and as it stands then
abbrev pub thread_after : List Entry → List ℤ → Act → Then → Thread → Thread
thread_after es there a x th =
    let new = went es there x (with_row a th) in
    record { row = new.row; activations = new.activations; current = new.current; status = status_after a }

abbrev pub replaced_by : List Thread → ℕ → (Thread → Thread) → Option Thread → List Thread
replaced_by ths t f None = ths
replaced_by ths t f (Some th) = slice_set ths t (f th)

-- thread t becomes another, if there is one
abbrev pub replaced : List Thread → ℕ → (Thread → Thread) → List Thread
replaced ths t f = replaced_by ths t f (slice_get ths t)

abbrev pub with_status : Status → Thread → Thread
with_status s th = record { row = th.row; activations = th.activations; current = th.current; status = s }

abbrev pub stirred_in : ℕ → Thread → Thread
stirred_in k th = with_status (stirred k th.status) th

abbrev pub stirred_after : Act → List Thread → List Thread
stirred_after (act.Wakes k) ths = map (stirred_in k) ths
stirred_after _ ths = ths

-- the world after thread t did this
pub record IsAfter (es : List Entry) (t : ℕ) (a : Act) (x : Then) (old new : World) : Type 0 where
  pub owner : new.owner ≡ owner_after a t old.owner
  pub row : new.row ≡ row_after a old.row
  pub arrays : new.arrays ≡ arrays_after a old.arrays
  pub threads : new.threads.items ≡ stirred_after a (replaced old.threads.items t (thread_after es old.arguments a x))
  pub arguments : new.arguments ≡ old.arguments

-- ---- spurious wake-ups

abbrev pub is_waiting : Option Thread → Bool
is_waiting None = false
is_waiting (Some th) = waits th.status

-- thread t is woken, if it waits
abbrev pub roused : List Thread → ℕ → List Thread
roused ths t = if is_waiting (slice_get ths t) then replaced ths t (with_status Woken) else ths
