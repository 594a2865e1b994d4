-- Threads that share one part of the memory under one mutex. Each thread has a part of its own.
use Rattle.std.specs.Prelude.{ℕ, Bool, true, false, ◌==◌, if◌then◌else◌, List, map, slice_get, slice_set, Option, Some, None}
use Rattle.hc_schedule.specs.declared.status.Status.{Status}
use Rattle.hc_schedule.specs.declared.status.Status.TheVariants.{Ready, Waiting, Woken}

pub record Thread (P : Type 0) : Type 0 where
  pub own : P
  pub status : Status

pub record World (P S : Type 0) : Type 0 where
  pub owner : Option ℕ
  pub shared : S
  pub threads : List (Thread P)

-- what a step does, and what the thread's own part is after it
pub data Act (P S L : Type 0) : Type 0 where
  Goes : (own : P) → Act P S L
  Locks : (own : P) → Act P S L
  Unlocks : (own : P) → Act P S L
  Waits : (on : ℕ) (own : P) → Act P S L
  Wakes : (on : ℕ) (own : P) → Act P S L
  Works : (own : P) (shared : S) → Act P S L
  Prints : (own : P) (line : L) → Act P S L
  Retakes : (own : P) → Act P S L

-- what the statement at which a thread stands asks for
pub data Turn (P S L F : Type 0) : Type 0 where
  Returned : Turn P S L F
  Fails : (fault : F) → Turn P S L F
  Does : (act : Act P S L) → Turn P S L F

-- what a step comes to
pub data Answer (P S L F : Type 0) : Type 0 where
  Blocked : Answer P S L F
  Over : Answer P S L F
  Undefined : (fault : F) → Answer P S L F
  Takes : (act : Act P S L) → Answer P S L F

-- A program: what thread t's next step asks for, from its own part, and from the shared part where it owns the mutex.
pub record Code (P S L F : Type 0) : Type 0 where
  pub turn : ℕ → P → Option S → Turn P S L F
  pub not_owner : F
  pub locked_twice : F
  pub unlocked : F

-- the mutex as a thread finds it
pub data Hold : Type 0 where
  Free : Hold
  Mine : Hold
  Others : Hold

abbrev pub hold : Option ℕ → ℕ → Hold
hold None t = Free
hold (Some o) t = if o == t then Mine else Others

abbrev pub seen : {S : Type 0} → Hold → S → Option S
seen Free s = None
seen Mine s = Some s
seen Others s = None

abbrev pub under : {P S L F : Type 0} → Hold → F → Act P S L → Answer P S L F
under Free f a = Undefined f
under Mine f a = Takes a
under Others f a = Undefined f

abbrev pub locking : {P S L F : Type 0} → Hold → F → Act P S L → Answer P S L F
locking Free f a = Takes a
locking Mine f a = Undefined f
locking Others f a = Blocked

-- whether a thread that finds the mutex so may do this
abbrev pub allowed : {P S L F : Type 0} → Code P S L F → Hold → Act P S L → Answer P S L F
allowed c h (Goes p) = Takes (Goes p)
allowed c h (Locks p) = locking h c.locked_twice (Locks p)
allowed c h (Unlocks p) = under h c.not_owner (Unlocks p)
allowed c h (Waits k p) = under h c.not_owner (Waits k p)
allowed c h (Wakes k p) = under h c.unlocked (Wakes k p)
allowed c h (Works p s) = under h c.unlocked (Works p s)
allowed c h (Prints p l) = under h c.unlocked (Prints p l)
allowed c h (Retakes p) = under h c.unlocked (Retakes p)

abbrev pub answer_of : {P S L F : Type 0} → Code P S L F → Hold → Turn P S L F → Answer P S L F
answer_of c h Returned = Over
answer_of c h (Fails f) = Undefined f
answer_of c h (Does a) = allowed c h a

abbrev pub retaking : {P S L F : Type 0} → Hold → P → Answer P S L F
retaking Free p = Takes (Retakes p)
retaking Mine p = Blocked
retaking Others p = Blocked

abbrev pub answer_by : {P S L F : Type 0} → Code P S L F → Hold → S → ℕ → P → Status → Answer P S L F
answer_by c h s t p Ready = answer_of c h (c.turn t p (seen h s))
answer_by c h s t p (Waiting k) = Blocked
answer_by c h s t p Woken = retaking h p

abbrev pub answer_at : {P S L F : Type 0} → Code P S L F → Hold → S → ℕ → Option (Thread P) → Answer P S L F
answer_at c h s t None = Over
answer_at c h s t (Some th) = answer_by c h s t th.own th.status

-- what a step of thread t comes to
abbrev pub answer : {P S L F : Type 0} → Code P S L F → World P S → ℕ → Answer P S L F
answer c w t = answer_at c (hold w.owner t) w.shared t (slice_get w.threads t)

abbrev pub stirred : ℕ → Status → Status
stirred k Ready = Ready
stirred k (Waiting j) = if j == k then Woken else Waiting j
stirred k Woken = Woken

abbrev pub stirred_thread : {P : Type 0} → ℕ → Thread P → Thread P
stirred_thread k th = record { own = th.own; status = stirred k th.status }

abbrev pub put : {P : Type 0} → List (Thread P) → ℕ → P → Status → List (Thread P)
put ths t p st = slice_set ths t (record { own = p; status = st })

-- the world after thread t did this
abbrev pub applied : {P S L : Type 0} → World P S → ℕ → Act P S L → World P S
applied w t (Goes p) = record { owner = w.owner; shared = w.shared; threads = put w.threads t p Ready }
applied w t (Locks p) = record { owner = Some t; shared = w.shared; threads = put w.threads t p Ready }
applied w t (Unlocks p) = record { owner = None; shared = w.shared; threads = put w.threads t p Ready }
applied w t (Waits k p) = record { owner = None; shared = w.shared; threads = put w.threads t p (Waiting k) }
applied w t (Wakes k p) = record { owner = w.owner; shared = w.shared; threads = map (stirred_thread k) (put w.threads t p Ready) }
applied w t (Works p s) = record { owner = w.owner; shared = s; threads = put w.threads t p Ready }
applied w t (Prints p l) = record { owner = w.owner; shared = w.shared; threads = put w.threads t p Ready }
applied w t (Retakes p) = record { owner = Some t; shared = w.shared; threads = put w.threads t p Ready }

abbrev pub waits : Status → Bool
waits Ready = false
waits (Waiting k) = true
waits Woken = false

abbrev pub is_waiting : {P : Type 0} → Option (Thread P) → Bool
is_waiting None = false
is_waiting (Some th) = waits th.status

abbrev pub roused_from : {P S : Type 0} → World P S → ℕ → P → Status → World P S
roused_from w t p Ready = w
roused_from w t p (Waiting k) = record { owner = w.owner; shared = w.shared; threads = put w.threads t p Woken }
roused_from w t p Woken = w

abbrev pub roused_by : {P S : Type 0} → World P S → ℕ → Option (Thread P) → World P S
roused_by w t None = w
roused_by w t (Some th) = roused_from w t th.own th.status

-- a spurious wake-up of thread t
abbrev pub roused : {P S : Type 0} → World P S → ℕ → World P S
roused w t = roused_by w t (slice_get w.threads t)
