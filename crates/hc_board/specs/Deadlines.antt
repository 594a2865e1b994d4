-- The deadlines that a board keeps beside its posts: the moments at which bounds run out.
use Rattle.std.specs.Prelude.{◌≡◌, ◌≢◌, ℕ, ◌<◌, ◌≤◌, ◌⊎◌, ◌↔◌, List, length, All, AllPairs, Contains, HoldsAt, Option, Some}
use Rattle.std.specs.List.{AllWithin}
use Rattle.hc_limits.specs.Limits.{most_processes}
use Rattle.hc_rational.specs.Words.{Rational, ◌<ℚ◌}
use Rattle.hc_term.specs.declared.post.Post.{Post}
use Rattle.hc_board.specs.declared.deadlines.Deadline.{Deadline}
use Rattle.hc_board.specs.MeetingBoard.{shown}

-- ---- the order

-- deadline d stands before deadline e: by moment, and at the same moment by process
abbrev pub IsBefore : Deadline → Deadline → Type 0
IsBefore d e = (d.due <ℚ e.due) ⊎ ((d.due ≡ e.due) × (d.process < e.process))

-- two deadlines are of two processes
abbrev pub AreApart : Deadline → Deadline → Type 0
AreApart d e = d.process ≢ e.process

-- they stand in order, and each process has at most one
pub record AreInOrder (ds : List Deadline) : Type 0 where
  pub ordered : AllPairs IsBefore ds
  pub single : AllPairs AreApart ds
  pub within : All (λ d. d.process < most_processes) ds

-- ---- one process

-- that of process p stands at this place
pub record IsPlaceOf (p : ℕ) (ds : List Deadline) (at : ℕ) : Type 0 where
  pub there : at < length ds
  pub is : HoldsAt (λ d. d.process ≡ p) ds at

-- process p has none
abbrev pub HasNone : ℕ → List Deadline → Type 0
HasNone p ds = All (λ d. d.process ≢ p) ds

-- process p has this deadline, or none
abbrev pub HasDue : ℕ → Option Rational → List Deadline → Type 0
HasDue p due ds = (q : Rational) → Contains ds (record { process = p; due = q }) ↔ (due ≡ Some q)

-- deadline d belongs at this place
pub record IsPlaceFor (d : Deadline) (ds : List Deadline) (at : ℕ) : Type 0 where
  pub within : at ≤ length ds
  pub before : AllWithin (λ e. IsBefore e d) ds 0 at
  pub behind : AllWithin (λ e. IsBefore d e) ds at (length ds)

-- process p has this deadline, or none, and all other deadlines stay
pub record IsSet (p : ℕ) (due : Option Rational) (old new : List Deadline) : Type 0 where
  pub kept : AreInOrder new
  pub here : HasDue p due new
  pub others : (d : Deadline) → d.process ≢ p → Contains new d ↔ Contains old d

-- ---- all processes

-- exactly one for each post whose `due` isn't `None`, ordered by moment and then process
pub record AreDeadlinesOf (ds : List Deadline) (ps : List Post) : Type 0 where
  pub kept : AreInOrder ds
  pub each : (d : Deadline) → Contains ds d ↔ ((shown ps d.process).due ≡ Some d.due)
