-- What single items do, and what the schedule of a seed comes to: by cases on what a step comes to.
use Rattle.std.specs.Prelude.{◌≡◌, ◌⊎◌, ◌≤◌, ℕ, zero, suc, ◌+◌, true, List, [], ◌∷◌, ◌++◌, take, length, Option, Some, None}
use Rattle.std.proofs.Common.{refl, ap, subst, inl, inr, arith}
use Rattle.rand_pcg.specs.Lcg.{Lcg}
use Rattle.rand_pcg.specs.Pcg.{pcg32}
use Rattle.hc_cast.specs.declared.program.CProgram.{CProgram}
use Rattle.hc_cmach.specs.declared.kind.Kind.{Kind}
use Rattle.hc_schedule.specs.Sections.{Item, Step, Wake, run}
use Rattle.hc_schedule.specs.Threads.{Act, Goes, Locks, Unlocks, Waits, Wakes, Works, Prints, Retakes, Blocked, Over, Undefined, Takes, answer}
use Rattle.hc_schedule.specs.Schedule.{after, is_fault, moves}
use Rattle.hc_cmach.specs.State.{Own, Shared, Fault}
use Rattle.hc_cmach.specs.Line.{Line, first_end}
use Rattle.hc_cmach.specs.Turn.{c_code}
use Rattle.hc_cmach.specs.Machine.{CState, CAnswer, opening, stepped, said_by}
use Rattle.hc_cmach.specs.Seeded.{Performed, item_kind, drawn_in, seeded_from, seeded, generator, performed_at, performed_from}
use Rattle.hc_cmach.specs.Laws.{IdleChangesNothing, UndefinedChangesNothing, LinesNameTheirThread, MovedIsCounted, count_moved, PerformedIsScheduled}
use Rattle.hc_schedule.proofs.ThreadLaws.{idles}

pub idle_changes_nothing : IdleChangesNothing
idle_changes_nothing g s i h = (idles (c_code g) s i h).1

fault_stays : (s : CState) (t : ℕ) (x : CAnswer) → is_fault x ≡ true → after s t x ≡ s
fault_stays s t Blocked h = refl
fault_stays s t Over h = refl
fault_stays s t (Undefined f) h = refl
fault_stays s t (Takes a) h = absurd cc

pub undefined_changes_nothing : UndefinedChangesNothing
undefined_changes_nothing g s (Step t) h = fault_stays s t (answer (c_code g) s.world t) h
undefined_changes_nothing g s (Wake t) h = absurd cc

-- ---- lines

abbrev Grown : CState → ℕ → CState → Type 0
Grown s t u = (u.lines ≡ s.lines) ⊎ ((q : ℕ) × (l : Line) × (◌≡◌ {A = Item} (Step t) (Step q)) × (u.lines ≡ s.lines ++ (q, l) ∷ []))

grown_act : (s : CState) (t : ℕ) (a : Act Own Shared Line) → Grown s t (after {F = Fault} s t (Takes a))
grown_act s t (Prints own l) = inr (t, l, refl, refl)
grown_act s t (Goes own) = inl refl
grown_act s t (Locks own) = inl refl
grown_act s t (Unlocks own) = inl refl
grown_act s t (Waits k own) = inl refl
grown_act s t (Wakes k own) = inl refl
grown_act s t (Works own m) = inl refl
grown_act s t (Retakes own) = inl refl

grown : (s : CState) (t : ℕ) (x : CAnswer) → Grown s t (after s t x)
grown s t (Takes a) = grown_act s t a
grown s t Blocked = inl refl
grown s t Over = inl refl
grown s t (Undefined f) = inl refl

pub lines_name_their_thread : LinesNameTheirThread
lines_name_their_thread g s (Step t) = grown s t (answer (c_code g) s.world t)
lines_name_their_thread g s (Wake t) = inl refl

-- ---- steps that moved

counted_act : (s : CState) (t : ℕ) (a : Act Own Shared Line) → (after {F = Fault} s t (Takes a)).moved ≡ s.moved + count_moved (said_by s.world (Takes a))
counted_act s t (Prints own l) = refl
counted_act s t (Goes own) = refl
counted_act s t (Locks own) = refl
counted_act s t (Unlocks own) = refl
counted_act s t (Waits k own) = refl
counted_act s t (Wakes k own) = refl
counted_act s t (Works own m) = refl
counted_act s t (Retakes own) = refl

counted : (s : CState) (t : ℕ) (x : CAnswer) → (after s t x).moved ≡ s.moved + count_moved (said_by s.world x)
counted s t (Takes a) = counted_act s t a
counted s t Blocked = omega arith
counted s t Over = omega arith
counted s t (Undefined f) = omega arith

pub moved_is_counted : MovedIsCounted
moved_is_counted g s t = counted s t (answer (c_code g) s.world t)

-- ---- the schedule of a seed

module _ (g : CProgram) where
  seeded_length : (n : ℕ) (r : Lcg) (s : CState) → length (seeded_from g n r s) ≡ n
  seeded_length zero r s = refl
  seeded_length (suc n) r s = ap suc (seeded_length n (pcg32 r).1 (stepped g s (drawn_in g s (pcg32 r).0)))

  -- the beginning of the items that leads from s to the state u
  abbrev Beginning : CState → List Item → CState → Type 0
  Beginning s w u = (k : ℕ) × (k ≤ length w) × (u ≡ run (moves (c_code g)) s (take k w))

  later : (s u : CState) (i : Item) (w : List Item) → Beginning (stepped g s i) w u → Beginning s (i ∷ w) u
  later s u i w h = (suc h.0, omega (arith, h.1), h.2)

  begun_at : (s : CState) (k : ℕ) (i : Item) (w : List Item) (x : Option Kind) (y : Option ℕ) (rest : Performed) → Beginning (stepped g s i) w rest.state →
      Beginning s (i ∷ w) (performed_at g k s x y (stepped g s i) rest).state
  begun_at s k i w (Some kind) y rest h = (0, omega arith, refl)
  begun_at s k i w None (Some end) rest h = (1, omega arith, refl)
  begun_at s k i w None None rest h = later s rest.state i w h

  begun_from : (s : CState) (k : ℕ) (w : List Item) → Beginning s w (performed_from g s k w).state
  begun_from s k [] = (0, omega arith, refl)
  begun_from s k (i ∷ w) =
      begun_at s k i w (item_kind g s i) (first_end (stepped g s i).lines) (performed_from g (stepped g s i) (suc k) w)
      (begun_from (stepped g s i) (suc k) w)

pub performed_is_scheduled : PerformedIsScheduled
performed_is_scheduled g seed n =
    let h = begun_from g (opening g) 0 (seeded g seed n) in
    (h.0, subst (λ (m : ℕ). h.0 ≤ m) (seeded_length g n (generator seed) (opening g)) h.1, h.2)
