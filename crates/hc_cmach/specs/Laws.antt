-- What holds of every program, under every schedule.
use Rattle.std.specs.Prelude.{◌≡◌, ◌⊎◌, ◌≤◌, ℕ, ◌+◌, true, [], ◌∷◌, ◌++◌, take}
use Rattle.hc_cast.specs.declared.program.CProgram.{CProgram}
use Rattle.hc_cmach.specs.declared.moved.Moved.{Moved}
use Rattle.hc_cmach.specs.declared.moved.Moved.TheVariants as said
use Rattle.hc_schedule.specs.Sections.{Item, Step, EverySchedule}
use Rattle.hc_schedule.specs.Schedule.{Footprint, ChangingPlaces, moves, idle, undefined}
use Rattle.hc_schedule.specs.Solo.{SectionsRunAlone}
use Rattle.hc_cmach.specs.Line.{Line}
use Rattle.hc_cmach.specs.Turn.{c_code}
use Rattle.hc_cmach.specs.Machine.{CState, opening, stepped, scheduled, step_said}
use Rattle.hc_cmach.specs.Seeded.{seeded, performed}

-- Where no schedule in whole sections meets an undefined step, none does, and each schedule has its like in whole
-- sections: with the same state at its end, and the same lines by the same threads.
abbrev pub SchedulesReduce : Type 0
SchedulesReduce = (g : CProgram) → EverySchedule (moves (c_code g)) (opening g)

-- a step of a thread that doesn't own the mutex and doesn't take it depends on the thread's own part alone
abbrev pub StepsKeepToTheirOwn : Type 0
StepsKeepToTheirOwn = (g : CProgram) → Footprint (c_code g)

-- an item of another thread right after a step of the owner may come before it
abbrev pub ItemsChangePlaces : Type 0
ItemsChangePlaces = (g : CProgram) → ChangingPlaces (c_code g)

-- what a thread does alone, from taking the mutex to giving it up, is a section of a schedule
abbrev pub RunsAloneAreSections : Type 0
RunsAloneAreSections = (g : CProgram) → SectionsRunAlone (c_code g)

-- ---- single items

-- a step of a blocked or returned thread, and a wake-up of a thread that doesn't wait, changes nothing
abbrev pub IdleChangesNothing : Type 0
IdleChangesNothing = (g : CProgram) (s : CState) (i : Item) → idle (c_code g) s i ≡ true → stepped g s i ≡ s

-- nor does an undefined step
abbrev pub UndefinedChangesNothing : Type 0
UndefinedChangesNothing = (g : CProgram) (s : CState) (i : Item) → undefined (c_code g) s i ≡ true → stepped g s i ≡ s

-- an item prints no line, or it is a step of the thread that stands beside the one line that it prints
abbrev pub LinesNameTheirThread : Type 0
LinesNameTheirThread =
    (g : CProgram) (s : CState) (i : Item) →
    ((stepped g s i).lines ≡ s.lines) ⊎ ((t : ℕ) × (l : Line) × (i ≡ Step t) × ((stepped g s i).lines ≡ s.lines ++ (t, l) ∷ []))

abbrev pub count_moved : Moved → ℕ
count_moved said.Moved = 1
count_moved said.Printed = 1
count_moved m = 0

-- the steps that answer that they moved or printed are counted
abbrev pub MovedIsCounted : Type 0
MovedIsCounted = (g : CProgram) (s : CState) (t : ℕ) → (stepped g s (Step t)).moved ≡ s.moved + count_moved (step_said g s t)

-- ---- the schedule of a seed

-- what a program does under a seed is what the beginning of the seed's schedule comes to
abbrev pub PerformedIsScheduled : Type 0
PerformedIsScheduled =
    (g : CProgram) (seed n : ℕ) → (k : ℕ) × (k ≤ n) × ((performed g seed n).state ≡ scheduled g (take k (seeded g seed n)))
