-- Schedules.
use Rattle.std.specs.Prelude.{◌≡◌, ℕ, ◌+◌, Bool, true, false, not, List, [], ◌∷◌, ◌++◌, slice_get, Some}
use Rattle.hc_schedule.specs.Sections.{Item, Step, Wake, Moves, Swap, is_of}
use Rattle.hc_schedule.specs.Threads.{World, Act, Goes, Prints, Answer, Blocked, Over, Undefined, Takes, Code, Hold, Free, Mine, Others, hold, answer, applied, roused, is_waiting}

-- a world, the lines that were printed with the thread that printed each, and how many steps moved
pub record State (P S L : Type 0) : Type 0 where
  pub world : World P S
  pub lines : List (ℕ × L)
  pub moved : ℕ

abbrev pub lines_after : {P S L : Type 0} → List (ℕ × L) → ℕ → Act P S L → List (ℕ × L)
lines_after ls t (Prints p l) = ls ++ (t, l) ∷ []
lines_after ls t a = ls

abbrev pub did : {P S L : Type 0} → State P S L → ℕ → Act P S L → State P S L
did s t a = record { world = applied s.world t a; lines = lines_after s.lines t a; moved = s.moved + 1 }

-- what is blocked, over or undefined changes nothing
abbrev pub after : {P S L F : Type 0} → State P S L → ℕ → Answer P S L F → State P S L
after s t (Takes a) = did s t a
after s t x = s

abbrev pub next : {P S L F : Type 0} → Code P S L F → State P S L → Item → State P S L
next c s (Step t) = after s t (answer c s.world t)
next c s (Wake t) = record { world = roused s.world t; lines = s.lines; moved = s.moved }

abbrev pub is_fault : {P S L F : Type 0} → Answer P S L F → Bool
is_fault (Undefined f) = true
is_fault x = false

-- whether the item is an undefined step
abbrev pub undefined : {P S L F : Type 0} → Code P S L F → State P S L → Item → Bool
undefined c s (Step t) = is_fault (answer c s.world t)
undefined c s (Wake t) = false

abbrev pub is_stuck : {P S L F : Type 0} → Answer P S L F → Bool
is_stuck Blocked = true
is_stuck Over = true
is_stuck (Undefined f) = false
is_stuck (Takes a) = false

-- whether the item is a step of a blocked or returned thread, or a wake-up of a thread that doesn't wait
abbrev pub idle : {P S L F : Type 0} → Code P S L F → State P S L → Item → Bool
idle c s (Step t) = is_stuck (answer c s.world t)
idle c s (Wake t) = not (is_waiting (slice_get s.world.threads t))

-- the items of a schedule, as they change a state
abbrev pub moves : {P S L F : Type 0} → Code P S L F → Moves (State P S L)
moves c = record { next = next c; undefined = undefined c; idle = idle c; owner = λ s. s.world.owner }

-- ---- laws of steps and items, for every program

abbrev pub is_aside : Hold → Bool
is_aside Free = true
is_aside Mine = false
is_aside Others = true

-- undefined, or a step that changes the thread's own part and nothing else
abbrev pub is_private_act : {P S L : Type 0} → Act P S L → Bool
is_private_act (Goes p) = true
is_private_act a = false

abbrev pub is_private : {P S L F : Type 0} → Answer P S L F → Bool
is_private Blocked = false
is_private Over = true
is_private (Undefined f) = true
is_private (Takes a) = is_private_act a

-- A step of a thread that doesn't own the mutex and doesn't take it depends on the thread's own part alone.
abbrev pub Footprint : {P S L F : Type 0} → Code P S L F → Type 0
Footprint {P = P} {S = S} c =
    (w other : World P S) (q : ℕ) → is_aside (hold w.owner q) ≡ true → is_aside (hold other.owner q) ≡ true →
    slice_get w.threads q ≡ slice_get other.threads q → is_private (answer c w q) ≡ true → answer c other q ≡ answer c w q

abbrev pub is_blocked : {P S L F : Type 0} → Answer P S L F → Bool
is_blocked Blocked = true
is_blocked x = false

abbrev pub held_up : {P S L F : Type 0} → Code P S L F → State P S L → Item → Bool
held_up c s (Step t) = is_blocked (answer c s.world t)
held_up c s (Wake t) = false

-- An item of another thread right after a step of the owner, which isn't held up there, may come before it.
abbrev pub ChangingPlaces : {P S L F : Type 0} → Code P S L F → Type 0
ChangingPlaces {P = P} {S = S} {L = L} c =
    (s : State P S L) (o : ℕ) (i : Item) → (next c s (Step o)).world.owner ≡ Some o → is_of o i ≡ false →
    held_up c (next c s (Step o)) i ≡ false → Swap (moves c) s o i
