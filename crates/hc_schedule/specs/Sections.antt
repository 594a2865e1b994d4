-- Schedules of any machine with one mutex, and schedules in whole sections.
use Rattle.std.specs.Prelude.{◌≡◌, ◌⊎◌, ℕ, zero, suc, Bool, true, false, ◌==◌, List, [], ◌∷◌, Option, Some, None}
use Rattle.std.specs.List.{list_all}

-- a step of a thread, or a spurious wake-up of one
pub data Item : Type 0 where
  Step : (thread : ℕ) → Item
  Wake : (thread : ℕ) → Item

-- n steps of thread o
abbrev pub steps : ℕ → ℕ → List Item
steps o zero = []
steps o (suc n) = Step o ∷ steps o n

-- what items do to a state: the state after one, whether it is an undefined step, whether it changes nothing, and who owns the mutex
pub record Moves (St : Type 0) : Type 0 where
  pub next : St → Item → St
  pub undefined : St → Item → Bool
  pub idle : St → Item → Bool
  pub owner : St → Option ℕ

-- the state after a schedule
abbrev pub run : {St : Type 0} → Moves St → St → List Item → St
run m s [] = s
run m s (i ∷ is) = run m (m.next s i) is

-- no item is an undefined step
abbrev pub IsSafe : {St : Type 0} → Moves St → St → List Item → Type 0
IsSafe m s [] = Unit {0}
IsSafe m s (i ∷ is) = (m.undefined s i ≡ false) × IsSafe m (m.next s i) is

abbrev pub is_step_of : ℕ → Item → Bool
is_step_of o (Step t) = t == o
is_step_of o (Wake t) = false

-- while a thread owns the mutex, each item is a step of the owner
abbrev pub fits : Option ℕ → Item → Bool
fits None i = true
fits (Some o) i = is_step_of o i

abbrev pub InWholeSections : {St : Type 0} → Moves St → St → List Item → Type 0
InWholeSections m s [] = Unit {0}
InWholeSections m s (i ∷ is) = (fits (m.owner s) i ≡ true) × InWholeSections m (m.next s i) is

abbrev pub is_step : Item → Bool
is_step (Step t) = true
is_step (Wake t) = false

-- no item is a wake-up
abbrev pub is_calm : List Item → Bool
is_calm w = list_all is_step w

-- What a schedule in whole sections has in common with a schedule.
pub record Reduces {St : Type 0} (m : Moves St) (s : St) (w v : List Item) : Type 0 where
  pub whole : InWholeSections m s v
  pub same : run m s v ≡ run m s w
  pub calm : is_calm w ≡ true → is_calm v ≡ true

-- Where no schedule in whole sections meets an undefined step, none does, and each schedule has its like in whole sections.
abbrev pub EverySchedule : {St : Type 0} → Moves St → St → Type 0
EverySchedule m s =
    ((v : List Item) → InWholeSections m s v → IsSafe m s v) →
    (w : List Item) → IsSafe m s w × ((v : List Item) × Reduces m s w v)

-- ---- items in the other order

-- the thread that the item names
abbrev pub is_of : ℕ → Item → Bool
is_of o (Step t) = t == o
is_of o (Wake t) = t == o

-- an item and a step of thread o before it, in the other order
pub record Swap {St : Type 0} (m : Moves St) (s : St) (o : ℕ) (i : Item) : Type 0 where
  pub undefined : m.undefined s i ≡ m.undefined (m.next s (Step o)) i
  pub undefined_step : m.undefined (m.next s i) (Step o) ≡ m.undefined s (Step o)
  pub owner : m.owner (m.next s i) ≡ m.owner s
  pub meet : m.next (m.next s i) (Step o) ≡ m.next (m.next s (Step o)) i
