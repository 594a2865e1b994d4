-- What a thread does alone: inside a section its own part, the shared part, what it prints and whom it wakes; outside, its own part.
use Rattle.std.specs.Prelude.{◌≡◌, ◌⊎◌, ℕ, zero, suc, ◌+◌, Bool, true, false, List, [], ◌∷◌, ◌++◌, map, Option, Some, None}
use Rattle.hc_schedule.specs.declared.status.Status.TheVariants.{Ready}
use Rattle.hc_schedule.specs.Threads.{Thread, Act, Goes, Locks, Unlocks, Waits, Wakes, Works, Prints, Retakes, Turn, Returned, Fails, Does, Takes, Code, answer, stirred_thread, put}
use Rattle.hc_schedule.specs.Sections.{run, steps, IsSafe, InWholeSections}
use Rattle.hc_schedule.specs.Schedule.{State, did, moves}

pub record Solo (P S L : Type 0) : Type 0 where
  pub own : P
  pub shared : S
  pub lines : List L
  pub wakes : List ℕ  -- the last first

-- none where the step isn't one inside a section
abbrev pub solo_act : {P S L : Type 0} → Solo P S L → Act P S L → Option (Solo P S L)
solo_act x (Goes p) = Some (record { own = p; shared = x.shared; lines = x.lines; wakes = x.wakes })
solo_act x (Works p s) = Some (record { own = p; shared = s; lines = x.lines; wakes = x.wakes })
solo_act x (Prints p l) = Some (record { own = p; shared = x.shared; lines = x.lines ++ l ∷ []; wakes = x.wakes })
solo_act x (Wakes k p) = Some (record { own = p; shared = x.shared; lines = x.lines; wakes = k ∷ x.wakes })
solo_act x a = None

abbrev pub solo_turn : {P S L F : Type 0} → Solo P S L → Turn P S L F → Option (Solo P S L)
solo_turn x Returned = None
solo_turn x (Fails f) = None
solo_turn x (Does a) = solo_act x a

abbrev pub solo : {P S L F : Type 0} → Code P S L F → ℕ → Solo P S L → Option (Solo P S L)
solo c t x = solo_turn x (c.turn t x.own (Some x.shared))

abbrev pub then_solo : {A : Type 0} → (A → Option A) → Option A → Option A
then_solo f None = None
then_solo f (Some x) = f x

-- after n steps
abbrev pub solos : {P S L F : Type 0} → Code P S L F → ℕ → ℕ → Solo P S L → Option (Solo P S L)
solos c t zero x = Some x
solos c t (suc n) x = then_solo (solos c t n) (solo c t x)

abbrev pub stirred_by : {P : Type 0} → List ℕ → List (Thread P) → List (Thread P)
stirred_by [] ths = ths
stirred_by (k ∷ ks) ths = map (stirred_thread k) (stirred_by ks ths)

-- the state in which thread t owns the mutex and has come so far
abbrev pub within : {P S L : Type 0} → State P S L → ℕ → Solo P S L → ℕ → State P S L
within a t x n =
    record {
      world = record { owner = Some t; shared = x.shared; threads = put (stirred_by x.wakes a.world.threads) t x.own Ready };
      lines = a.lines ++ map (λ l. (t, l)) x.lines;
      moved = a.moved + n;
    }

-- ---- a whole section

-- a thread that has just taken the mutex in this state
abbrev pub begun : {P S L : Type 0} → State P S L → P → Solo P S L
begun a own = record { own = own; shared = a.world.shared; lines = []; wakes = [] }

-- whether the mutex is given up
abbrev pub gives_up : {P S L : Type 0} → Act P S L → Bool
gives_up (Goes p) = false
gives_up (Locks p) = false
gives_up (Unlocks p) = true
gives_up (Waits k p) = true
gives_up (Wakes k p) = false
gives_up (Works p s) = false
gives_up (Prints p l) = false
gives_up (Retakes p) = false

-- Thread t takes the mutex here, for the first time or after a wait; alone it comes in n steps from there to y, and there it gives the mutex up.
pub record RunsAlone {P S L F : Type 0} (c : Code P S L F) (a : State P S L) (t n : ℕ) (own : P) (y : Solo P S L) (act : Act P S L) : Type 0 where
  pub free : a.world.owner ≡ None
  pub takes : (answer c a.world t ≡ Takes (Locks own)) ⊎ (answer c a.world t ≡ Takes (Retakes own))
  pub alone : solos c t n (begun a own) ≡ Some y
  pub asks : c.turn t y.own (Some y.shared) ≡ Does act
  pub leaves : gives_up act ≡ true

-- n + 2 steps of thread t are a section of a schedule: none is undefined, the thread owns the mutex up to the last, and behind them the
-- state is that of y, with the mutex given up
pub record IsSection {P S L F : Type 0} (c : Code P S L F) (a : State P S L) (t n : ℕ) (y : Solo P S L) (act : Act P S L) : Type 0 where
  pub safe : IsSafe (moves c) a (steps t (suc (suc n)))
  pub whole : InWholeSections (moves c) a (steps t (suc (suc n)))
  pub ends : run (moves c) a (steps t (suc (suc n))) ≡ did (within a t y (suc n)) t act

-- what a thread does alone is a section
abbrev pub SectionsRunAlone : {P S L F : Type 0} → Code P S L F → Type 0
SectionsRunAlone {P = P} {S = S} {L = L} c =
    (a : State P S L) (t n : ℕ) (own : P) (y : Solo P S L) (act : Act P S L) → RunsAlone c a t n own y act → IsSection c a t n y act

-- ---- the same without the mutex: the own part after so many private steps

abbrev pub goes_act : {P S L : Type 0} → Act P S L → Option P
goes_act (Goes p) = Some p
goes_act (Locks p) = None
goes_act (Unlocks p) = None
goes_act (Waits k p) = None
goes_act (Wakes k p) = None
goes_act (Works p s) = None
goes_act (Prints p l) = None
goes_act (Retakes p) = None

abbrev pub goes_to : {P S L F : Type 0} → Turn P S L F → Option P
goes_to Returned = None
goes_to (Fails f) = None
goes_to (Does a) = goes_act a

abbrev pub then_by : {P : Type 0} → (P → Option P) → Option P → Option P
then_by f None = None
then_by f (Some p) = f p

abbrev pub alone : {P S L F : Type 0} → Code P S L F → ℕ → ℕ → P → Option P
alone c t zero p = Some p
alone c t (suc j) p = then_by (alone c t j) (goes_to (c.turn t p None))
