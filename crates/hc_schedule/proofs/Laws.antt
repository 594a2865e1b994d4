-- Laws of a machine with one mutex, from which it follows that each schedule has its like in whole sections.
use Rattle.std.specs.Prelude.{◌≡◌, ◌⊎◌, ℕ, Bool, true, false, Some}
use Rattle.hc_schedule.specs.Sections.{Item, Step, Wake, Moves, Swap, is_of}

pub record Laws {St : Type 0} (m : Moves St) : Type 0 where
  pub good : St → Bool
  pub stays_good : (s : St) (i : Item) → good s ≡ true → good (m.next s i) ≡ true
  pub idles : (s : St) (i : Item) → m.idle s i ≡ true → (m.undefined s i ≡ false) × (m.next s i ≡ s)
  pub gains : (s : St) (i : Item) (q : ℕ) → m.owner (m.next s i) ≡ Some q → (m.owner s ≡ Some q) ⊎ (i ≡ Step q)
  pub keeps : (s : St) (o : ℕ) (i : Item) → m.owner s ≡ Some o → is_of o i ≡ false → m.owner (m.next s i) ≡ Some o
  pub awake : (s : St) (o : ℕ) → good s ≡ true → m.owner s ≡ Some o → m.idle s (Wake o) ≡ true
  pub swaps :
      (s : St) (o : ℕ) (i : Item) → good s ≡ true → m.owner (m.next s (Step o)) ≡ Some o → is_of o i ≡ false →
      m.idle (m.next s (Step o)) i ≡ false → (m.idle s i ≡ false) × Swap m s o i
