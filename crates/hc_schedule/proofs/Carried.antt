-- What holds after each schedule in whole sections holds after each schedule.
use Rattle.std.specs.Prelude.{◌≡◌, true, List}
use Rattle.std.proofs.Common.{subst}
use Rattle.hc_schedule.specs.Sections.{Item, Moves, run, IsSafe, InWholeSections, is_calm, EverySchedule}

module _ {St : Type 0} (m : Moves St) (s : St) (every : EverySchedule m s) (sound : (v : List Item) → InWholeSections m s v → IsSafe m s v) where
  pub never_undefined : (w : List Item) → IsSafe m s w
  never_undefined w = (every sound w).0

  pub carried : (Q : St → Type 0) → ((v : List Item) → InWholeSections m s v → Q (run m s v)) → (w : List Item) → Q (run m s w)
  carried Q h w =
      let r = (every sound w).1 in
      subst Q r.1.same (h r.0 r.1.whole)

  -- the same, for schedules without wake-ups
  pub carried_calm : (Q : St → Type 0) → ((v : List Item) → InWholeSections m s v → is_calm v ≡ true → Q (run m s v)) →
      (w : List Item) → is_calm w ≡ true → Q (run m s w)
  carried_calm Q h w c =
      let r = (every sound w).1 in
      subst Q r.1.same (h r.0 r.1.whole (r.1.calm c))
