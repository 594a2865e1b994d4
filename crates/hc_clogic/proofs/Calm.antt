-- Schedules in whole sections and without wake-ups, by an invariant that a wake-up need not keep: what one thread does alone is all that is asked.
use Rattle.std.specs.Prelude.{◌≡◌, ℕ, zero, suc, true, false, List, [], ◌∷◌, Option, Some, None}
use Rattle.std.proofs.Common.{refl, sym, ap, ◌∙◌, subst}
use Rattle.std.proofs.lemmas.Bool.{eqb-true}
use Rattle.hc_schedule.specs.Sections.{Item, Step, Wake, steps, Moves, run, IsSafe, is_step_of, fits, InWholeSections, is_calm, EverySchedule}
use Rattle.hc_schedule.proofs.Laws.{Laws}
use Rattle.hc_schedule.proofs.Reduction.{Holds, run_more}
use Rattle.hc_schedule.proofs.Carried.{carried_calm}
use Rattle.hc_schedule.proofs.Reduction.{owner_held, holds_more, owns_now, stays}

no_wake : {A : Type 0} → (t : ℕ) (v : List Item) → is_calm (Wake t ∷ v) ≡ true → A
no_wake t v h = absurd (let x : false ≡ true = h in cc)

module _ {St : Type 0} (m : Moves St) (laws : Laws m) (Inv : St → Type 0)
    (section : (a : St) (o n : ℕ) → m.owner a ≡ None → Inv a → Holds m laws o a n →
    (m.undefined (run m a (steps o n)) (Step o) ≡ false) × (m.owner (run m a (steps o (suc n))) ≡ None → Inv (run m a (steps o (suc n))))) where
  -- What such a schedule comes to: a state that the invariant fits, and so many steps of one thread that then owns the mutex.
  pub record CalmlyReached (b : St) (v : List Item) : Type 0 where
    pub safe : IsSafe m b v
    pub at : St
    pub free : m.owner at ≡ None
    pub inv : Inv at
    pub by : ℕ
    pub held : ℕ
    pub holds : Holds m laws by at held
    pub ends : run m at (steps by held) ≡ run m b v

  later : (b : St) (i : Item) (v : List Item) → m.undefined b i ≡ false → CalmlyReached (m.next b i) v → CalmlyReached b (i ∷ v)
  later b i v d r = record { safe = (d, r.safe); at = r.at; free = r.free; inv = r.inv; by = r.by; held = r.held; holds = r.holds; ends = r.ends }

  abbrev pub CalmGoal : List Item → Type 0
  CalmGoal v =
      (a : St) (o n : ℕ) → m.owner a ≡ None → Inv a → Holds m laws o a n → InWholeSections m (run m a (steps o n)) v →
      CalmlyReached (run m a (steps o n)) v

  -- a step of the thread that goes on, or begins
  goes_on : (a : St) (o n : ℕ) (v : List Item) → CalmGoal v → m.owner a ≡ None → Inv a → Holds m laws o a n →
      InWholeSections m (m.next (run m a (steps o n)) (Step o)) v → (x : Option ℕ) → m.owner (m.next (run m a (steps o n)) (Step o)) ≡ x →
      CalmlyReached (run m a (steps o n)) (Step o ∷ v)
  goes_on a o n v ih f k h w (Some r) e =
      let at : run m a (steps o (suc n)) ≡ m.next (run m a (steps o n)) (Step o) = run_more m laws o a n in
      let same : r ≡ o = stays m laws a o n r h (owns_now m laws a o n f h) e in
      let h' : Holds m laws o a (suc n) = holds_more m laws o a n h (e ∙ ap Some same) in
      later (run m a (steps o n)) (Step o) v (section a o n f k h).0 (
      subst (λ (b : St). CalmlyReached b v) at (ih a o (suc n) f k h' (subst (λ (b : St). InWholeSections m b v) (sym at) w))
      )
  goes_on a o n v ih f k h w None e =
      let at : run m a (steps o (suc n)) ≡ m.next (run m a (steps o n)) (Step o) = run_more m laws o a n in
      let f' : m.owner (run m a (steps o (suc n))) ≡ None = ap m.owner at ∙ e in
      later (run m a (steps o n)) (Step o) v (section a o n f k h).0 (
      subst (λ (b : St). CalmlyReached b v) at (
      ih (run m a (steps o (suc n))) 0 0 f' ((section a o n f k h).1 f') tt (subst (λ (b : St). InWholeSections m b v) (sym at) w)
      )
      )

  from_free : (a : St) (i : Item) (v : List Item) → is_calm (i ∷ v) ≡ true → CalmGoal v → m.owner a ≡ None → Inv a → InWholeSections m (m.next a i) v →
      CalmlyReached a (i ∷ v)
  from_free a (Step t) v c ih f k w = goes_on a t 0 v ih f k tt w (m.owner (m.next a (Step t))) refl
  from_free a (Wake t) v c ih f k w = no_wake t v c

  from_held : (a : St) (o n : ℕ) (i : Item) (v : List Item) → CalmGoal v → m.owner a ≡ None → Inv a → Holds m laws o a (suc n) →
      is_step_of o i ≡ true → InWholeSections m (m.next (run m a (steps o (suc n))) i) v → CalmlyReached (run m a (steps o (suc n))) (i ∷ v)
  from_held a o n (Step t) v ih f k h e w =
      let same : t ≡ o = eqb-true t o e in
      subst (λ (q : ℕ). CalmlyReached (run m a (steps o (suc n))) (Step q ∷ v)) (sym same) (
      goes_on a o (suc n) v ih f k h (subst (λ (q : ℕ). InWholeSections m (m.next (run m a (steps o (suc n))) (Step q)) v) same w)
      (m.owner (m.next (run m a (steps o (suc n))) (Step o))) refl
      )
  from_held a o n (Wake t) v ih f k h e w = absurd (let x : false ≡ true = e in cc)

  calm_rest : (i : Item) (v : List Item) → is_calm (i ∷ v) ≡ true → is_calm v ≡ true
  calm_rest (Step t) v h = h
  calm_rest (Wake t) v h = no_wake t v h

  pub reaches_calm : (v : List Item) → is_calm v ≡ true → CalmGoal v
  reaches_calm [] c a o n f k h w = record { safe = tt; at = a; free = f; inv = k; by = o; held = n; holds = h; ends = refl }
  reaches_calm (i ∷ v) c a o zero f k h w = from_free a i v c (reaches_calm v (calm_rest i v c)) f k w.1
  reaches_calm (i ∷ v) c a o (suc n) f k h w =
      from_held a o n i v (reaches_calm v (calm_rest i v c)) f k h (sym (ap (λ (x : Option ℕ). fits x i) (owner_held m laws o a n h)) ∙ w.0) w.1

  -- no such schedule meets an undefined step
  pub sound_calm : (s : St) → m.owner s ≡ None → Inv s → (v : List Item) → is_calm v ≡ true → InWholeSections m s v → IsSafe m s v
  sound_calm s f k v c w = (reaches_calm v c s 0 0 f k tt w).safe

  -- Where no schedule is undefined, what holds of each state that the invariant reaches so holds after every schedule without wake-ups.
  pub carried_by : (s : St) → m.owner s ≡ None → Inv s → EverySchedule m s → ((v : List Item) → InWholeSections m s v → IsSafe m s v) →
      (Q : St → Type 0) → ((a : St) (o n : ℕ) → m.owner a ≡ None → Inv a → Holds m laws o a n → Q (run m a (steps o n))) →
      (w : List Item) → is_calm w ≡ true → Q (run m s w)
  carried_by s f k every sound Q h w c =
      carried_calm m s every sound Q
      (
      λ v whole calm.
      let r = reaches_calm v calm s 0 0 f k tt whole in
      subst Q r.ends (h r.at r.by r.held r.free r.inv r.holds)
      )
      w c
