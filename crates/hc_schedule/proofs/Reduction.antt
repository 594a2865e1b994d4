-- Every schedule has its like in whole sections: the proof, for any machine with these laws.
use Rattle.std.specs.Prelude.{◌≡◌, ◌⊎◌, ℕ, zero, suc, Bool, true, false, List, [], ◌∷◌, ◌++◌, Option, Some, None}
use Rattle.std.proofs.Common.{refl, sym, ap, subst, ◌∙◌, inl, inr, arith}
use Rattle.std.proofs.lemmas.Bool.{eqb-true, eq-eqb}
use Rattle.hc_schedule.specs.Sections.{Item, Step, Wake, steps, Moves, run, IsSafe, is_step_of, fits, InWholeSections, is_calm, EverySchedule, is_of, Swap}
use Rattle.hc_schedule.proofs.Laws.{Laws}

same_thread : (a b : ℕ) → ◌≡◌ {A = Option ℕ} (Some a) (Some b) → a ≡ b
same_thread a b e = grind arith

module _ {St : Type 0} (m : Moves St) (laws : Laws m) where
  -- ---- schedules one after the other

  pub run_append : (s : St) (u v : List Item) → run m s (u ++ v) ≡ run m (run m s u) v
  run_append s [] v = refl
  run_append s (i ∷ u) v = run_append (m.next s i) u v

  whole_append : (s : St) (u v : List Item) → InWholeSections m s u → InWholeSections m (run m s u) v → InWholeSections m s (u ++ v)
  whole_append s [] v h k = k
  whole_append s (i ∷ u) v h k = (h.0, whole_append (m.next s i) u v h.1 k)

  safe_later : (s : St) (u v : List Item) → IsSafe m s (u ++ v) → IsSafe m (run m s u) v
  safe_later s [] v h = h
  safe_later s (i ∷ u) v h = safe_later (m.next s i) u v h.1

  -- no schedule in whole sections from here meets an undefined step
  abbrev pub Sound : St → Type 0
  Sound s = (v : List Item) → InWholeSections m s v → IsSafe m s v

  sound_later : (s : St) (u : List Item) → Sound s → InWholeSections m s u → Sound (run m s u)
  sound_later s u h w = λ v k. safe_later s u v (h (u ++ v) (whole_append s u v w k))

  good_later : (s : St) (u : List Item) → laws.good s ≡ true → laws.good (run m s u) ≡ true
  good_later s [] g = g
  good_later s (i ∷ u) g = good_later (m.next s i) u (laws.stays_good s i g)

  -- ---- a section that thread o has begun: after each of these steps it owns the mutex

  abbrev pub Holds : ℕ → St → ℕ → Type 0
  Holds o a zero = Unit {0}
  Holds o a (suc n) = (m.owner (m.next a (Step o)) ≡ Some o) × Holds o (m.next a (Step o)) n

  pub owner_held : (o : ℕ) (a : St) (n : ℕ) → Holds o a (suc n) → m.owner (run m a (steps o (suc n))) ≡ Some o
  owner_held o a zero h = h.0
  owner_held o a (suc n) h = owner_held o (m.next a (Step o)) n h.1

  -- the steps of the section, and one more
  pub run_more : (o : ℕ) (a : St) (n : ℕ) → run m a (steps o (suc n)) ≡ m.next (run m a (steps o n)) (Step o)
  run_more o a zero = refl
  run_more o a (suc n) = run_more o (m.next a (Step o)) n

  pub holds_more : (o : ℕ) (a : St) (n : ℕ) → Holds o a n → m.owner (m.next (run m a (steps o n)) (Step o)) ≡ Some o → Holds o a (suc n)
  holds_more o a zero h e = (e, tt)
  holds_more o a (suc n) h e = (h.0, holds_more o (m.next a (Step o)) n h.1 e)

  fits_owner : (o : ℕ) (x : Option ℕ) → x ≡ Some o → fits x (Step o) ≡ true
  fits_owner o x e = subst (λ (y : Option ℕ). fits y (Step o) ≡ true) (sym e) (eq-eqb o o refl)

  pub fits_free : (i : Item) (x : Option ℕ) → x ≡ None → fits x i ≡ true
  fits_free i x e = subst (λ (y : Option ℕ). fits y i ≡ true) (sym e) refl

  pub held_whole : (o : ℕ) (a : St) (n : ℕ) → fits (m.owner a) (Step o) ≡ true → Holds o a n → InWholeSections m a (steps o (suc n))
  held_whole o a zero f h = (f, tt)
  held_whole o a (suc n) f h = (f, held_whole o (m.next a (Step o)) n (fits_owner o (m.owner (m.next a (Step o))) h.0) h.1)

  held_rest : (o : ℕ) (a : St) (n : ℕ) → m.owner a ≡ Some o → Holds o a n → InWholeSections m a (steps o n)
  held_rest o a zero e h = tt
  held_rest o a (suc n) e h = (fits_owner o (m.owner a) e, held_rest o (m.next a (Step o)) n h.0 h.1)

  held_whole_now : (o : ℕ) (a : St) (n : ℕ) → m.owner a ≡ None → Holds o a n → InWholeSections m a (steps o n)
  held_whole_now o a zero f h = tt
  held_whole_now o a (suc n) f h = (fits_free (Step o) (m.owner a) f, held_rest o (m.next a (Step o)) n h.0 h.1)

  safe_last : (o : ℕ) (a : St) (n : ℕ) → IsSafe m a (steps o (suc n)) → m.undefined (run m a (steps o n)) (Step o) ≡ false
  safe_last o a zero h = h.0
  safe_last o a (suc n) h = safe_last o (m.next a (Step o)) n h.1

  calm_steps : (o n : ℕ) → is_calm (steps o n) ≡ true
  calm_steps o zero = refl
  calm_steps o (suc n) = calm_steps o n

  -- ---- an item of another thread inside the section goes before it

  abbrev OwnerKept : St → Item → ℕ → Type 0
  OwnerKept a i zero = Unit {0}
  OwnerKept a i (suc n) = m.owner (m.next a i) ≡ m.owner a

  record Crossed (o : ℕ) (a : St) (n : ℕ) (i : Item) : Type 0 where
    busy : m.idle a i ≡ false
    undefined : m.undefined a i ≡ m.undefined (run m a (steps o n)) i
    owner : OwnerKept a i n
    holds : Holds o (m.next a i) n
    meet : run m (m.next a i) (steps o n) ≡ m.next (run m a (steps o n)) i

  cross_first : (o : ℕ) (a : St) (n : ℕ) (i : Item) → is_of o i ≡ false → m.owner (m.next a (Step o)) ≡ Some o →
      Crossed o (m.next a (Step o)) n i → (m.idle a i ≡ false) × Swap m a o i → Crossed o a (suc n) i
  cross_first o a n i f e k y =
      let x = y.1 in
      record {
        busy = y.0;
        undefined = x.undefined ∙ k.undefined;
        owner = x.owner;
        holds = (
          subst (λ (s : St). m.owner s ≡ Some o) (sym x.meet) (laws.keeps (m.next a (Step o)) o i e f),
          subst (λ (s : St). Holds o s n) (sym x.meet) k.holds,
        );
        meet = ap (λ (s : St). run m s (steps o n)) x.meet ∙ k.meet;
      }

  cross : (o : ℕ) (a : St) (n : ℕ) (i : Item) → laws.good a ≡ true → Holds o a n → is_of o i ≡ false →
      m.idle (run m a (steps o n)) i ≡ false → Crossed o a n i
  cross o a zero i g h f b = record { busy = b; undefined = refl; owner = tt; holds = tt; meet = refl }
  cross o a (suc n) i g h f b =
      let k = cross o (m.next a (Step o)) n i (laws.stays_good a (Step o) g) h.1 f b in
      cross_first o a n i f h.0 k (laws.swaps a o i g h.0 f k.busy)

  -- ---- the schedule from the left: a is the last state in which nobody owned the mutex, and b is where the schedule has come

  record Out (a b : St) (w : List Item) : Type 0 where
    safe : IsSafe m b w
    by : List Item
    whole : InWholeSections m a by
    same : run m a by ≡ run m b w
    calm : is_calm w ≡ true → is_calm by ≡ true

  abbrev Claim : List Item → Type 0
  Claim w = (a : St) (o n : ℕ) → laws.good a ≡ true → Sound a → m.owner a ≡ None → Holds o a n → Out a (run m a (steps o n)) w

  calm_item : (i : Item) (w : List Item) → is_calm (i ∷ w) ≡ true → is_calm w ≡ true
  calm_item (Step t) w h = h
  calm_item (Wake t) w h = cc

  -- one item more, which stands first in both
  both : (a b : St) (i : Item) (w : List Item) → m.owner a ≡ None → m.undefined a i ≡ false → m.undefined b i ≡ false →
      Out (m.next a i) (m.next b i) w → Out a b (i ∷ w)
  both a b i w f d d' x =
      record {
        safe = (d', x.safe);
        by = i ∷ x.by;
        whole = (fits_free i (m.owner a) f, x.whole);
        same = x.same;
        calm = calm_both i w x.by x.calm;
      }
    where
      calm_both : (i : Item) (w v : List Item) → (is_calm w ≡ true → is_calm v ≡ true) → is_calm (i ∷ w) ≡ true → is_calm (i ∷ v) ≡ true
      calm_both (Step t) w v h k = h k
      calm_both (Wake t) w v h k = cc

  -- one item more, which only the schedule has
  passed : (a b : St) (i : Item) (w : List Item) → m.undefined b i ≡ false → Out a (m.next b i) w → Out a b (i ∷ w)
  passed a b i w d x = record { safe = (d, x.safe); by = x.by; whole = x.whole; same = x.same; calm = λ h. x.calm (calm_item i w h) }

  -- ---- where nobody owns the mutex

  one_holds : (q : ℕ) (a : St) → m.owner (m.next a (Step q)) ≡ Some q → Holds q a 1
  one_holds q a e = (e, tt)

  free_by : (a : St) (i : Item) (w : List Item) → Claim w → laws.good a ≡ true → Sound a → m.owner a ≡ None → m.undefined a i ≡ false →
      (x : Option ℕ) → m.owner (m.next a i) ≡ x → Out a a (i ∷ w)
  free_by a i w ih g s f d None e =
      both a a i w f d d (ih (m.next a i) 0 0 (laws.stays_good a i g) (sound_later a (i ∷ []) s (fits_free i (m.owner a) f, tt)) e tt)
  free_by a i w ih g s f d (Some q) e = begun (laws.gains a i q e)
    where
      begun : (m.owner a ≡ Some q) ⊎ (i ≡ Step q) → Out a a (i ∷ w)
      begun (inl h) = absurd (let n : ◌≡◌ {A = Option ℕ} None (Some q) = sym f ∙ h in cc)
      begun (inr h) =
          let at : m.owner (m.next a (Step q)) ≡ Some q = subst (λ (j : Item). m.owner (m.next a j) ≡ Some q) h e in
          passed a a i w d (subst (λ (j : Item). Out a (m.next a j) w) (sym h) (ih a q 1 g s f (one_holds q a at)))

  free : (a : St) (i : Item) (w : List Item) → Claim w → laws.good a ≡ true → Sound a → m.owner a ≡ None → Out a a (i ∷ w)
  free a i w ih g s f = free_by a i w ih g s f (s (i ∷ []) (fits_free i (m.owner a) f, tt)).0 (m.owner (m.next a i)) refl

  -- ---- inside a section of thread o

  module _ (a : St) (o n : ℕ) (g : laws.good a ≡ true) (s : Sound a) (f : m.owner a ≡ None) (h : Holds o a (suc n)) (w : List Item) (ih : Claim w) where
    -- where the schedule has come
    abbrev here : St
    here = run m a (steps o (suc n))

    dropped : (i : Item) → m.idle here i ≡ true → Out a here (i ∷ w)
    dropped i d =
        let k = laws.idles here i d in
        passed a here i w k.0 (subst (λ (b : St). Out a b w) (sym k.1) (ih a o (suc n) g s f h))

    moved : (i : Item) → Crossed o a (suc n) i → Out a here (i ∷ w)
    moved i x =
        let d : m.undefined a i ≡ false = (s (i ∷ []) (fits_free i (m.owner a) f, tt)).0 in
        let out : Out (m.next a i) (run m (m.next a i) (steps o (suc n))) w =
        ih (m.next a i) o (suc n) (laws.stays_good a i g) (sound_later a (i ∷ []) s (fits_free i (m.owner a) f, tt)) (x.owner ∙ f) x.holds in
        both a here i w f d (sym x.undefined ∙ d) (subst (λ (b : St). Out (m.next a i) b w) x.meet out)

    foreign : (i : Item) → is_of o i ≡ false → (b : Bool) → m.idle here i ≡ b → Out a here (i ∷ w)
    foreign i k true e = dropped i e
    foreign i k false e = moved i (cross o a (suc n) i g h k e)

    -- the owner's step
    owners_by : m.undefined here (Step o) ≡ false → InWholeSections m a (steps o (suc (suc n))) → (x : Option ℕ) →
        m.owner (m.next here (Step o)) ≡ x → Out a here (Step o ∷ w)
    owners_by d k (Some r) e =
        let same : r ≡ o = owner_stays (laws.gains here (Step o) r e) in
        let more : Holds o a (suc (suc n)) = holds_more o a (suc n) h (e ∙ ap Some same) in
        passed a here (Step o) w d (subst (λ (b : St). Out a b w) (run_more o a (suc n)) (ih a o (suc (suc n)) g s f more))
      where
        owner_stays : (m.owner here ≡ Some r) ⊎ (Step o ≡ Step r) → r ≡ o
        owner_stays (inl p) = same_thread r o (sym p ∙ owner_held o a n h)
        owner_stays (inr p) = cc
    owners_by d k None e =
        let all = steps o (suc (suc n)) in
        let at : run m a all ≡ m.next here (Step o) = run_more o a (suc n) in
        let free_there : m.owner (run m a all) ≡ None = ap m.owner at ∙ e in
        let out : Out (run m a all) (run m a all) w = ih (run m a all) 0 0 (good_later a all g) (sound_later a all s k) free_there tt in
        passed a here (Step o) w d (
        record {
          safe = subst (λ (b : St). IsSafe m b w) at out.safe;
          by = all ++ out.by;
          whole = whole_append a all out.by k out.whole;
          same = run_append a all out.by ∙ out.same ∙ ap (λ (b : St). run m b w) at;
          calm = λ q. calm_after (suc (suc n)) out.by (out.calm q);
        }
        )
      where
        calm_after : (j : ℕ) (v : List Item) → is_calm v ≡ true → is_calm (steps o j ++ v) ≡ true
        calm_after zero v q = q
        calm_after (suc j) v q = calm_after j v q

    owners : Out a here (Step o ∷ w)
    owners =
        let k : InWholeSections m a (steps o (suc (suc n))) = held_whole o a (suc n) (fits_free (Step o) (m.owner a) f) h in
        owners_by (safe_last o a (suc n) (s (steps o (suc (suc n))) k)) k (m.owner (m.next here (Step o))) refl

    held_by : (i : Item) (b : Bool) → is_of o i ≡ b → Out a here (i ∷ w)
    held_by i false e = foreign i e (m.idle here i) refl
    held_by (Step t) true e = subst (λ (q : ℕ). Out a here (Step q ∷ w)) (sym (eqb-true t o e)) owners
    held_by (Wake t) true e =
        subst (λ (q : ℕ). Out a here (Wake q ∷ w)) (sym (eqb-true t o e)) (
        dropped (Wake o) (laws.awake here o (good_later a (steps o (suc n)) g) (owner_held o a n h))
        )

  claim : (w : List Item) → Claim w
  claim [] a o n g s f h = record { safe = tt; by = steps o n; whole = held_whole_now o a n f h; same = refl; calm = λ q. calm_steps o n }
  claim (i ∷ w) a o zero g s f h = free a i w (claim w) g s f
  claim (i ∷ w) a o (suc n) g s f h = held_by a o n g s f h w (claim w) i (is_of o i) refl

  pub every_schedule : (s : St) → laws.good s ≡ true → m.owner s ≡ None → EverySchedule m s
  every_schedule s g f h w =
      let out = claim w s 0 0 g h f tt in
      (out.safe, (out.by, record { whole = out.whole; same = out.same; calm = out.calm }))

-- ---- schedules in whole sections, by what one thread does alone

module _ {St : Type 0} (m : Moves St) (laws : Laws m) where
  -- what the owner's step leaves owned is still its own
  pub stays : (a : St) (o n r : ℕ) → Holds m laws o a n → (m.owner (run m a (steps o n)) ≡ None) ⊎ (m.owner (run m a (steps o n)) ≡ Some o) →
      m.owner (m.next (run m a (steps o n)) (Step o)) ≡ Some r → r ≡ o
  stays a o n r h own e = by (laws.gains (run m a (steps o n)) (Step o) r e) own
    where
      by : (m.owner (run m a (steps o n)) ≡ Some r) ⊎ (Step o ≡ Step r) → (m.owner (run m a (steps o n)) ≡ None) ⊎ (m.owner (run m a (steps o n)) ≡ Some o) → r ≡ o
      by (inl p) (inl q) = absurd (let n : ◌≡◌ {A = Option ℕ} None (Some r) = sym q ∙ p in cc)
      by (inl p) (inr q) = same_thread r o (sym p ∙ q)
      by (inr p) q = cc

  -- who owns the mutex after the steps
  pub owns_now : (a : St) (o n : ℕ) → m.owner a ≡ None → Holds m laws o a n → (m.owner (run m a (steps o n)) ≡ None) ⊎ (m.owner (run m a (steps o n)) ≡ Some o)
  owns_now a o zero f h = inl f
  owns_now a o (suc n) f h = inr (owner_held m laws o a n h)

module _ {St : Type 0} (m : Moves St) (laws : Laws m) (Inv : St → Type 0)
    (section : (a : St) (o n : ℕ) → m.owner a ≡ None → Inv a → Holds m laws o a n →
    (m.undefined (run m a (steps o n)) (Step o) ≡ false) × (m.owner (run m a (steps o (suc n))) ≡ None → Inv (run m a (steps o (suc n)))))
    (wake : (a : St) (t : ℕ) → m.owner a ≡ None → Inv a → (m.undefined a (Wake t) ≡ false) × Inv (m.next a (Wake t))) where
  -- What a schedule in whole sections comes to: a state that the invariant fits, and so many steps of one thread that then owns the mutex.
  pub record Reached (b : St) (v : List Item) : Type 0 where
    pub safe : IsSafe m b v
    pub at : St
    pub free : m.owner at ≡ None
    pub inv : Inv at
    pub by : ℕ
    pub held : ℕ
    pub holds : Holds m laws by at held
    pub ends : run m at (steps by held) ≡ run m b v

  later : (b : St) (i : Item) (v : List Item) → m.undefined b i ≡ false → Reached (m.next b i) v → Reached b (i ∷ v)
  later b i v d r = record { safe = (d, r.safe); at = r.at; free = r.free; inv = r.inv; by = r.by; held = r.held; holds = r.holds; ends = r.ends }

  abbrev pub Goal : List Item → Type 0
  Goal v = (a : St) (o n : ℕ) → m.owner a ≡ None → Inv a → Holds m laws o a n → InWholeSections m (run m a (steps o n)) v → Reached (run m a (steps o n)) v

  -- a step of the thread that goes on, or begins
  goes_on : (a : St) (o n : ℕ) (v : List Item) → Goal v → m.owner a ≡ None → Inv a → Holds m laws o a n →
      InWholeSections m (m.next (run m a (steps o n)) (Step o)) v → (x : Option ℕ) → m.owner (m.next (run m a (steps o n)) (Step o)) ≡ x →
      Reached (run m a (steps o n)) (Step o ∷ v)
  goes_on a o n v ih f k h w (Some r) e =
      let at : run m a (steps o (suc n)) ≡ m.next (run m a (steps o n)) (Step o) = run_more m laws o a n in
      let same : r ≡ o = stays m laws a o n r h (owns_now m laws a o n f h) e in
      let h' : Holds m laws o a (suc n) = holds_more m laws o a n h (e ∙ ap Some same) in
      later (run m a (steps o n)) (Step o) v (section a o n f k h).0 (
      subst (λ (b : St). Reached b v) at (ih a o (suc n) f k h' (subst (λ (b : St). InWholeSections m b v) (sym at) w))
      )
  goes_on a o n v ih f k h w None e =
      let at : run m a (steps o (suc n)) ≡ m.next (run m a (steps o n)) (Step o) = run_more m laws o a n in
      let f' : m.owner (run m a (steps o (suc n))) ≡ None = ap m.owner at ∙ e in
      later (run m a (steps o n)) (Step o) v (section a o n f k h).0 (
      subst (λ (b : St). Reached b v) at (
      ih (run m a (steps o (suc n))) 0 0 f' ((section a o n f k h).1 f') tt (subst (λ (b : St). InWholeSections m b v) (sym at) w)
      )
      )

  from_free : (a : St) (i : Item) (v : List Item) → Goal v → m.owner a ≡ None → Inv a → InWholeSections m (m.next a i) v → Reached a (i ∷ v)
  from_free a (Step t) v ih f k w = goes_on a t 0 v ih f k tt w (m.owner (m.next a (Step t))) refl
  from_free a (Wake t) v ih f k w =
      let x = wake a t f k in
      let f' : m.owner (m.next a (Wake t)) ≡ None = still (m.owner (m.next a (Wake t))) refl in
      later a (Wake t) v x.0 (ih (m.next a (Wake t)) 0 0 f' x.1 tt w)
    where
      no_gain : (q : ℕ) → (m.owner a ≡ Some q) ⊎ (Wake t ≡ Step q) → ⊥
      no_gain q (inl p) = let n : ◌≡◌ {A = Option ℕ} None (Some q) = sym f ∙ p in cc
      no_gain q (inr p) = cc

      still : (x : Option ℕ) → m.owner (m.next a (Wake t)) ≡ x → m.owner (m.next a (Wake t)) ≡ None
      still None e = e
      still (Some q) e = absurd (no_gain q (laws.gains a (Wake t) q e))

  from_held : (a : St) (o n : ℕ) (i : Item) (v : List Item) → Goal v → m.owner a ≡ None → Inv a → Holds m laws o a (suc n) →
      is_step_of o i ≡ true → InWholeSections m (m.next (run m a (steps o (suc n))) i) v → Reached (run m a (steps o (suc n))) (i ∷ v)
  from_held a o n (Step t) v ih f k h e w =
      let same : t ≡ o = eqb-true t o e in
      subst (λ (q : ℕ). Reached (run m a (steps o (suc n))) (Step q ∷ v)) (sym same) (
      goes_on a o (suc n) v ih f k h (subst (λ (q : ℕ). InWholeSections m (m.next (run m a (steps o (suc n))) (Step q)) v) same w)
      (m.owner (m.next (run m a (steps o (suc n))) (Step o))) refl
      )
  from_held a o n (Wake t) v ih f k h e w = absurd (let x : false ≡ true = e in cc)

  pub reaches : (v : List Item) → Goal v
  reaches [] a o n f k h w = record { safe = tt; at = a; free = f; inv = k; by = o; held = n; holds = h; ends = refl }
  reaches (i ∷ v) a o zero f k h w = from_free a i v (reaches v) f k w.1
  reaches (i ∷ v) a o (suc n) f k h w =
      from_held a o n i v (reaches v) f k h (sym (ap (λ (x : Option ℕ). fits x i) (owner_held m laws o a n h)) ∙ w.0) w.1

  -- So no schedule in whole sections meets an undefined step; and by the above none does.
  pub sound_by : (s : St) → m.owner s ≡ None → Inv s → (v : List Item) → InWholeSections m s v → IsSafe m s v
  sound_by s f k v w = (reaches v s 0 0 f k tt w).safe
