-- A thread that owns the mutex, alone, is the machine.
use Rattle.std.specs.Prelude.{◌≡◌, ◌⊎◌, ℕ, zero, suc, ◌+◌, ◌≤◌, Bool, true, false, if◌then◌else◌, List, [], ◌∷◌, ◌++◌, map, slice_get, Option, Some, None, option_map}
use Rattle.std.proofs.Common.{refl, sym, ap, subst, ◌∙◌, inl, inr, arith, set}
use Rattle.std.proofs.lemmas.Bool.{eq-eqb}
use Rattle.std.proofs.lemmas.List.{map-set}
use Rattle.std.proofs.lemmas.Option.{slice_get-map, same_Some}
use Rattle.hc_schedule.specs.declared.status.Status.TheVariants.{Ready}
use Rattle.hc_schedule.specs.Sections.{Item, Step, steps, Moves, run, IsSafe, InWholeSections}
use Rattle.hc_schedule.specs.Threads.{Thread, World, Act, Goes, Locks, Unlocks, Waits, Wakes, Works, Prints, Retakes, Turn, Does, Answer, Over, Takes, Code, Hold, Mine, Others, hold, allowed, answer_of, answer_at, answer, stirred_thread, put, applied}
use Rattle.hc_schedule.specs.Schedule.{State, did, after, next, is_fault, undefined, moves}
use Rattle.hc_schedule.specs.Solo.{Solo, solo_act, solo_turn, solo, then_solo, solos, stirred_by, within, begun, gives_up, RunsAlone, IsSection, SectionsRunAlone}
use Rattle.hc_schedule.proofs.Reduction.{Holds, run_more, fits_free, held_whole}
use Rattle.hc_schedule.proofs.ThreadLaws.{thread_laws}

pub get_same : {A : Type 0} → (l : List A) (i : ℕ) (x y : A) → slice_get l i ≡ Some x → slice_get (set l i y) i ≡ Some y
get_same [] i x y e = absurd cc
get_same (z ∷ l) zero x y e = refl
get_same (z ∷ l) (suc i) x y e = get_same l i x y e

pub set_twice : {A : Type 0} → (l : List A) (i : ℕ) (x y : A) → set (set l i x) i y ≡ set l i y
set_twice [] i x y = refl
set_twice (z ∷ l) zero x y = refl
set_twice (z ∷ l) (suc i) x y = ap (λ zs. z ∷ zs) (set_twice l i x y)

pub there_stirred : {P : Type 0} → (ks : List ℕ) (ths : List (Thread P)) (t : ℕ) → (th : Thread P) × (slice_get ths t ≡ Some th) →
    (th : Thread P) × (slice_get (stirred_by ks ths) t ≡ Some th)
there_stirred [] ths t h = h
there_stirred (k ∷ ks) ths t h =
    let m = there_stirred ks ths t h in
    (stirred_thread k m.0, slice_get-map (stirred_thread k) (stirred_by ks ths) t ∙ ap (option_map (stirred_thread k)) m.1)

hold_mine : (t : ℕ) → hold (Some t) t ≡ Mine
hold_mine t = ap (λ (b : Bool). if b then Mine else Others) (eq-eqb t t refl)

-- what the owner's step comes to
pub answer_within : {P S L F : Type 0} → (c : Code P S L F) (a : State P S L) (t : ℕ) (x : Solo P S L) (n : ℕ) → (th : Thread P) × (slice_get a.world.threads t ≡ Some th) →
    answer c (within a t x n).world t ≡ answer_of c Mine (c.turn t x.own (Some x.shared))
answer_within {P = P} c a t x n h =
    let m = there_stirred x.wakes a.world.threads t h in
    ap (λ (y : Hold). answer_at c y x.shared t (slice_get (put (stirred_by x.wakes a.world.threads) t x.own Ready) t)) (hold_mine t)
    ∙ ap (λ (y : Option (Thread P)). answer_at c Mine x.shared t y)
    (get_same (stirred_by x.wakes a.world.threads) t m.0 (record { own = x.own; status = Ready }) m.1)

map_snoc : {A B : Type 0} → (f : A → B) (xs : List A) (y : A) → map f (xs ++ y ∷ []) ≡ map f xs ++ f y ∷ []
map_snoc f [] y = refl
map_snoc f (x ∷ xs) y = ap (λ ys. f x ∷ ys) (map_snoc f xs y)

append_more : {A : Type 0} → (xs ys zs : List A) → (xs ++ ys) ++ zs ≡ xs ++ (ys ++ zs)
append_more [] ys zs = refl
append_more (x ∷ xs) ys zs = ap (λ l. x ∷ l) (append_more xs ys zs)

same_within : {P S L : Type 0} → (t : ℕ) (s : S) (ths ths' : List (Thread P)) (ls ls' : List (ℕ × L)) (n n' : ℕ) → ths ≡ ths' → ls ≡ ls' → n ≡ n' →
    ◌≡◌ {A = State P S L}
    (record { world = record { owner = Some t; shared = s; threads = ths }; lines = ls; moved = n })
    (record { world = record { owner = Some t; shared = s; threads = ths' }; lines = ls'; moved = n' })
same_within {P = P} {L = L} t s ths ths' ls ls' n n' e k l =
    ap (λ (z : List (Thread P)). record { world = record { owner = Some t; shared = s; threads = z }; lines = ls; moved = n }) e
    ∙ ap (λ (z : List (ℕ × L)). record { world = record { owner = Some t; shared = s; threads = ths' }; lines = z; moved = n }) k
    ∙ ap (λ (z : ℕ). record { world = record { owner = Some t; shared = s; threads = ths' }; lines = ls'; moved = z }) l

one_more : (a n : ℕ) → a + n + 1 ≡ a + suc n
one_more a n = omega arith

-- one step inside the section
record Goes_on {P S L F : Type 0} (c : Code P S L F) (a : State P S L) (t : ℕ) (x y : Solo P S L) (n : ℕ) (r : Answer P S L F) : Type 0 where
  defined : is_fault r ≡ false
  comes : after (within a t x n) t r ≡ within a t y (suc n)

pub put_twice : {P : Type 0} → (ths : List (Thread P)) (t : ℕ) (p q : P) → put (put ths t p Ready) t q Ready ≡ put ths t q Ready
put_twice ths t p q = set_twice ths t (record { own = p; status = Ready }) (record { own = q; status = Ready })

solo_more : {A : Type 0} → (f : A → Option A) (x : Option A) (q : A) → then_solo f x ≡ Some q → (p : A) × (x ≡ Some p) × (f p ≡ Some q)
solo_more f None q e = absurd cc
solo_more f (Some p) q e = (p, refl, e)

goes_on_act : {P S L F : Type 0} → (c : Code P S L F) (a : State P S L) (t : ℕ) (x y : Solo P S L) (n : ℕ) (act : Act P S L) → solo_act x act ≡ Some y →
    Goes_on c a t x y n (allowed c Mine act)
goes_on_act {P = P} {S = S} {L = L} c a t x y n (Goes p) e =
    subst (λ (z : Solo P S L). Goes_on c a t x z n (Takes (Goes p))) (same_Some _ y e) (
    record { defined = refl; comes = same_within t x.shared _ _ _ _ _ _ (put_twice (stirred_by x.wakes a.world.threads) t x.own p) refl (one_more a.moved n) }
    )
goes_on_act {P = P} {S = S} {L = L} c a t x y n (Works p s) e =
    subst (λ (z : Solo P S L). Goes_on c a t x z n (Takes (Works p s))) (same_Some _ y e) (
    record { defined = refl; comes = same_within t s _ _ _ _ _ _ (put_twice (stirred_by x.wakes a.world.threads) t x.own p) refl (one_more a.moved n) }
    )
goes_on_act {P = P} {S = S} {L = L} c a t x y n (Prints p l) e =
    subst (λ (z : Solo P S L). Goes_on c a t x z n (Takes (Prints p l))) (same_Some _ y e) (
    record {
      defined = refl;
      comes =
          same_within t x.shared _ _ _ _ _ _ (put_twice (stirred_by x.wakes a.world.threads) t x.own p)
          (append_more a.lines (map (λ (z : L). (t, z)) x.lines) ((t, l) ∷ []) ∙ ap (λ (z : List (ℕ × L)). a.lines ++ z) (sym (map_snoc (λ (z : L). (t, z)) x.lines l)))
          (one_more a.moved n);
    }
    )
goes_on_act {P = P} {S = S} {L = L} c a t x y n (Wakes k p) e =
    subst (λ (z : Solo P S L). Goes_on c a t x z n (Takes (Wakes k p))) (same_Some _ y e) (
    record {
      defined = refl;
      comes =
          same_within t x.shared _ _ _ _ _ _
          (
          ap (map (stirred_thread k)) (put_twice (stirred_by x.wakes a.world.threads) t x.own p)
          ∙ map-set (stirred_thread k) (stirred_by x.wakes a.world.threads) t (record { own = p; status = Ready })
          )
          refl (one_more a.moved n);
    }
    )
goes_on_act c a t x y n act e = absurd cc

goes_on_turn : {P S L F : Type 0} → (c : Code P S L F) (a : State P S L) (t : ℕ) (x y : Solo P S L) (n : ℕ) (u : Turn P S L F) → solo_turn x u ≡ Some y →
    Goes_on c a t x y n (answer_of c Mine u)
goes_on_turn c a t x y n (Does act) e = goes_on_act c a t x y n act e
goes_on_turn c a t x y n u e = absurd cc

-- the state after a step inside the section
next_within : {P S L F : Type 0} → (c : Code P S L F) (a : State P S L) (t : ℕ) (x y : Solo P S L) (n : ℕ) → (th : Thread P) × (slice_get a.world.threads t ≡ Some th) →
    solo c t x ≡ Some y → (undefined c (within a t x n) (Step t) ≡ false) × (next c (within a t x n) (Step t) ≡ within a t y (suc n))
next_within c a t x y n h e =
    let g = goes_on_turn c a t x y n (c.turn t x.own (Some x.shared)) e in
    let r = answer_within c a t x n h in
    (ap is_fault r ∙ g.defined, ap (after (within a t x n) t) r ∙ g.comes)

-- the state after n of them, none of which is undefined, and after each of which the thread owns the mutex
pub record Alone_for {P S L F : Type 0} (c : Code P S L F) (a : State P S L) (t : ℕ) (x y : Solo P S L) (j n : ℕ) : Type 0 where
  pub safe : IsSafe (moves c) (within a t x j) (steps t n)
  pub holds : Holds (moves c) (thread_laws c) t (within a t x j) n
  pub ends : run (moves c) (within a t x j) (steps t n) ≡ within a t y (j + n)

first_step : {P S L F : Type 0} → (c : Code P S L F) (a : State P S L) (t : ℕ) (x m y : Solo P S L) (j n : ℕ) →
    (undefined c (within a t x j) (Step t) ≡ false) × (next c (within a t x j) (Step t) ≡ within a t m (suc j)) →
    Alone_for c a t m y (suc j) n → Alone_for c a t x y j (suc n)
first_step {P = P} {S = S} {L = L} c a t x m y j n k r =
    let same : suc j + n ≡ j + suc n = omega arith in
    record {
      safe = (k.0, subst (λ (z : State P S L). IsSafe (moves c) z (steps t n)) (sym k.1) r.safe);
      holds = (ap (λ (z : State P S L). z.world.owner) k.1, subst (λ (z : State P S L). Holds (moves c) (thread_laws c) t z n) (sym k.1) r.holds);
      ends = ap (λ (z : State P S L). run (moves c) z (steps t n)) k.1 ∙ r.ends ∙ ap (within a t y) same;
    }

pub alone_for : {P S L F : Type 0} → (c : Code P S L F) (a : State P S L) (t : ℕ) (x y : Solo P S L) (j n : ℕ) → (th : Thread P) × (slice_get a.world.threads t ≡ Some th) →
    solos c t n x ≡ Some y → Alone_for c a t x y j n
alone_for c a t x y j zero h e =
    let same : j ≡ j + zero = omega arith in
    record { safe = tt; holds = tt; ends = ap (λ z. within a t z j) (same_Some x y e) ∙ ap (within a t y) same }
alone_for c a t x y j (suc n) h e =
    let m = solo_more (solos c t n) (solo c t x) y e in
    first_step c a t x m.0 y j n (next_within c a t x m.0 j h m.1) (alone_for c a t m.0 y (suc j) n h m.2)

-- ---- a whole section

pub split_solos : {P S L F : Type 0} → (c : Code P S L F) (t n most : ℕ) (x y : Solo P S L) → n ≤ most → solos c t most x ≡ Some y →
    (z : Solo P S L) × (k : ℕ) × (solos c t n x ≡ Some z) × (solos c t k z ≡ Some y) × (n + k ≡ most)
split_solos c t zero most x y h e = (x, most, refl, e, omega arith)
split_solos c t (suc n) zero x y h e = absurd (omega arith)
split_solos c t (suc n) (suc most) x y h e =
    let m = solo_more (solos c t most) (solo c t x) y e in
    let r = split_solos c t n most m.0 y (omega arith) m.2 in
    let same : n + r.1 ≡ most = r.4 in
    (r.0, r.1, ap (then_solo (solos c t n)) m.1 ∙ r.2, r.3, omega (arith, same))

-- the thread gives the mutex up there
pub record Leaves {P S L F : Type 0} (c : Code P S L F) (a : State P S L) (t : ℕ) (y : Solo P S L) : Type 0 where
  pub defined : (j : ℕ) → undefined c (within a t y j) (Step t) ≡ false
  pub free : (j : ℕ) → (next c (within a t y j) (Step t)).world.owner ≡ None

pub not_both : {A : Type 0} → (x : Option ℕ) (t : ℕ) → x ≡ None → x ≡ Some t → A
not_both x t e k = absurd (let n : ◌≡◌ {A = Option ℕ} None (Some t) = sym e ∙ k in cc)

pub held_within : {P S L F : Type 0} → (c : Code P S L F) (a : State P S L) (t n most j : ℕ) (x y : Solo P S L) → (th : Thread P) × (slice_get a.world.threads t ≡ Some th) →
    Leaves c a t y → solos c t most x ≡ Some y → Holds (moves c) (thread_laws c) t (within a t x j) n → n ≤ most
held_within c a t zero most j x y h l e k = omega arith
held_within {P = P} {S = S} {L = L} c a t (suc n) zero j x y h l e k =
    let at : (next c (within a t x j) (Step t)).world.owner ≡ None =
    ap (λ (z : Solo P S L). (next c (within a t z j) (Step t)).world.owner) (same_Some x y e) ∙ l.free j in
    not_both (next c (within a t x j) (Step t)).world.owner t at k.0
held_within {P = P} {S = S} {L = L} c a t (suc n) (suc most) j x y h l e k =
    let m = solo_more (solos c t most) (solo c t x) y e in
    let g = next_within c a t x m.0 j h m.1 in
    let less : n ≤ most = held_within c a t n most (suc j) m.0 y h l m.2 (subst (λ (z : State P S L). Holds (moves c) (thread_laws c) t z n) g.1 k.1) in
    omega (arith, less)

-- What sections ask for, from a run of the thread alone.
module _ {P S L F : Type 0} (c : Code P S L F) (a : State P S L) (t : ℕ) (x y : Solo P S L) (most : ℕ)
    (there : (th : Thread P) × (slice_get a.world.threads t ≡ Some th))
    (defined : undefined c a (Step t) ≡ false) (enters : next c a (Step t) ≡ within a t x 1)
    (alone : solos c t most x ≡ Some y) (leaves : Leaves c a t y) where
  abbrev Fine : ℕ → Type 0
  Fine n =
      (undefined c (run (moves c) a (steps t n)) (Step t) ≡ false)
      × ((run (moves c) a (steps t (suc n))).world.owner ≡ None → run (moves c) a (steps t (suc n)) ≡ next c (within a t y (1 + most)) (Step t))

  fine_first : Fine 0
  fine_first = (defined, λ f. not_both (next c a (Step t)).world.owner t f (ap (λ (z : State P S L). z.world.owner) enters))

  -- the state after k steps more
  after_held : (k : ℕ) (z : Solo P S L) → solos c t k x ≡ Some z → run (moves c) a (steps t (suc k)) ≡ within a t z (1 + k)
  after_held k z e = ap (λ (b : State P S L). run (moves c) b (steps t k)) enters ∙ (alone_for c a t x z 1 k there e).ends

  fine_by : (k : ℕ) (z : Solo P S L) (r : ℕ) → solos c t k x ≡ Some z → solos c t r z ≡ Some y → k + r ≡ most → Fine (suc k)
  fine_by k z zero e g s =
      let same : k ≡ most = omega (arith, s) in
      let at : run (moves c) a (steps t (suc k)) ≡ within a t y (1 + k) = after_held k z e ∙ ap (λ (w : Solo P S L). within a t w (1 + k)) (same_Some z y g) in (
        ap (λ (b : State P S L). undefined c b (Step t)) at ∙ leaves.defined (1 + k),
        λ f. run_more (moves c) (thread_laws c) t a (suc k) ∙ ap (λ (b : State P S L). next c b (Step t)) at
            ∙ ap (λ (n : ℕ). next c (within a t y (1 + n)) (Step t)) same,
      )
  fine_by k z (suc r) e g s =
      let m = solo_more (solos c t r) (solo c t z) y g in
      let at = after_held k z e in
      let b = next_within c a t z m.0 (1 + k) there m.1 in
      let owned : (run (moves c) a (steps t (suc (suc k)))).world.owner ≡ Some t =
      ap (λ (w : State P S L). w.world.owner) (run_more (moves c) (thread_laws c) t a (suc k) ∙ ap (λ (w : State P S L). next c w (Step t)) at ∙ b.1) in
      (ap (λ (w : State P S L). undefined c w (Step t)) at ∙ b.0, λ f. not_both (run (moves c) a (steps t (suc (suc k)))).world.owner t f owned)

  -- every step of the section is defined, and the section ends where the thread alone gives the mutex up
  pub section_alone : (n : ℕ) → Holds (moves c) (thread_laws c) t a n → Fine n
  section_alone zero h = fine_first
  section_alone (suc k) h =
      let k' = held_within c a t k most 1 x y there leaves alone (subst (λ (b : State P S L). Holds (moves c) (thread_laws c) t b k) enters h.1) in
      let r = split_solos c t k most x y k' alone in
      fine_by k r.0 r.1 r.2 r.3 r.4

-- ---- how a section begins and ends

no_lines : {A : Type 0} → (xs : List A) → xs ≡ xs ++ []
no_lines [] = refl
no_lines (x ∷ xs) = ap (λ ys. x ∷ ys) (no_lines xs)

begun_state : {P S L : Type 0} → (a : State P S L) (t : ℕ) (p : P) →
    ◌≡◌ {A = State P S L} (record { world = record { owner = Some t; shared = a.world.shared; threads = put a.world.threads t p Ready }; lines = a.lines; moved = a.moved + 1 }) (within a t (begun a p) 1)
begun_state a t p = same_within t a.world.shared _ _ _ _ _ _ refl (no_lines a.lines) refl

pub locked : {P S L F : Type 0} → (c : Code P S L F) (a : State P S L) (t : ℕ) (p : P) → answer c a.world t ≡ Takes (Locks p) →
    (undefined c a (Step t) ≡ false) × (next c a (Step t) ≡ within a t (begun a p) 1)
locked c a t p e = (ap is_fault e, ap (after a t) e ∙ begun_state a t p)

pub retaken : {P S L F : Type 0} → (c : Code P S L F) (a : State P S L) (t : ℕ) (p : P) → answer c a.world t ≡ Takes (Retakes p) →
    (undefined c a (Step t) ≡ false) × (next c a (Step t) ≡ within a t (begun a p) 1)
retaken c a t p e = (ap is_fault e, ap (after a t) e ∙ begun_state a t p)

leaves_by : {P S L F : Type 0} → (c : Code P S L F) (a : State P S L) (t : ℕ) (y : Solo P S L) (act : Act P S L) → (th : Thread P) × (slice_get a.world.threads t ≡ Some th) →
    c.turn t y.own (Some y.shared) ≡ Does act → allowed c Mine act ≡ Takes act → ((w : World P S) → (applied w t act).owner ≡ None) → Leaves c a t y
leaves_by {P = P} {S = S} {L = L} {F = F} c a t y act there e k free =
    let at : (j : ℕ) → answer c (within a t y j).world t ≡ Takes act = λ j. answer_within c a t y j there ∙ ap (answer_of c Mine) e ∙ k in
    record {
      defined = λ j. ap is_fault (at j);
      free = λ j. ap (λ (r : Answer P S L F). (after (within a t y j) t r).world.owner) (at j) ∙ free (within a t y j).world;
    }

pub leaves_unlocking : {P S L F : Type 0} → (c : Code P S L F) (a : State P S L) (t : ℕ) (y : Solo P S L) (p : P) → (th : Thread P) × (slice_get a.world.threads t ≡ Some th) →
    c.turn t y.own (Some y.shared) ≡ Does (Unlocks p) → Leaves c a t y
leaves_unlocking c a t y p there e = leaves_by c a t y (Unlocks p) there e refl (λ w. refl)

pub leaves_waiting : {P S L F : Type 0} → (c : Code P S L F) (a : State P S L) (t : ℕ) (y : Solo P S L) (k : ℕ) (p : P) → (th : Thread P) × (slice_get a.world.threads t ≡ Some th) →
    c.turn t y.own (Some y.shared) ≡ Does (Waits k p) → Leaves c a t y
leaves_waiting c a t y k p there e = leaves_by c a t y (Waits k p) there e refl (λ w. refl)

-- the state after the section
pub left_unlocking : {P S L F : Type 0} → (c : Code P S L F) (a : State P S L) (t : ℕ) (y : Solo P S L) (p : P) (n : ℕ) → (th : Thread P) × (slice_get a.world.threads t ≡ Some th) →
    c.turn t y.own (Some y.shared) ≡ Does (Unlocks p) → next c (within a t y n) (Step t) ≡ did (within a t y n) t (Unlocks p)
left_unlocking c a t y p n there e = ap (after (within a t y n) t) (answer_within c a t y n there ∙ ap (answer_of c Mine) e)

pub left_waiting : {P S L F : Type 0} → (c : Code P S L F) (a : State P S L) (t : ℕ) (y : Solo P S L) (k : ℕ) (p : P) (n : ℕ) → (th : Thread P) × (slice_get a.world.threads t ≡ Some th) →
    c.turn t y.own (Some y.shared) ≡ Does (Waits k p) → next c (within a t y n) (Step t) ≡ did (within a t y n) t (Waits k p)
left_waiting c a t y k p n there e = ap (after (within a t y n) t) (answer_within c a t y n there ∙ ap (answer_of c Mine) e)

-- one run alone after another
pub solos_join : {P S L F : Type 0} → (c : Code P S L F) (t n k : ℕ) (x z y : Solo P S L) → solos c t n x ≡ Some z → solos c t k z ≡ Some y → solos c t (n + k) x ≡ Some y
solos_join {P = P} {S = S} {L = L} c t zero k x z y e g =
    let same : zero + k ≡ k = omega arith in
    ap (λ (i : ℕ). solos c t i x) same ∙ ap (solos c t k) (same_Some x z e) ∙ g
solos_join {P = P} {S = S} {L = L} c t (suc n) k x z y e g =
    let same : suc n + k ≡ suc (n + k) = omega arith in
    let m = solo_more (solos c t n) (solo c t x) z e in
    ap (λ (i : ℕ). solos c t i x) same ∙ ap (then_solo (solos c t (n + k))) m.1 ∙ solos_join c t n k m.0 z y m.2 g

-- ---- what a thread does alone is a section

safe_more : {St : Type 0} → (m : Moves St) (a : St) (t n : ℕ) → IsSafe m a (steps t n) → m.undefined (run m a (steps t n)) (Step t) ≡ false → IsSafe m a (steps t (suc n))
safe_more m a t zero h e = (e, tt)
safe_more m a t (suc n) h e = (h.0, safe_more m (m.next a (Step t)) t n h.1 e)

-- a thread that takes something is there
takes_there : {P S L F : Type 0} → (c : Code P S L F) (a : State P S L) (t : ℕ) (act : Act P S L) → answer c a.world t ≡ Takes act →
    (th : Thread P) × (slice_get a.world.threads t ≡ Some th)
takes_there {P = P} {S = S} {L = L} {F = F} c a t act e = by (slice_get a.world.threads t) refl
  where
    by : (x : Option (Thread P)) → slice_get a.world.threads t ≡ x → (th : Thread P) × (slice_get a.world.threads t ≡ Some th)
    by (Some th) z = (th, z)
    by None z =
        absurd (let n : ◌≡◌ {A = Answer P S L F} Over (Takes act) = sym (ap (answer_at c (hold a.world.owner t) a.world.shared t) z) ∙ e in cc)

pub record Entered {P S L F : Type 0} (c : Code P S L F) (a : State P S L) (t : ℕ) (own : P) : Type 0 where
  pub there : (th : Thread P) × (slice_get a.world.threads t ≡ Some th)
  pub defined : undefined c a (Step t) ≡ false
  pub within_is : next c a (Step t) ≡ within a t (begun a own) 1

pub entered : {P S L F : Type 0} → (c : Code P S L F) (a : State P S L) (t : ℕ) (own : P) →
    (answer c a.world t ≡ Takes (Locks own)) ⊎ (answer c a.world t ≡ Takes (Retakes own)) → Entered c a t own
entered c a t own (inl e) = let l = locked c a t own e in record { there = takes_there c a t (Locks own) e; defined = l.0; within_is = l.1 }
entered c a t own (inr e) = let l = retaken c a t own e in record { there = takes_there c a t (Retakes own) e; defined = l.0; within_is = l.1 }

may_give_up : {P S L F : Type 0} → (c : Code P S L F) (act : Act P S L) → gives_up act ≡ true → allowed c Mine act ≡ Takes act
may_give_up c (Goes p) e = absurd cc
may_give_up c (Locks p) e = absurd cc
may_give_up c (Unlocks p) e = refl
may_give_up c (Waits k p) e = refl
may_give_up c (Wakes k p) e = absurd cc
may_give_up c (Works p s) e = absurd cc
may_give_up c (Prints p l) e = absurd cc
may_give_up c (Retakes p) e = absurd cc

pub sections_run_alone : {P S L F : Type 0} → (c : Code P S L F) → SectionsRunAlone c
sections_run_alone {P = P} {S = S} {L = L} {F = F} c a t n own y act h =
    let m = moves c in
    let k = entered c a t own h.takes in
    let r = alone_for c a t (begun a own) y 1 n k.there h.alone in
    let same : 1 + n ≡ suc n = omega arith in
    let at : run m a (steps t (suc n)) ≡ within a t y (suc n) =
    ap (λ (b : State P S L). run m b (steps t n)) k.within_is ∙ r.ends ∙ ap (within a t y) same in
    let last : answer c (within a t y (suc n)).world t ≡ Takes act =
    answer_within c a t y (suc n) k.there ∙ ap (answer_of c Mine) h.asks ∙ may_give_up c act h.leaves in
    let owned : Holds m (thread_laws c) t a (suc n) = (
      ap (λ (b : State P S L). b.world.owner) k.within_is,
      subst (λ (b : State P S L). Holds m (thread_laws c) t b n) (sym k.within_is) r.holds,
    ) in
    let before : IsSafe m a (steps t (suc n)) = (k.defined, subst (λ (b : State P S L). IsSafe m b (steps t n)) (sym k.within_is) r.safe) in
    record {
      safe = safe_more m a t (suc n) before (ap (λ (b : State P S L). undefined c b (Step t)) at ∙ ap is_fault last);
      whole = held_whole m (thread_laws c) t a (suc n) (fits_free m (thread_laws c) (Step t) a.world.owner h.free) owned;
      ends = run_more m (thread_laws c) t a (suc n) ∙ ap (λ (b : State P S L). next c b (Step t)) at ∙ ap (after (within a t y (suc n)) t) last;
    }
