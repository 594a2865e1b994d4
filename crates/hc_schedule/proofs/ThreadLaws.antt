-- The laws of threads under one mutex, for every program.
use Rattle.std.specs.Prelude.{◌≡◌, ◌≢◌, ◌⊎◌, ℕ, zero, suc, ◌+◌, Bool, true, false, not, ◌==◌, if◌then◌else◌, List, [], ◌∷◌, map, slice_get, Option, Some, None, option_map}
use Rattle.std.proofs.Common.{refl, sym, ap, ◌∙◌, inl, inr, arith, set}
use Rattle.std.proofs.lemmas.Bool.{eqb-true, eqb-false, eq-eqb}
use Rattle.std.proofs.lemmas.List.{set_comm, map-set}
use Rattle.std.proofs.lemmas.Option.{slice_get-map, same_Some}
use Rattle.hc_schedule.specs.declared.status.Status.{Status}
use Rattle.hc_schedule.specs.declared.status.Status.TheVariants.{Ready, Waiting, Woken}
use Rattle.hc_schedule.specs.Sections.{Item, Step, Wake, EverySchedule, is_of, Swap}
use Rattle.hc_schedule.proofs.Laws.{Laws}
use Rattle.hc_schedule.specs.Threads.{Thread, World, Act, Goes, Locks, Unlocks, Waits, Wakes, Works, Prints, Retakes, Turn, Returned, Fails, Does, Answer, Blocked, Over, Undefined, Takes, Code, Hold, Free, Mine, Others, hold, seen, allowed, answer_of, retaking, answer_by, answer_at, answer, stirred, stirred_thread, put, applied, waits, is_waiting, roused_from, roused_by}
use Rattle.hc_schedule.specs.Schedule.{State, did, after, next, is_fault, undefined, is_stuck, idle, moves, is_aside, is_private, Footprint, is_blocked, held_up, ChangingPlaces}
use Rattle.hc_schedule.proofs.Reduction.{every_schedule}

-- ---- lists of threads

pub get_other : {A : Type 0} → (l : List A) (i j : ℕ) (a : A) → i ≢ j → slice_get (set l i a) j ≡ slice_get l j
get_other [] i j a n = refl
get_other (x ∷ l) zero zero a n = absurd (n refl)
get_other (x ∷ l) zero (suc j) a n = refl
get_other (x ∷ l) (suc i) zero a n = refl
get_other (x ∷ l) (suc i) (suc j) a n = get_other l i j a (λ e. n (ap suc e))

same_number : (a b : ℕ) → ◌≡◌ {A = Option ℕ} (Some a) (Some b) → a ≡ b
same_number a b e = grind arith

abbrev pub ready : Status → Bool
ready Ready = true
ready (Waiting k) = false
ready Woken = false

abbrev pub is_ready : {P : Type 0} → Option (Thread P) → Bool
is_ready None = true
is_ready (Some th) = ready th.status

abbrev pub awake : {P : Type 0} → Option ℕ → List (Thread P) → Bool
awake None ths = true
awake (Some o) ths = is_ready (slice_get ths o)

-- the owner of the mutex is ready
abbrev pub good_state : {P S L : Type 0} → State P S L → Bool
good_state s = awake s.world.owner s.world.threads

ready_self : {P : Type 0} → (ths : List (Thread P)) (t : ℕ) (p : P) → is_ready (slice_get (put ths t p Ready) t) ≡ true
ready_self [] t p = refl
ready_self (x ∷ ths) zero p = refl
ready_self (x ∷ ths) (suc t) p = ready_self ths t p

ready_put : {P : Type 0} → (ths : List (Thread P)) (t o : ℕ) (p : P) → is_ready (slice_get ths o) ≡ true → is_ready (slice_get (put ths t p Ready) o) ≡ true
ready_put [] t o p h = refl
ready_put (x ∷ ths) zero zero p h = refl
ready_put (x ∷ ths) zero (suc o) p h = h
ready_put (x ∷ ths) (suc t) zero p h = h
ready_put (x ∷ ths) (suc t) (suc o) p h = ready_put ths t o p h

ready_status : (k : ℕ) (st : Status) → ready st ≡ true → ready (stirred k st) ≡ true
ready_status k Ready h = refl
ready_status k (Waiting j) h = cc
ready_status k Woken h = cc

ready_stirred : {P : Type 0} → (k : ℕ) (ths : List (Thread P)) (o : ℕ) → is_ready (slice_get ths o) ≡ true → is_ready (slice_get (map (stirred_thread k) ths) o) ≡ true
ready_stirred k [] o h = refl
ready_stirred k (x ∷ ths) zero h = ready_status k x.status h
ready_stirred k (x ∷ ths) (suc o) h = ready_stirred k ths o h

never_both : {A : Type 0} → (st : Status) → ready st ≡ true → waits st ≡ true → A
never_both Ready h w = absurd cc
never_both (Waiting k) h w = absurd cc
never_both Woken h w = absurd cc

ready_roused : {P : Type 0} → (ths : List (Thread P)) (t o : ℕ) (p : P) (st : Status) → is_ready (slice_get ths o) ≡ true → is_waiting (slice_get ths t) ≡ true →
    is_ready (slice_get (put ths t p st) o) ≡ true
ready_roused [] t o p st h w = refl
ready_roused (x ∷ ths) zero zero p st h w = never_both x.status h w
ready_roused (x ∷ ths) zero (suc o) p st h w = h
ready_roused (x ∷ ths) (suc t) zero p st h w = h
ready_roused (x ∷ ths) (suc t) (suc o) p st h w = ready_roused ths t o p st h w

-- ---- the owner is ready at all times

awake_put : {P : Type 0} → (x : Option ℕ) (ths : List (Thread P)) (t : ℕ) (p : P) → awake x ths ≡ true → awake x (put ths t p Ready) ≡ true
awake_put None ths t p h = refl
awake_put (Some o) ths t p h = ready_put ths t o p h

awake_stirred : {P : Type 0} → (x : Option ℕ) (k : ℕ) (ths : List (Thread P)) → awake x ths ≡ true → awake x (map (stirred_thread k) ths) ≡ true
awake_stirred None k ths h = refl
awake_stirred (Some o) k ths h = ready_stirred k ths o h

awake_roused : {P : Type 0} → (x : Option ℕ) (ths : List (Thread P)) (t : ℕ) (p : P) (st : Status) → awake x ths ≡ true → is_waiting (slice_get ths t) ≡ true →
    awake x (put ths t p st) ≡ true
awake_roused None ths t p st h w = refl
awake_roused (Some o) ths t p st h w = ready_roused ths t o p st h w

good_applied : {P S L : Type 0} → (w : World P S) (t : ℕ) (a : Act P S L) → awake w.owner w.threads ≡ true →
    awake (applied w t a).owner (applied w t a).threads ≡ true
good_applied w t (Goes p) h = awake_put w.owner w.threads t p h
good_applied w t (Locks p) h = ready_self w.threads t p
good_applied w t (Unlocks p) h = refl
good_applied w t (Waits k p) h = refl
good_applied w t (Wakes k p) h = awake_stirred w.owner k (put w.threads t p Ready) (awake_put w.owner w.threads t p h)
good_applied w t (Works p s) h = awake_put w.owner w.threads t p h
good_applied w t (Prints p l) h = awake_put w.owner w.threads t p h
good_applied w t (Retakes p) h = ready_self w.threads t p

good_after : {P S L F : Type 0} → (s : State P S L) (t : ℕ) (x : Answer P S L F) → good_state s ≡ true → good_state (after s t x) ≡ true
good_after s t (Takes a) h = good_applied s.world t a h
good_after s t x h = h

good_roused_from : {P S : Type 0} → (w : World P S) (t : ℕ) (p : P) (st : Status) → awake w.owner w.threads ≡ true → is_waiting (slice_get w.threads t) ≡ waits st →
    awake (roused_from w t p st).owner (roused_from w t p st).threads ≡ true
good_roused_from w t p Ready h e = h
good_roused_from w t p (Waiting k) h e = awake_roused w.owner w.threads t p Woken h e
good_roused_from w t p Woken h e = h

good_roused : {P S : Type 0} → (w : World P S) (t : ℕ) (x : Option (Thread P)) → awake w.owner w.threads ≡ true → slice_get w.threads t ≡ x →
    awake (roused_by w t x).owner (roused_by w t x).threads ≡ true
good_roused w t None h e = h
good_roused w t (Some th) h e = good_roused_from w t th.own th.status h (ap is_waiting e)

-- ---- items that change nothing

stuck_idles : {P S L F : Type 0} → (s : State P S L) (t : ℕ) (x : Answer P S L F) → is_stuck x ≡ true → (is_fault x ≡ false) × (after s t x ≡ s)
stuck_idles s t Blocked h = (refl, refl)
stuck_idles s t Over h = (refl, refl)
stuck_idles s t (Undefined f) h = absurd cc
stuck_idles s t (Takes a) h = absurd cc

roused_from_idle : {P S : Type 0} → (w : World P S) (t : ℕ) (p : P) (st : Status) → not (waits st) ≡ true → roused_from w t p st ≡ w
roused_from_idle w t p Ready h = refl
roused_from_idle w t p (Waiting k) h = absurd cc
roused_from_idle w t p Woken h = refl

roused_idle : {P S : Type 0} → (w : World P S) (t : ℕ) (x : Option (Thread P)) → not (is_waiting x) ≡ true → roused_by w t x ≡ w
roused_idle w t None h = refl
roused_idle w t (Some th) h = roused_from_idle w t th.own th.status h

-- ---- who owns the mutex

owner_roused_from : {P S : Type 0} → (w : World P S) (t : ℕ) (p : P) (st : Status) → (roused_from w t p st).owner ≡ w.owner
owner_roused_from w t p Ready = refl
owner_roused_from w t p (Waiting k) = refl
owner_roused_from w t p Woken = refl

owner_roused : {P S : Type 0} → (w : World P S) (t : ℕ) (x : Option (Thread P)) → (roused_by w t x).owner ≡ w.owner
owner_roused w t None = refl
owner_roused w t (Some th) = owner_roused_from w t th.own th.status

gains_applied : {P S L : Type 0} → (w : World P S) (t q : ℕ) (a : Act P S L) → (applied w t a).owner ≡ Some q → (w.owner ≡ Some q) ⊎ (Step t ≡ Step q)
gains_applied w t q (Locks p) e = inr (ap Step (same_number t q e))
gains_applied w t q (Unlocks p) e = absurd cc
gains_applied w t q (Waits k p) e = absurd cc
gains_applied w t q (Retakes p) e = inr (ap Step (same_number t q e))
gains_applied w t q a e = inl e

gains_after : {P S L F : Type 0} → (s : State P S L) (t q : ℕ) (x : Answer P S L F) → (after s t x).world.owner ≡ Some q → (s.world.owner ≡ Some q) ⊎ (Step t ≡ Step q)
gains_after s t q (Takes a) e = gains_applied s.world t q a e
gains_after s t q x e = inl e

-- ---- a thread that finds the mutex taken by another

others_allowed : {P S L F : Type 0} → (c : Code P S L F) (s : State P S L) (t : ℕ) (a : Act P S L) → (after s t (allowed c Others a)).world.owner ≡ s.world.owner
others_allowed c s t (Goes p) = refl
others_allowed c s t _ = refl

others_keep : {P S L F : Type 0} → (c : Code P S L F) (s : State P S L) (t : ℕ) (u : Turn P S L F) → (after s t (answer_of c Others u)).world.owner ≡ s.world.owner
others_keep c s t Returned = refl
others_keep c s t (Fails f) = refl
others_keep c s t (Does a) = others_allowed c s t a

others_by : {P S L F : Type 0} → (c : Code P S L F) (s : State P S L) (t : ℕ) (p : P) (st : Status) → (after s t (answer_by c Others s.world.shared t p st)).world.owner ≡ s.world.owner
others_by c s t p Ready = others_keep c s t (c.turn t p None)
others_by c s t p (Waiting k) = refl
others_by c s t p Woken = refl

others_at : {P S L F : Type 0} → (c : Code P S L F) (s : State P S L) (t : ℕ) (x : Option (Thread P)) → (after s t (answer_at c Others s.world.shared t x)).world.owner ≡ s.world.owner
others_at c s t None = refl
others_at c s t (Some th) = others_by c s t th.own th.status

same_test : (a b : ℕ) (x : Bool) → (a == b) ≡ x → (b == a) ≡ x
same_test a b true e = eq-eqb b a (sym (eqb-true a b e))
same_test a b false e = differ (b == a) refl
  where
    differ : (y : Bool) → (b == a) ≡ y → y ≡ false
    differ false k = refl
    differ true k = absurd (eqb-false a b e (sym (eqb-true b a k)))

hold_others : (x : Option ℕ) (o t : ℕ) → x ≡ Some o → (t == o) ≡ false → hold x t ≡ Others
hold_others x o t e n = ap (λ (y : Option ℕ). hold y t) e ∙ ap (λ (b : Bool). if b then Mine else Others) (same_test t o false n)

-- ---- what a step of the owner leaves of another thread

unstirred_status : (k : ℕ) (st st' : Status) → stirred k st ≡ st' → (st' ≡ Woken → ⊥) → st ≡ st'
unstirred_status k Ready st' e n = e
unstirred_status k (Waiting j) st' e n = unstirred_test k j (j == k) st' e n
  where
    unstirred_test : (k j : ℕ) (b : Bool) (st' : Status) → (if b then Woken else Waiting j) ≡ st' → (st' ≡ Woken → ⊥) → Waiting j ≡ st'
    unstirred_test k j true st' e n = absurd (n (sym e))
    unstirred_test k j false st' e n = e
unstirred_status k Woken st' e n = absurd (n (sym e))

unstirred : {P : Type 0} → (k : ℕ) (x : Option (Thread P)) (p : P) (st : Status) → option_map (stirred_thread k) x ≡ Some (record { own = p; status = st }) → (st ≡ Woken → ⊥) →
    x ≡ Some (record { own = p; status = st })
unstirred {P = P} k None p st e n = absurd cc
unstirred {P = P} k (Some th) p st e n =
    let own_same : th.own ≡ p = ap (own_of th.own) e in
    let status_same : stirred k th.status ≡ st = ap status_of e in
    let status_was : th.status ≡ st = unstirred_status k th.status st status_same n in
    ap (λ (q : P). Some (record { own = q; status = th.status })) own_same ∙ ap (λ (z : Status). Some (record { own = p; status = z })) status_was
  where
    own_of : P → Option (Thread P) → P
    own_of d None = d
    own_of d (Some y) = y.own

    status_of : Option (Thread P) → Status
    status_of None = Woken
    status_of (Some y) = y.status

-- a thread that is ready or waits after a step of another was so before it
left_alone : {P S L : Type 0} → (w : World P S) (o q : ℕ) (a : Act P S L) (p : P) (st : Status) → o ≢ q → slice_get (applied w o a).threads q ≡ Some (record { own = p; status = st }) →
    (st ≡ Woken → ⊥) → slice_get w.threads q ≡ Some (record { own = p; status = st })
left_alone w o q (Wakes j p') p st n e k =
    sym (get_other w.threads o q _ n) ∙ unstirred j (slice_get (put w.threads o p' Ready) q) p st (sym (slice_get-map (stirred_thread j) (put w.threads o p' Ready) q) ∙ e) k
left_alone w o q a p st n e k = sym (get_other w.threads o q _ n) ∙ e

left_alone_after : {P S L F : Type 0} → (s : State P S L) (o q : ℕ) (x : Answer P S L F) (p : P) (st : Status) → o ≢ q → slice_get (after s o x).world.threads q ≡ Some (record { own = p; status = st }) →
    (st ≡ Woken → ⊥) → slice_get s.world.threads q ≡ Some (record { own = p; status = st })
left_alone_after s o q (Takes a) p st n e k = left_alone s.world o q a p st n e k
left_alone_after s o q x p st n e k = e

-- ---- a change of thread q alone

abbrev more : Bool → ℕ → ℕ
more true n = n + 1
more false n = n

abbrev touched : {P S L : Type 0} → State P S L → ℕ → P → Status → Bool → State P S L
touched s q p st b =
    record {
      world = record { owner = s.world.owner; shared = s.world.shared; threads = put s.world.threads q p st };
      lines = s.lines;
      moved = more b s.moved;
    }

more_later : (b : Bool) (n : ℕ) → more b n + 1 ≡ more b (n + 1)
more_later true n = refl
more_later false n = refl

same_state : {P S L : Type 0} → (x : Option ℕ) (s : S) (ls : List (ℕ × L)) (ths ths' : List (Thread P)) (n n' : ℕ) → ths ≡ ths' → n ≡ n' →
    ◌≡◌ {A = State P S L}
    (record { world = record { owner = x; shared = s; threads = ths }; lines = ls; moved = n })
    (record { world = record { owner = x; shared = s; threads = ths' }; lines = ls; moved = n' })
same_state {P = P} x s ls ths ths' n n' e k =
    ap (λ (z : List (Thread P)). record { world = record { owner = x; shared = s; threads = z }; lines = ls; moved = n }) e
    ∙ ap (λ (z : ℕ). record { world = record { owner = x; shared = s; threads = ths' }; lines = ls; moved = z }) k

swap_put : {P : Type 0} → (ths : List (Thread P)) (q o : ℕ) (p p' : P) (st st' : Status) → q ≢ o → put (put ths q p st) o p' st' ≡ put (put ths o p' st') q p st
swap_put ths q o p p' st st' n = set_comm ths q o (record { own = p; status = st }) (record { own = p'; status = st' }) n

swap_wake : {P : Type 0} → (k : ℕ) (ths : List (Thread P)) (q o : ℕ) (p p' : P) (st : Status) → q ≢ o → stirred k st ≡ st →
    map (stirred_thread k) (put (put ths q p st) o p' Ready) ≡ put (map (stirred_thread k) (put ths o p' Ready)) q p st
swap_wake k ths q o p p' st n e =
    ap (map (stirred_thread k)) (swap_put ths q o p p' st Ready n)
    ∙ map-set (stirred_thread k) (put ths o p' Ready) q (record { own = p; status = st })
    ∙ ap (λ (z : Status). put (map (stirred_thread k) (put ths o p' Ready)) q p z) e

-- a step that thread o takes, and a change of thread q
did_touched : {P S L : Type 0} → (s : State P S L) (o q : ℕ) (a : Act P S L) (p : P) (st : Status) (b : Bool) → q ≢ o → ((k : ℕ) → stirred k st ≡ st) →
    did (touched s q p st b) o a ≡ touched (did s o a) q p st b
did_touched s o q (Wakes k p') p st b n e = same_state _ _ _ _ _ _ _ (swap_wake k s.world.threads q o p p' st n (e k)) (more_later b s.moved)
did_touched s o q a p st b n e = same_state _ _ _ _ _ _ _ (swap_put s.world.threads q o p _ st _ n) (more_later b s.moved)

after_touched : {P S L F : Type 0} → (s : State P S L) (o q : ℕ) (x : Answer P S L F) (p : P) (st : Status) (b : Bool) → q ≢ o → ((k : ℕ) → stirred k st ≡ st) →
    after (touched s q p st b) o x ≡ touched (after s o x) q p st b
after_touched s o q (Takes a) p st b n e = did_touched s o q a p st b n e
after_touched s o q x p st b n e = refl

answer_touched : {P S L F : Type 0} → (c : Code P S L F) (s : State P S L) (o q : ℕ) (p : P) (st : Status) (b : Bool) → q ≢ o →
    answer c (touched s q p st b).world o ≡ answer c s.world o
answer_touched c s o q p st b n =
    ap (answer_at c (hold s.world.owner o) s.world.shared o) (get_other s.world.threads q o (record { own = p; status = st }) n)

next_touched : {P S L F : Type 0} → (c : Code P S L F) (s : State P S L) (o q : ℕ) (p : P) (st : Status) (b : Bool) → q ≢ o → ((k : ℕ) → stirred k st ≡ st) →
    next c (touched s q p st b) (Step o) ≡ touched (next c s (Step o)) q p st b
next_touched c s o q p st b n e =
    ap (after (touched s q p st b) o) (answer_touched c s o q p st b n) ∙ after_touched s o q (answer c s.world o) p st b n e

-- ---- the item, before and after the other thread's step

-- An item of thread q that is undefined, or changes thread q alone, and does the same in two states.
data Light {P S L F : Type 0} (c : Code P S L F) (s b : State P S L) (q : ℕ) (i : Item) : Type 0 where
  Faults : undefined c s i ≡ true → undefined c b i ≡ true → idle c s i ≡ false → next c s i ≡ s → next c b i ≡ b → Light c s b q i
  Touches : (p : P) (st : Status) (n : Bool) → ((k : ℕ) → stirred k st ≡ st) → undefined c s i ≡ false → undefined c b i ≡ false → idle c s i ≡ false →
      next c s i ≡ touched s q p st n → next c b i ≡ touched b q p st n → Light c s b q i

swap_light : {P S L F : Type 0} → (c : Code P S L F) (s : State P S L) (o q : ℕ) (i : Item) → q ≢ o → Light c s (next c s (Step o)) q i → (idle c s i ≡ false) × Swap (moves c) s o i
swap_light {P = P} {S = S} {L = L} c s o q i n (Faults u u' busy e e') = (
  busy,
  record {
    undefined = u ∙ sym u';
    undefined_step = ap (λ (z : State P S L). undefined c z (Step o)) e;
    owner = ap (λ (z : State P S L). z.world.owner) e;
    meet = ap (λ (z : State P S L). next c z (Step o)) e ∙ sym e';
  },
)
swap_light {P = P} {S = S} {L = L} c s o q i n (Touches p st m k u u' busy e e') = (
  busy,
  record {
    undefined = u ∙ sym u';
    undefined_step = ap (λ (z : State P S L). undefined c z (Step o)) e ∙ ap is_fault (answer_touched c s o q p st m n);
    owner = ap (λ (z : State P S L). z.world.owner) e;
    meet = ap (λ (z : State P S L). next c z (Step o)) e ∙ next_touched c s o q p st m n k ∙ sym e';
  },
)

owner_steps : {P S L F : Type 0} → (c : Code P S L F) (s : State P S L) (o t : ℕ) → s.world.owner ≡ Some o → (t == o) ≡ false → (next c s (Step t)).world.owner ≡ Some o
owner_steps c s o t e n =
    ap (λ (h : Hold). (after s t (answer_at c h s.world.shared t (slice_get s.world.threads t))).world.owner) (hold_others s.world.owner o t e n)
    ∙ others_at c s t (slice_get s.world.threads t) ∙ e

-- before a step after which thread o owns the mutex, it did or nobody did
owner_before : {P S L F : Type 0} → (c : Code P S L F) (s : State P S L) (o : ℕ) → (next c s (Step o)).world.owner ≡ Some o →
    (s.world.owner ≡ None) ⊎ (s.world.owner ≡ Some o)
owner_before {P = P} {S = S} {L = L} {F = F} c s o k = by_owner s.world.owner refl
  where
    by_test : (r : ℕ) → s.world.owner ≡ Some r → (b : Bool) → (o == r) ≡ b → (s.world.owner ≡ None) ⊎ (s.world.owner ≡ Some o)
    by_test r e true n = inr (e ∙ ap Some (sym (eqb-true o r n)))
    by_test r e false n = absurd (eqb-false o r n (same_number o r (sym k ∙ owner_steps c s r o e n)))

    by_owner : (x : Option ℕ) → s.world.owner ≡ x → (s.world.owner ≡ None) ⊎ (s.world.owner ≡ Some o)
    by_owner None e = inl e
    by_owner (Some r) e = by_test r e (o == r) refl

-- ---- wake-ups

waiting_by : {P : Type 0} → (th : Thread P) (st : Status) → th.status ≡ st → not (waits st) ≡ false →
    (p : P) × (k : ℕ) × (◌≡◌ {A = Option (Thread P)} (Some th) (Some (record { own = p; status = Waiting k })))
waiting_by th Ready e h = absurd cc
waiting_by {P = P} th (Waiting k) e h = (th.own, k, ap (λ (z : Status). Some (record { own = th.own; status = z })) e)
waiting_by th Woken e h = absurd cc

waiting_found : {P : Type 0} → (x : Option (Thread P)) → not (is_waiting x) ≡ false → (p : P) × (k : ℕ) × (x ≡ Some (record { own = p; status = Waiting k }))
waiting_found None h = absurd cc
waiting_found (Some th) h = waiting_by th th.status refl h

woken_at : {P S L F : Type 0} → (c : Code P S L F) (s : State P S L) (q : ℕ) (p : P) (k : ℕ) → slice_get s.world.threads q ≡ Some (record { own = p; status = Waiting k }) →
    next c s (Wake q) ≡ touched s q p Woken false
woken_at {P = P} c s q p k e = ap (λ (x : Option (Thread P)). record { world = roused_by s.world q x; lines = s.lines; moved = s.moved }) e

waiting_not : (k : ℕ) (st : Status) → st ≡ Waiting k → st ≡ Woken → ⊥
waiting_not k st e h = let n : Waiting k ≡ Woken = sym e ∙ h in cc

light_wake : {P S L F : Type 0} → (c : Code P S L F) (s : State P S L) (o q : ℕ) → o ≢ q → idle c (next c s (Step o)) (Wake q) ≡ false → Light c s (next c s (Step o)) q (Wake q)
light_wake {P = P} c s o q n h =
    let f = waiting_found (slice_get (next c s (Step o)).world.threads q) h in
    let was : slice_get s.world.threads q ≡ Some (record { own = f.0; status = Waiting f.1 }) =
    left_alone_after s o q (answer c s.world o) f.0 (Waiting f.1) n f.2 (waiting_not f.1 (Waiting f.1) refl) in
    Touches f.0 Woken false (λ k. refl) refl refl (ap (λ (x : Option (Thread P)). not (is_waiting x)) was) (woken_at c s q f.0 f.1 was) (woken_at c (next c s (Step o)) q f.0 f.1 f.2)

-- ---- steps of a thread that doesn't own the mutex

data Plain {P S L F : Type 0} (c : Code P S L F) (u : Turn P S L F) : Type 0 where
  At_fault : (f : F) → answer_of c Free u ≡ Undefined f → answer_of c Others u ≡ Undefined f → Plain c u
  Moves_on : (p : P) → answer_of c Free u ≡ Takes (Goes p) → answer_of c Others u ≡ Takes (Goes p) → Plain c u

plain_act : {P S L F : Type 0} → (c : Code P S L F) (a : Act P S L) → is_stuck (allowed c Others a) ≡ false → Plain c (Does a)
plain_act c (Goes p) h = Moves_on p refl refl
plain_act c (Locks p) h = absurd cc
plain_act c (Unlocks p) h = At_fault c.not_owner refl refl
plain_act c (Waits k p) h = At_fault c.not_owner refl refl
plain_act c a h = At_fault c.unlocked refl refl

plain : {P S L F : Type 0} → (c : Code P S L F) (u : Turn P S L F) → is_stuck (answer_of c Others u) ≡ false → Plain c u
plain c Returned h = absurd cc
plain c (Fails f) h = At_fault f refl refl
plain c (Does a) h = plain_act c a h

ready_by : {P S L F : Type 0} → (c : Code P S L F) (sh : S) (q : ℕ) (th : Thread P) (st : Status) → th.status ≡ st → is_stuck (answer_by c Others sh q th.own st) ≡ false →
    (p : P) × (◌≡◌ {A = Option (Thread P)} (Some th) (Some (record { own = p; status = Ready }))) × (is_stuck (answer_of c Others (c.turn q p None)) ≡ false)
ready_by c sh q th Ready e h = (th.own, ap (λ (z : Status). Some (record { own = th.own; status = z })) e, h)
ready_by c sh q th (Waiting k) e h = absurd cc
ready_by c sh q th Woken e h = absurd cc

ready_found : {P S L F : Type 0} → (c : Code P S L F) (sh : S) (q : ℕ) (x : Option (Thread P)) → is_stuck (answer_at c Others sh q x) ≡ false →
    (p : P) × (x ≡ Some (record { own = p; status = Ready })) × (is_stuck (answer_of c Others (c.turn q p None)) ≡ false)
ready_found c sh q None h = absurd cc
ready_found c sh q (Some th) h = ready_by c sh q th th.status refl h

light_both : {P S L F : Type 0} → (c : Code P S L F) (s b : State P S L) (q : ℕ) (u : Turn P S L F) (h : Hold) → (h ≡ Free) ⊎ (h ≡ Others) → Plain c u →
    answer c s.world q ≡ answer_of c h u → answer c b.world q ≡ answer_of c Others u → Light c s b q (Step q)
light_both {P = P} {S = S} {L = L} {F = F} c s b q u h k p e e' = by_plain p
  where
    at : (x : Answer P S L F) → answer_of c Free u ≡ x → answer_of c Others u ≡ x → (h ≡ Free) ⊎ (h ≡ Others) → answer c s.world q ≡ x
    at x f g (inl z) = e ∙ ap (λ (y : Hold). answer_of c y u) z ∙ f
    at x f g (inr z) = e ∙ ap (λ (y : Hold). answer_of c y u) z ∙ g

    by_plain : Plain c u → Light c s b q (Step q)
    by_plain (At_fault v f g) =
        let here = at (Undefined v) f g k in
        Faults (ap is_fault here) (ap is_fault (e' ∙ g)) (ap is_stuck here) (ap (after s q) here) (ap (after b q) (e' ∙ g))
    by_plain (Moves_on p f g) =
        let here = at (Takes (Goes p)) f g k in
        Touches p Ready true (λ j. refl) (ap is_fault here) (ap is_fault (e' ∙ g)) (ap is_stuck here) (ap (after s q) here) (ap (after b q) (e' ∙ g))

apart : (x : Option ℕ) (o q : ℕ) → (q == o) ≡ false → (x ≡ None) ⊎ (x ≡ Some o) → (hold x q ≡ Free) ⊎ (hold x q ≡ Others)
apart x o q n (inl e) = inl (ap (λ (y : Option ℕ). hold y q) e)
apart x o q n (inr e) = inr (hold_others x o q e n)

answer_ready : {P S L F : Type 0} → (c : Code P S L F) (w : World P S) (q : ℕ) (p : P) (h : Hold) → (h ≡ Free) ⊎ (h ≡ Others) → hold w.owner q ≡ h →
    slice_get w.threads q ≡ Some (record { own = p; status = Ready }) → answer c w q ≡ answer_of c h (c.turn q p None)
answer_ready {P = P} c w q p h k e g =
    ap (λ (x : Option (Thread P)). answer_at c (hold w.owner q) w.shared q x) g ∙ ap (λ (y : Hold). answer_of c y (c.turn q p (seen y w.shared))) e ∙ blind h k
  where
    blind : (h : Hold) → (h ≡ Free) ⊎ (h ≡ Others) → answer_of c h (c.turn q p (seen h w.shared)) ≡ answer_of c h (c.turn q p None)
    blind h (inl z) = ap (λ (y : Hold). answer_of c h (c.turn q p (seen y w.shared))) z
    blind h (inr z) = ap (λ (y : Hold). answer_of c h (c.turn q p (seen y w.shared))) z

ready_not : Ready ≡ Woken → ⊥
ready_not h = cc

light_step : {P S L F : Type 0} → (c : Code P S L F) (s : State P S L) (o q : ℕ) → o ≢ q → (q == o) ≡ false → (next c s (Step o)).world.owner ≡ Some o →
    idle c (next c s (Step o)) (Step q) ≡ false → Light c s (next c s (Step o)) q (Step q)
light_step c s o q n m own h =
    let b = next c s (Step o) in
    let others : hold b.world.owner q ≡ Others = hold_others b.world.owner o q own m in
    let at : is_stuck (answer_at c Others b.world.shared q (slice_get b.world.threads q)) ≡ false =
    ap (λ (y : Hold). is_stuck (answer_at c y b.world.shared q (slice_get b.world.threads q))) (sym others) ∙ h in
    let f = ready_found c b.world.shared q (slice_get b.world.threads q) at in
    let was = left_alone_after s o q (answer c s.world o) f.0 Ready n f.1 ready_not in
    let aside = apart s.world.owner o q m (owner_before c s o own) in
    light_both c s b q (c.turn q f.0 None) (hold s.world.owner q) aside (plain c (c.turn q f.0 None) f.2)
    (answer_ready c s.world q f.0 (hold s.world.owner q) aside refl was)
    (answer_ready c b.world q f.0 Others (inr refl) others f.1)

-- ---- the laws

pub stays_good : {P S L F : Type 0} → (c : Code P S L F) (s : State P S L) (i : Item) → good_state s ≡ true → good_state (next c s i) ≡ true
stays_good c s (Step t) h = good_after s t (answer c s.world t) h
stays_good c s (Wake t) h = good_roused s.world t (slice_get s.world.threads t) h refl

pub idles : {P S L F : Type 0} → (c : Code P S L F) (s : State P S L) (i : Item) → idle c s i ≡ true → (undefined c s i ≡ false) × (next c s i ≡ s)
idles c s (Step t) h = stuck_idles s t (answer c s.world t) h
idles {P = P} {S = S} c s (Wake t) h = (refl, ap (λ (w : World P S). record { world = w; lines = s.lines; moved = s.moved }) (roused_idle s.world t (slice_get s.world.threads t) h))

pub gains : {P S L F : Type 0} → (c : Code P S L F) (s : State P S L) (i : Item) (q : ℕ) → (next c s i).world.owner ≡ Some q → (s.world.owner ≡ Some q) ⊎ (i ≡ Step q)
gains c s (Step t) q e = gains_after s t q (answer c s.world t) e
gains c s (Wake t) q e = inl (sym (owner_roused s.world t (slice_get s.world.threads t)) ∙ e)

pub keeps : {P S L F : Type 0} → (c : Code P S L F) (s : State P S L) (o : ℕ) (i : Item) → s.world.owner ≡ Some o → is_of o i ≡ false → (next c s i).world.owner ≡ Some o
keeps c s o (Step t) e n = owner_steps c s o t e n
keeps c s o (Wake t) e n = owner_roused s.world t (slice_get s.world.threads t) ∙ e

ready_rests : {P : Type 0} → (x : Option (Thread P)) → is_ready x ≡ true → not (is_waiting x) ≡ true
ready_rests None h = refl
ready_rests (Some th) h = rests th.status h
  where
    rests : (st : Status) → ready st ≡ true → not (waits st) ≡ true
    rests Ready h = refl
    rests (Waiting k) h = absurd cc
    rests Woken h = refl

pub owner_awake : {P S L F : Type 0} → (c : Code P S L F) (s : State P S L) (o : ℕ) → good_state s ≡ true → s.world.owner ≡ Some o → idle c s (Wake o) ≡ true
owner_awake c s o g e = ready_rests (slice_get s.world.threads o) (sym (ap (λ (x : Option ℕ). awake x s.world.threads) e) ∙ g)

pub swaps : {P S L F : Type 0} → (c : Code P S L F) (s : State P S L) (o : ℕ) (i : Item) → (next c s (Step o)).world.owner ≡ Some o → is_of o i ≡ false →
    idle c (next c s (Step o)) i ≡ false → (idle c s i ≡ false) × Swap (moves c) s o i
swaps c s o (Step q) own n h = swap_light c s o q (Step q) (eqb-false q o n) (light_step c s o q (λ e. eqb-false q o n (sym e)) n own h)
swaps c s o (Wake q) own n h = swap_light c s o q (Wake q) (eqb-false q o n) (light_wake c s o q (λ e. eqb-false q o n (sym e)) h)

abbrev pub thread_laws : {P S L F : Type 0} → (c : Code P S L F) → Laws (moves {P = P} {S = S} {L = L} {F = F} c)
thread_laws c = record { good = good_state; stays_good = stays_good c; idles = idles c; gains = gains c; keeps = keeps c; awake = owner_awake c; swaps = λ s o i g. swaps c s o i }

-- from every state in which nobody owns the mutex
pub every_schedule_of : {P S L F : Type 0} → (c : Code P S L F) (s : State P S L) → s.world.owner ≡ None → EverySchedule (moves c) s
every_schedule_of c s e = every_schedule (moves c) (thread_laws c) s (ap (λ (x : Option ℕ). awake x s.world.threads) e) e

-- ---- what a step depends on

private_act : {P S L F : Type 0} → (c : Code P S L F) (h g : Hold) → is_aside h ≡ true → is_aside g ≡ true → (a : Act P S L) → is_private (allowed c h a) ≡ true →
    allowed c g a ≡ allowed c h a
private_act c Mine g k l a e = absurd cc
private_act c h Mine k l a e = absurd cc
private_act c Free Free k l a e = refl
private_act c Others Others k l a e = refl
private_act c Free Others k l (Locks p) e = absurd cc
private_act c Others Free k l (Locks p) e = absurd cc
private_act c Free Others k l a e = refl
private_act c Others Free k l a e = refl

private_turn : {P S L F : Type 0} → (c : Code P S L F) (h g : Hold) → is_aside h ≡ true → is_aside g ≡ true → (u : Turn P S L F) → is_private (answer_of c h u) ≡ true →
    answer_of c g u ≡ answer_of c h u
private_turn c h g k l Returned e = refl
private_turn c h g k l (Fails f) e = refl
private_turn c h g k l (Does a) e = private_act c h g k l a e

aside_seen : {S : Type 0} → (h : Hold) (s : S) → is_aside h ≡ true → seen h s ≡ None
aside_seen Free s k = refl
aside_seen Mine s k = absurd cc
aside_seen Others s k = refl

private_retaking : {P : Type 0} → (S L F : Type 0) → (h : Hold) (p : P) → is_private (retaking {S = S} {L = L} {F = F} h p) ≡ true → ⊥
private_retaking S L F Free p e = cc
private_retaking S L F Mine p e = cc
private_retaking S L F Others p e = cc

private_by : {P S L F : Type 0} → (c : Code P S L F) (h g : Hold) (s r : S) (q : ℕ) (p : P) (st : Status) → is_aside h ≡ true → is_aside g ≡ true →
    is_private (answer_by c h s q p st) ≡ true → answer_by c g r q p st ≡ answer_by c h s q p st
private_by {S = S} c h g s r q p Ready k l e =
    let blind : answer_of c h (c.turn q p (seen h s)) ≡ answer_of c h (c.turn q p None) = ap (λ (x : Option S). answer_of c h (c.turn q p x)) (aside_seen h s k) in
    ap (λ (x : Option S). answer_of c g (c.turn q p x)) (aside_seen g r l)
    ∙ private_turn c h g k l (c.turn q p None) (sym (ap is_private blind) ∙ e)
    ∙ sym blind
private_by c h g s r q p (Waiting j) k l e = refl
private_by {S = S} {L = L} {F = F} c h g s r q p Woken k l e = absurd (private_retaking S L F h p e)

private_at : {P S L F : Type 0} → (c : Code P S L F) (h g : Hold) (s r : S) (q : ℕ) (x : Option (Thread P)) → is_aside h ≡ true → is_aside g ≡ true →
    is_private (answer_at c h s q x) ≡ true → answer_at c g r q x ≡ answer_at c h s q x
private_at c h g s r q None k l e = refl
private_at c h g s r q (Some th) k l e = private_by c h g s r q th.own th.status k l e

pub footprint : {P S L F : Type 0} → (c : Code P S L F) → Footprint c
footprint {P = P} c w other q k l same e =
    sym (ap (answer_at c (hold other.owner q) other.shared q) same)
    ∙ private_at c (hold w.owner q) (hold other.owner q) w.shared other.shared q (slice_get w.threads q) k l e

-- ---- changing places, also with items that change nothing

swap_idle : {P S L F : Type 0} → (c : Code P S L F) (s : State P S L) (o : ℕ) (i : Item) → idle c s i ≡ true → idle c (next c s (Step o)) i ≡ true → Swap (moves c) s o i
swap_idle {P = P} {S = S} {L = L} c s o i h k =
    let a = idles c s i h in
    let b = idles c (next c s (Step o)) i k in
    record {
      undefined = a.0 ∙ sym b.0;
      undefined_step = ap (λ (z : State P S L). undefined c z (Step o)) a.1;
      owner = ap (λ (z : State P S L). z.world.owner) a.1;
      meet = ap (λ (z : State P S L). next c z (Step o)) a.1 ∙ sym b.1;
    }

put_same : {P : Type 0} → (ths : List (Thread P)) (q : ℕ) (p : P) (st : Status) → slice_get ths q ≡ Some (record { own = p; status = st }) → put ths q p st ≡ ths
put_same [] q p st e = refl
put_same (x ∷ ths) zero p st e = ap (λ y. y ∷ ths) (sym (same_Some x (record { own = p; status = st }) e))
put_same (x ∷ ths) (suc q) p st e = ap (λ ys. x ∷ ys) (put_same ths q p st e)

-- a waiting thread after a step of another thread
stirred_by : {P : Type 0} → (j k : ℕ) (p : P) (b : Bool) → (k == j) ≡ b →
    (◌≡◌ {A = Option (Thread P)} (Some (stirred_thread j (record { own = p; status = Waiting k }))) (Some (record { own = p; status = Waiting k })))
    ⊎ (◌≡◌ {A = Option (Thread P)} (Some (stirred_thread j (record { own = p; status = Waiting k }))) (Some (record { own = p; status = Woken })))
stirred_by j k p true e = inr (ap (λ (b : Bool). Some (record { own = p; status = if b then Woken else Waiting k })) e)
stirred_by j k p false e = inl (ap (λ (b : Bool). Some (record { own = p; status = if b then Woken else Waiting k })) e)

abbrev Waits_or_woken : {P : Type 0} → Option (Thread P) → P → ℕ → Type 0
Waits_or_woken x p k = (x ≡ Some (record { own = p; status = Waiting k })) ⊎ (x ≡ Some (record { own = p; status = Woken }))

either_after : {P : Type 0} → (x y : Option (Thread P)) (p : P) (k : ℕ) → x ≡ y → Waits_or_woken y p k → Waits_or_woken x p k
either_after x y p k e (inl z) = inl (e ∙ z)
either_after x y p k e (inr z) = inr (e ∙ z)

waited : {P S L : Type 0} → (w : World P S) (o q : ℕ) (a : Act P S L) (p : P) (k : ℕ) → o ≢ q → slice_get w.threads q ≡ Some (record { own = p; status = Waiting k }) →
    Waits_or_woken (slice_get (applied w o a).threads q) p k
waited w o q (Wakes j p') p k n e =
    either_after (slice_get (map (stirred_thread j) (put w.threads o p' Ready)) q) (Some (stirred_thread j (record { own = p; status = Waiting k }))) p k
    (slice_get-map (stirred_thread j) (put w.threads o p' Ready) q ∙ ap (option_map (stirred_thread j)) (get_other w.threads o q _ n ∙ e))
    (stirred_by j k p (k == j) refl)
waited w o q a p k n e = inl (get_other w.threads o q _ n ∙ e)

waited_after : {P S L F : Type 0} → (s : State P S L) (o q : ℕ) (x : Answer P S L F) (p : P) (k : ℕ) → o ≢ q →
    slice_get s.world.threads q ≡ Some (record { own = p; status = Waiting k }) → Waits_or_woken (slice_get (after s o x).world.threads q) p k
waited_after s o q (Takes a) p k n e = waited s.world o q a p k n e
waited_after s o q x p k n e = inl e

places_woken : {P S L F : Type 0} → (c : Code P S L F) (s : State P S L) (o q : ℕ) (p : P) (k : ℕ) → q ≢ o →
    slice_get s.world.threads q ≡ Some (record { own = p; status = Waiting k }) → idle c (next c s (Step o)) (Wake q) ≡ true →
    Waits_or_woken (slice_get (next c s (Step o)).world.threads q) p k → Swap (moves c) s o (Wake q)
places_woken {P = P} c s o q p k n e h (inl z) = absurd (let x : not (is_waiting (Some (record { own = p; status = Waiting k }))) ≡ true = sym (ap (λ (y : Option (Thread P)). not (is_waiting y)) z) ∙ h in cc)
places_woken {P = P} {S = S} {L = L} c s o q p k n e h (inr z) =
    let b = next c s (Step o) in
    let here : next c s (Wake q) ≡ touched s q p Woken false = woken_at c s q p k e in
    record {
      undefined = refl;
      undefined_step = ap (λ (y : State P S L). undefined c y (Step o)) here ∙ ap is_fault (answer_touched c s o q p Woken false n);
      owner = ap (λ (y : State P S L). y.world.owner) here;
      meet =
          ap (λ (y : State P S L). next c y (Step o)) here
          ∙ next_touched c s o q p Woken false n (λ j. refl)
          ∙ ap (λ (ths : List (Thread P)). record { world = record { owner = b.world.owner; shared = b.world.shared; threads = ths }; lines = b.lines; moved = b.moved })
          (put_same b.world.threads q p Woken z)
          ∙ sym (idles c b (Wake q) h).1;
    }

places_wake : {P S L F : Type 0} → (c : Code P S L F) (s : State P S L) (o q : ℕ) → q ≢ o → idle c (next c s (Step o)) (Wake q) ≡ true →
    (b : Bool) → not (is_waiting (slice_get s.world.threads q)) ≡ b → Swap (moves c) s o (Wake q)
places_wake c s o q n h true e = swap_idle c s o (Wake q) e h
places_wake c s o q n h false e =
    let f = waiting_found (slice_get s.world.threads q) e in
    places_woken c s o q f.0 f.1 n f.2 h (waited_after s o q (answer c s.world o) f.0 f.1 (λ k. n (sym k)) f.2)

-- a thread that has returned, or isn't there
data Finished {P S L F : Type 0} (c : Code P S L F) (q : ℕ) (x : Option (Thread P)) : Type 0 where
  Absent : x ≡ None → Finished c q x
  Back : (p : P) → x ≡ Some (record { own = p; status = Ready }) → c.turn q p None ≡ Returned → Finished c q x

returned_turn : {P S L F : Type 0} → (c : Code P S L F) (u : Turn P S L F) → is_stuck (answer_of c Others u) ≡ true → is_blocked (answer_of c Others u) ≡ false → u ≡ Returned
returned_turn c Returned h k = refl
returned_turn c (Fails f) h k = absurd cc
returned_turn c (Does (Locks p)) h k = absurd cc
returned_turn c (Does a) h k = absurd cc

finished_by : {P S L F : Type 0} → (c : Code P S L F) (sh : S) (q : ℕ) (th : Thread P) (st : Status) → th.status ≡ st →
    is_stuck (answer_by c Others sh q th.own st) ≡ true → is_blocked (answer_by c Others sh q th.own st) ≡ false → Finished c q (Some th)
finished_by c sh q th Ready e h k = Back th.own (ap (λ (z : Status). Some (record { own = th.own; status = z })) e) (returned_turn c (c.turn q th.own None) h k)
finished_by c sh q th (Waiting j) e h k = absurd cc
finished_by c sh q th Woken e h k = absurd cc

finished : {P S L F : Type 0} → (c : Code P S L F) (sh : S) (q : ℕ) (x : Option (Thread P)) →
    is_stuck (answer_at c Others sh q x) ≡ true → is_blocked (answer_at c Others sh q x) ≡ false → Finished c q x
finished c sh q None h k = Absent refl
finished c sh q (Some th) h k = finished_by c sh q th th.status refl h k

absent_map : {A : Type 0} → (f : A → A) (x : Option A) → option_map f x ≡ None → x ≡ None
absent_map f None e = refl
absent_map f (Some a) e = absurd cc

absent : {P S L : Type 0} → (w : World P S) (o q : ℕ) (a : Act P S L) → o ≢ q → slice_get (applied w o a).threads q ≡ None → slice_get w.threads q ≡ None
absent w o q (Wakes j p) n e =
    sym (get_other w.threads o q _ n) ∙ absent_map (stirred_thread j) (slice_get (put w.threads o p Ready) q) (sym (slice_get-map (stirred_thread j) (put w.threads o p Ready) q) ∙ e)
absent w o q a n e = sym (get_other w.threads o q _ n) ∙ e

absent_after : {P S L F : Type 0} → (s : State P S L) (o q : ℕ) (x : Answer P S L F) → o ≢ q → slice_get (after s o x).world.threads q ≡ None → slice_get s.world.threads q ≡ None
absent_after s o q (Takes a) n e = absent s.world o q a n e
absent_after s o q x n e = e

-- it was so before the other thread's step
finished_before : {P S L F : Type 0} → (c : Code P S L F) (s : State P S L) (o q : ℕ) → o ≢ q → (hold s.world.owner q ≡ Free) ⊎ (hold s.world.owner q ≡ Others) →
    Finished c q (slice_get (next c s (Step o)).world.threads q) → idle c s (Step q) ≡ true
finished_before {P = P} c s o q n k (Absent e) =
    ap (λ (x : Option (Thread P)). is_stuck (answer_at c (hold s.world.owner q) s.world.shared q x)) (absent_after s o q (answer c s.world o) n e)
finished_before {P = P} {S = S} {L = L} {F = F} c s o q n k (Back p e r) =
    ap is_stuck (
    answer_ready c s.world q p (hold s.world.owner q) k refl (left_alone_after s o q (answer c s.world o) p Ready n e ready_not)
    ∙ ap (λ (u : Turn P S L F). answer_of c (hold s.world.owner q) u) r
    )

places_step : {P S L F : Type 0} → (c : Code P S L F) (s : State P S L) (o q : ℕ) → (next c s (Step o)).world.owner ≡ Some o → (q == o) ≡ false →
    held_up c (next c s (Step o)) (Step q) ≡ false → idle c (next c s (Step o)) (Step q) ≡ true → Swap (moves c) s o (Step q)
places_step c s o q own m h k =
    let b = next c s (Step o) in
    let others : hold b.world.owner q ≡ Others = hold_others b.world.owner o q own m in
    let stuck : is_stuck (answer_at c Others b.world.shared q (slice_get b.world.threads q)) ≡ true =
    ap (λ (y : Hold). is_stuck (answer_at c y b.world.shared q (slice_get b.world.threads q))) (sym others) ∙ k in
    let unblocked : is_blocked (answer_at c Others b.world.shared q (slice_get b.world.threads q)) ≡ false =
    ap (λ (y : Hold). is_blocked (answer_at c y b.world.shared q (slice_get b.world.threads q))) (sym others) ∙ h in
    swap_idle c s o (Step q)
    (finished_before c s o q (λ e. eqb-false q o m (sym e)) (apart s.world.owner o q m (owner_before c s o own)) (finished c b.world.shared q (slice_get b.world.threads q) stuck unblocked))
    k

places_by : {P S L F : Type 0} → (c : Code P S L F) (s : State P S L) (o : ℕ) (i : Item) → (next c s (Step o)).world.owner ≡ Some o → is_of o i ≡ false →
    held_up c (next c s (Step o)) i ≡ false → (b : Bool) → idle c (next c s (Step o)) i ≡ b → Swap (moves c) s o i
places_by c s o i own n h false e = (swaps c s o i own n e).1
places_by c s o (Step q) own n h true e = places_step c s o q own n h e
places_by c s o (Wake q) own n h true e = places_wake c s o q (eqb-false q o n) e (not (is_waiting (slice_get s.world.threads q))) refl

pub changing_places : {P S L F : Type 0} → (c : Code P S L F) → ChangingPlaces c
changing_places c s o i own n h = places_by c s o i own n h (idle c (next c s (Step o)) i) refl
