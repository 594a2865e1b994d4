-- A pair of threads that take turns meets no undefined step: outside a section each thread is in front of its first statement, waits or was
-- woken in its loop, is behind its section, or has returned; and it is the turn of one of them.
use Rattle.std.specs.Prelude.{◌≡◌, ◌≢◌, ◌⊎◌, ℕ, zero, suc, Bool, true, false, not, ◌==◌, if◌then◌else◌, List, [], ◌∷◌, map, slice_get, slice_index_or, ℤ, pos, Option, Some, None, option_map, codes}
use Rattle.std.proofs.Common.{refl, sym, ap, ◌∙◌, subst, inl, inr}
use Rattle.std.proofs.lemmas.Bool.{eqb-true, eqb-false}
use Rattle.std.proofs.lemmas.Option.{same_Some, slice_get-map}
use Rattle.hc_rational.specs.Words.{Rational, zero_ℚ}
use Rattle.hc_cast.specs.declared.stmt.CStmt.{CStmt}
use Rattle.hc_schedule.specs.declared.status.Status.{Status}
use Rattle.hc_schedule.specs.declared.status.Status.TheVariants.{Ready, Waiting, Woken}
use Rattle.hc_schedule.specs.Sections.{Item, Step, Wake, steps, run, IsSafe}
use Rattle.hc_schedule.specs.Threads.{Thread, Goes, Locks, Unlocks, Waits, Wakes, Works, Prints, Retakes, Does, Blocked, Over, Takes, Code, Free, hold, answer, answer_at, answer_of, put, stirred_thread, roused_by, is_waiting}
use Rattle.hc_schedule.specs.Schedule.{after, next, is_fault, undefined, moves}
use Rattle.hc_schedule.specs.Solo.{Solo, solo_turn, then_solo, solos, stirred_by, within}
use Rattle.hc_cmach.specs.State.{Own, Shared, opening_own, empty_row, zeros, Fault}
use Rattle.hc_cmach.specs.Line.{Line, Logs}
use Rattle.hc_cmach.specs.Turn.{c_code}
use Rattle.hc_cmach.specs.Machine.{CState, opening}
use Rattle.hc_cmach.specs.Pair.{waits, waits_for, last, unlocks, works, body, pair}
use Rattle.hc_schedule.proofs.Reduction.{Holds, sound_by}
use Rattle.hc_schedule.proofs.ThreadLaws.{thread_laws, idles, get_other, every_schedule_of}
use Rattle.hc_schedule.proofs.SoloRuns.{get_same, set_twice, there_stirred, locked, retaken, leaves_unlocking, leaves_waiting, left_unlocking, left_waiting, section_alone, not_both}
use Rattle.hc_cmach.proofs.Worths.{forms}

-- one of the two
data Side : Type 0 where
  first : Side
  second : Side

abbrev own_number : Side → ℕ
own_number first = 0
own_number second = 1

abbrev other : Side → Side
other first = second
other second = first

abbrev looping : Side → List CStmt
looping x = waits_for (own_number x) ∷ works (own_number x) (own_number (other x))

-- and at its wait
abbrev asleep : Side → List CStmt
asleep x = waits (own_number x) ∷ looping x

-- a thread with these statements to do
abbrev with : List CStmt → Own
with ss = record { row = empty_row; frames = record { names = []; values = []; todo = ss; target = None; gives = false } ∷ [] }

abbrev in_front : Side → Own
in_front x = opening_own (body (own_number x) (own_number (other x)))

abbrev gone : Own
gone = record { row = empty_row; frames = [] }

-- it is the turn of this one
abbrev at_turn : List Rational → Side → Shared
at_turn row x = record { row = row; arrays = (pos (own_number x) ∷ []) ∷ [] }

abbrev c : Code Own Shared Line Fault
c = c_code pair

-- the state after a spurious wake-up of thread t, which is found so
abbrev roused_state : CState → ℕ → Option (Thread Own) → CState
roused_state s t x = record { world = roused_by s.world t x; lines = s.lines; moved = s.moved }

-- ---- single steps

module _ (t : ℕ) (seen : Option Shared) where
  locks : (x : Side) → c.turn t (in_front x) seen ≡ Does (Locks (with (looping x)))
  locks first = simp forms
  locks second = simp forms

  returns : c.turn t (with last) seen ≡ Does (Goes gone)
  returns = simp forms

  gives_up : c.turn t (with unlocks) seen ≡ Does (Unlocks (with last))
  gives_up = simp forms

  falls_asleep : (x : Side) → c.turn t (with (asleep x)) seen ≡ Does (Waits (own_number x) (with (looping x)))
  falls_asleep first = simp forms
  falls_asleep second = simp forms

-- a thread alone, from its loop on
abbrev from_loop : Side → Shared → Solo Own Shared Line
from_loop x m = record { own = with (looping x); shared = m; lines = []; wakes = [] }

-- the other's turn: it comes to its wait
abbrev waits_there : Side → Shared → Solo Own Shared Line
waits_there x m = record { own = with (asleep x); shared = m; lines = []; wakes = [] }

-- its own turn: it comes to the end of its section
abbrev worked : List Rational → Side → Solo Own Shared Line
worked row x = record {
  own = with unlocks;
  shared = at_turn row (other x);
  lines = Logs (slice_index_or row 0 zero_ℚ) (own_number x) (slice_index_or row 0 zero_ℚ) ∷ [];
  wakes = own_number (other x) ∷ [];
}

module _ (t : ℕ) (row : List Rational) where
  alone_waits : (x : Side) → solos c t 1 (from_loop x (at_turn row (other x))) ≡ Some (waits_there x (at_turn row (other x)))
  alone_waits first = simp forms
  alone_waits second = simp forms

  alone_works : (x : Side) → solos c t 4 (from_loop x (at_turn row x)) ≡ Some (worked row x)
  alone_works first = simp forms
  alone_works second = simp forms

-- ---- what holds between sections

abbrev thread : Own → Status → Thread Own
thread own status = record { own = own; status = status }

-- outside a section a thread is at one of five places
abbrev IsIdle : Side → Thread Own → Type 0
IsIdle x th =
    (th ≡ thread (in_front x) Ready) ⊎ (th ≡ thread (with (looping x)) (Waiting (own_number x))) ⊎ (th ≡ thread (with (looping x)) Woken)
    ⊎ (th ≡ thread (with last) Ready) ⊎ (th ≡ thread gone Ready)

abbrev Idle : Thread Own → Type 0
Idle th = (x : Side) × IsIdle x th

abbrev AllIdle : List (Thread Own) → Type 0
AllIdle ths = (q : ℕ) (th : Thread Own) → slice_get ths q ≡ Some th → Idle th

abbrev IsTurn : Shared → Type 0
IsTurn m = (row : List Rational) × (x : Side) × (m ≡ at_turn row x)

abbrev Inv : CState → Type 0
Inv s = IsTurn s.world.shared × AllIdle s.world.threads

-- a wake-up, and a broadcast, lead from such places to such places
stirs : (k : ℕ) (x : Side) (th : Thread Own) → IsIdle x th → IsIdle x (stirred_thread k th)
stirs k x th (inl e) = inl (ap (stirred_thread k) e)
stirs k x th (inr (inl e)) = by (own_number x == k) refl
  where
    by : (b : Bool) → (own_number x == k) ≡ b → IsIdle x (stirred_thread k th)
    by true z =
        inr (inr (inl (ap (stirred_thread k) e ∙ ap (λ (y : Bool). thread (with (looping x)) (if y then Woken else Waiting (own_number x))) z)))
    by false z =
        inr (inl (ap (stirred_thread k) e ∙ ap (λ (y : Bool). thread (with (looping x)) (if y then Woken else Waiting (own_number x))) z))
stirs k x th (inr (inr (inl e))) = inr (inr (inl (ap (stirred_thread k) e)))
stirs k x th (inr (inr (inr (inl e)))) = inr (inr (inr (inl (ap (stirred_thread k) e))))
stirs k x th (inr (inr (inr (inr e)))) = inr (inr (inr (inr (ap (stirred_thread k) e))))

stirs_one : (k : ℕ) (ths : List (Thread Own)) → AllIdle ths → AllIdle (map (stirred_thread k) ths)
stirs_one k ths all q th e = by (slice_get ths q) refl
  where
    by : (y : Option (Thread Own)) → slice_get ths q ≡ y → Idle th
    by None z =
        absurd (let n : ◌≡◌ {A = Option (Thread Own)} None (Some th) = ap (option_map (stirred_thread k)) (sym z) ∙ sym (slice_get-map (stirred_thread k) ths q) ∙ e in cc)
    by (Some was) z =
        let same : stirred_thread k was ≡ th = same_Some _ th (ap (option_map (stirred_thread k)) (sym z) ∙ sym (slice_get-map (stirred_thread k) ths q) ∙ e) in
        let idle = all q was z in
        (idle.0, subst (IsIdle idle.0) same (stirs k idle.0 was idle.1))

stirs_all : (ks : List ℕ) (ths : List (Thread Own)) → AllIdle ths → AllIdle (stirred_by ks ths)
stirs_all [] ths all = all
stirs_all (k ∷ ks) ths all = stirs_one k (stirred_by ks ths) (stirs_all ks ths all)

-- one thread is put to such a place
puts : (ths : List (Thread Own)) (o : ℕ) (own : Own) (status : Status) → (was : Thread Own) × (slice_get ths o ≡ Some was) → AllIdle ths → Idle (thread own status) →
    AllIdle (put ths o own status)
puts ths o own status there all idle q th g = by_thread (q == o) refl
  where
    by_thread : (x : Bool) → (q == o) ≡ x → Idle th
    by_thread true z =
        let here : th ≡ thread own status = same_Some th (thread own status) (sym g ∙ ap (slice_get (put ths o own status)) (eqb-true q o z) ∙ get_same ths o there.0 (thread own status) there.1) in
        subst Idle (sym here) idle
    by_thread false z =
        let apart : o ≢ q = λ x. eqb-false q o z (sym x) in
        all q th (sym (get_other ths o q (thread own status) apart) ∙ g)

-- the thread of a section is put to such a place, after its broadcasts
puts_stirred : (s : CState) (o : ℕ) (ks : List ℕ) (within own : Own) (status : Status) → (was : Thread Own) × (slice_get s.world.threads o ≡ Some was) →
    AllIdle s.world.threads → Idle (thread own status) → AllIdle (put (put (stirred_by ks s.world.threads) o within Ready) o own status)
puts_stirred s o ks within own status there all idle =
    subst AllIdle (sym (set_twice (stirred_by ks s.world.threads) o (thread within Ready) (thread own status)))
    (puts (stirred_by ks s.world.threads) o own status (there_stirred ks s.world.threads o there) (stirs_all ks s.world.threads all) idle)

-- ---- sections

abbrev Section : CState → ℕ → ℕ → Type 0
Section s o k =
    (undefined c (run (moves c) s (steps o k)) (Step o) ≡ false)
    × ((run (moves c) s (steps o (suc k))).world.owner ≡ None → Inv (run (moves c) s (steps o (suc k))))

abbrev Owned : CState → ℕ → ℕ → Type 0
Owned s o k = Holds (moves c) (thread_laws c) o s k

-- the thread takes the mutex, and is in its loop
abbrev Enters : CState → ℕ → Side → Type 0
Enters s o x = (undefined c s (Step o) ≡ false) × (next c s (Step o) ≡ within s o (from_loop x s.world.shared) 1)

module _ (s : CState) (o k : ℕ) (free : s.world.owner ≡ None) (inv : Inv s) (owned : Owned s o k) where
  abbrev There : Type 0
  There = (was : Thread Own) × (slice_get s.world.threads o ≡ Some was)

  -- it is the other's turn
  waiting_section : (x : Side) (row : List Rational) → There → Enters s o x → s.world.shared ≡ at_turn row (other x) → Section s o k
  waiting_section x row there enters turn =
      let y = waits_there x s.world.shared in
      let lone : solos c o 1 (from_loop x s.world.shared) ≡ Some y =
      subst (λ (m : Shared). solos c o 1 (from_loop x m) ≡ Some (waits_there x m)) (sym turn) (alone_waits o row x) in
      let asks = falls_asleep o (Some s.world.shared) x in
      let r = section_alone c s o (from_loop x s.world.shared) y 1 there enters.0 enters.1 lone (leaves_waiting c s o y (own_number x) (with (looping x)) there asks) k owned in
      let at = left_waiting c s o y (own_number x) (with (looping x)) 2 there asks in (
        r.0,
        λ g.
            subst Inv (sym (r.1 g ∙ at)) (
              inv.0,
              puts_stirred s o [] (with (asleep x)) (with (looping x)) (Waiting (own_number x)) there inv.1 (x, inr (inl refl)),
            ),
      )

  -- it is its own turn
  working_section : (x : Side) (row : List Rational) → There → Enters s o x → s.world.shared ≡ at_turn row x → Section s o k
  working_section x row there enters turn =
      let y = worked row x in
      let lone : solos c o 4 (from_loop x s.world.shared) ≡ Some y = ap (λ (m : Shared). solos c o 4 (from_loop x m)) turn ∙ alone_works o row x in
      let asks = gives_up o (Some (at_turn row (other x))) in
      let r = section_alone c s o (from_loop x s.world.shared) y 4 there enters.0 enters.1 lone (leaves_unlocking c s o y (with last) there asks) k owned in
      let at = left_unlocking c s o y (with last) 5 there asks in (
        r.0,
        λ g.
            subst Inv (sym (r.1 g ∙ at)) (
              (row, other x, refl),
              puts_stirred s o (own_number (other x) ∷ []) (with unlocks) (with last) Ready there inv.1 (x, inr (inr (inr (inl refl)))),
            ),
      )

  loop_section : (x : Side) → There → Enters s o x → IsTurn s.world.shared → Section s o k
  loop_section first there enters (row, first, turn) = working_section first row there enters turn
  loop_section first there enters (row, second, turn) = waiting_section first row there enters turn
  loop_section second there enters (row, first, turn) = waiting_section second row there enters turn
  loop_section second there enters (row, second, turn) = working_section second row there enters turn

  answer_here : (x : Option (Thread Own)) → slice_get s.world.threads o ≡ x → answer c s.world o ≡ answer_at c Free s.world.shared o x
  answer_here x e =
      ap (λ (w : Option ℕ). answer_at c (hold w o) s.world.shared o (slice_get s.world.threads o)) free
      ∙ ap (answer_at c Free s.world.shared o) e

  -- a step after which nobody owns the mutex is a section by itself
  single : (t : CState) → next c s (Step o) ≡ t → t.world.owner ≡ None → undefined c s (Step o) ≡ false → Inv t → Section s o k
  single t e f d i = by k owned
    where
      by : (j : ℕ) → Owned s o j → Section s o j
      by zero h = (d, λ g. subst Inv (sym e) i)
      by (suc j) h = not_both (next c s (Step o)).world.owner o (ap (λ (b : CState). b.world.owner) e ∙ f) h.0

  stuck : answer c s.world o ≡ Over → Section s o k
  stuck e = single s (ap (after s o) e) free (ap is_fault e) inv

  blocked : answer c s.world o ≡ Blocked → Section s o k
  blocked e = single s (ap (after s o) e) free (ap is_fault e) inv

  section_by : (th : Thread Own) → slice_get s.world.threads o ≡ Some th → (x : Side) → IsIdle x th → Section s o k
  section_by th e x (inl z) =
      let there : slice_get s.world.threads o ≡ Some (thread (in_front x) Ready) = e ∙ ap Some z in
      loop_section x (thread (in_front x) Ready, there)
      (locked c s o (with (looping x)) (answer_here (Some (thread (in_front x) Ready)) there ∙ ap (answer_of c Free) (locks o None x))) inv.0
  section_by th e x (inr (inl z)) = blocked (answer_here (Some (thread (with (looping x)) (Waiting (own_number x)))) (e ∙ ap Some z))
  section_by th e x (inr (inr (inl z))) =
      let there : slice_get s.world.threads o ≡ Some (thread (with (looping x)) Woken) = e ∙ ap Some z in
      loop_section x (thread (with (looping x)) Woken, there) (retaken c s o (with (looping x)) (answer_here (Some (thread (with (looping x)) Woken)) there)) inv.0
  section_by th e x (inr (inr (inr (inl z)))) =
      let there : slice_get s.world.threads o ≡ Some (thread (with last) Ready) = e ∙ ap Some z in
      let at : answer c s.world o ≡ Takes (Goes gone) = answer_here (Some (thread (with last) Ready)) there ∙ ap (answer_of c Free) (returns o None) in
      single (after {F = Fault} s o (Takes (Goes gone))) (ap (after s o) at) free (ap is_fault at)
      (inv.0, puts s.world.threads o gone Ready (thread (with last) Ready, there) inv.1 (x, inr (inr (inr (inr refl)))))
  section_by th e x (inr (inr (inr (inr z)))) = stuck (answer_here (Some (thread gone Ready)) (e ∙ ap Some z))

  section_at : (x : Option (Thread Own)) → slice_get s.world.threads o ≡ x → Section s o k
  section_at None e = stuck (answer_here None e)
  section_at (Some th) e = section_by th e (inv.1 o th e).0 (inv.1 o th e).1

section : (s : CState) (o k : ℕ) → s.world.owner ≡ None → Inv s → Owned s o k → Section s o k
section s o k free inv owned = section_at s o k free inv owned (slice_get s.world.threads o) refl

-- ---- wake-ups

module _ (s : CState) (t : ℕ) (inv : Inv s) where
  abbrev Woken_well : Option (Thread Own) → Type 0
  Woken_well x = slice_get s.world.threads t ≡ x → Inv (next c s (Wake t))

  calm : (x : Option (Thread Own)) → slice_get s.world.threads t ≡ x → not (is_waiting x) ≡ true → Inv (next c s (Wake t))
  calm x e h = subst Inv (sym (idles c s (Wake t) (ap (λ y. not (is_waiting y)) e ∙ h)).1) inv

  wakes_by : (th : Thread Own) → slice_get s.world.threads t ≡ Some th → (x : Side) → IsIdle x th → Inv (next c s (Wake t))
  wakes_by th e x (inl z) = calm (Some (thread (in_front x) Ready)) (e ∙ ap Some z) refl
  wakes_by th e x (inr (inl z)) =
      let there : slice_get s.world.threads t ≡ Some (thread (with (looping x)) (Waiting (own_number x))) = e ∙ ap Some z in
      subst Inv (sym (ap (roused_state s t) there))
      (inv.0, puts s.world.threads t (with (looping x)) Woken (thread (with (looping x)) (Waiting (own_number x)), there) inv.1 (x, inr (inr (inl refl))))
  wakes_by th e x (inr (inr (inl z))) = calm (Some (thread (with (looping x)) Woken)) (e ∙ ap Some z) refl
  wakes_by th e x (inr (inr (inr (inl z)))) = calm (Some (thread (with last) Ready)) (e ∙ ap Some z) refl
  wakes_by th e x (inr (inr (inr (inr z)))) = calm (Some (thread gone Ready)) (e ∙ ap Some z) refl

  wakes_at : (x : Option (Thread Own)) → slice_get s.world.threads t ≡ x → Inv (next c s (Wake t))
  wakes_at None e = calm None e refl
  wakes_at (Some th) e = wakes_by th e (inv.1 t th e).0 (inv.1 t th e).1

wake : (s : CState) (t : ℕ) → s.world.owner ≡ None → Inv s → (undefined c s (Wake t) ≡ false) × Inv (next c s (Wake t))
wake s t free inv = (refl, wakes_at s t inv (slice_get s.world.threads t) refl)

-- ---- the opening

at_first : AllIdle (opening pair).world.threads
at_first zero th e = (first, inl (sym (same_Some (thread (in_front first) Ready) th e)))
at_first (suc zero) th e = (second, inl (sym (same_Some (thread (in_front second) Ready) th e)))
at_first (suc (suc q)) th e = absurd cc

first_turn : IsTurn (opening pair).world.shared
unfolding zeros
first_turn = (empty_row, first, refl)

pub pair_is_safe : (w : List Item) → IsSafe (moves c) (opening pair) w
pair_is_safe w =
    (every_schedule_of c (opening pair) refl (sound_by (moves c) (thread_laws c) Inv section wake (opening pair) refl (first_turn, at_first)) w).0
