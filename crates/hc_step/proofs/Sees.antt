-- What is seen of a step at an instruction is what the definition has for a list that the instruction agrees with.
use Rattle.std.proofs.Common.{◌≡◌, refl, sym, ap, ◌∙◌, subst, arith, ℕ, zero, suc, ◌+◌, ◌*◌, ◌/◌, ◌%◌, ◌^◌, ◌==◌, Bool, true, false, if◌then◌else◌, IsTrue, List, [], ◌∷◌, ◌++◌, length, Option, Some, None, Ok}
use Rattle.std.specs.Prelude.{slice_set, slice_get}
use Rattle.std.proofs.lemmas.Bool.{false≢true}
use Rattle.std.specs.List.{list_all}
use Rattle.hc_rational.specs.Words.{Rational}
use Rattle.hc_term.specs.declared.stmt.Stmt.{Stmt, out-Stmt}
use Rattle.hc_term.specs.declared.stmt.Stmt.TheOpen.{Stmt-F}
use Rattle.hc_term.specs.declared.model.Mark.{Mark}
use Rattle.hc_term.specs.declared.model.Mark.TheVariants.{Going, Arrived}
use Rattle.hc_term.specs.declared.model.ProcessState.{ProcessState}
use Rattle.hc_term.specs.Process.{Layer, bound, bound_at, bound_here, is_due}
use Rattle.hc_term.specs.Value.{Store, val, holds, is_fitting, is_fitting_test}
use Rattle.hc_term.specs.Evaluated.{if_fitting}
use Rattle.hc_term.specs.Offers.{post_at}
use Rattle.hc_term.specs.Silent.{Idle, Did, silent, silent_at, if_fit, goes_on, going_step, picks_left}
use Rattle.hc_code.specs.declared.code.Instr.{Instr}
use Rattle.hc_code.specs.declared.code.Instr.TheVariants as instr
use Rattle.hc_code.specs.Stands.{Table, At, AgreesHere, Agrees, AllAgree}
use Rattle.hc_step.specs.declared.look.Move.{Move}
use Rattle.hc_step.specs.declared.look.Move.TheVariants as move
use Rattle.hc_step.specs.Usable.{has_places, is_usable, IsRuled, is_ruled, is_usable_code, channels_at}
use Rattle.hc_step.specs.Arriving.{is_stay}
use Rattle.hc_code.proofs.Growing.{first_of, second_of}
use Rattle.hc_step.specs.Looking.{setting, logging, testing, seen, seen_arrived}
use Rattle.hc_step.specs.Represents.{Sees}

module _ (t : Table) (q : ProcessState) (going : q.mark ≡ Going) (rest : List Stmt) where
  sets : (b : Bool) (v : Rational) (x next : ℕ) → At t next rest →
      Sees t q (if_fit b (Did None (record q { todo = rest; store = slice_set q.store x v }))) (setting x next (if_fitting b v))
  sets true v x next h = (rest, h, refl, ap (λ (m : Mark). record q { todo = rest; store = slice_set q.store x v; mark = m }) going)
  sets false v x next h = tt

  logs : (b : Bool) (v : Rational) (next : ℕ) → At t next rest → Sees t q (if_fit b (Did (Some v) (record q { todo = rest }))) (logging next (if_fitting b v))
  logs true v next h = (rest, h, refl, ap (λ (m : Mark). record q { todo = rest; mark = m }) going)
  logs false v next h = tt

  tests : (b h : Bool) (first second : List Stmt) (yes' no' : ℕ) → At t yes' first → At t no' second →
      Sees t q (if_fit b (goes_on q (if h then first else second))) (testing yes' no' (if_fitting b h))
  tests true true first second yes' no' h k = (first, h, refl, refl)
  tests true false first second yes' no' h k = (second, k, refl, refl)
  tests false b first second yes' no' h k = tt

  sides : (b h : Bool) (first second : List Stmt) (yes' no' : ℕ) → At t yes' (first ++ rest) → At t no' (second ++ rest) →
      Sees t q (if_fit b (goes_on q ((if h then first else second) ++ rest))) (testing yes' no' (if_fitting b h))
  sides true true first second yes' no' h k = (first ++ rest, h, refl, refl)
  sides true false first second yes' no' h k = (second ++ rest, k, refl, refl)
  sides false b first second yes' no' h k = tt

  picks : (b : Bool) (left right : List Stmt) (first second : ℕ) → At t first (left ++ rest) → At t second (right ++ rest) →
      Sees t q (Did None (record q { todo = (if b then left else right) ++ rest; choices = q.choices + 1 })) (Ok (Some (move.Picks (if b then first else second))))
  picks true left right first second h k = (left ++ rest, h, refl, ap (λ (m : Mark). record q { todo = left ++ rest; choices = q.choices + 1; mark = m }) going)
  picks false left right first second h k = (right ++ rest, k, refl, ap (λ (m : Mark). record q { todo = right ++ rest; choices = q.choices + 1; mark = m }) going)

stays_not : {A : Type 0} (i j : Instr) → i ≡ j → is_stay j ≡ true → is_stay i ≡ false → A
stays_not i j e k u = absurd (false≢true (sym u ∙ (ap is_stay e ∙ k)))

-- a going process that doesn't arrive sees at its instruction the step that it has by the definition
pub sees_here : (t : Table) (seed p : ℕ) (clock : Rational) (q : ProcessState) (going : q.mark ≡ Going) (head : Stmt) (rest : List Stmt) (i : Instr) (l : Layer) →
    is_stay i ≡ false → AgreesHere t i head rest l →
    Sees t q (going_step seed p clock q head rest l) (seen q.store (picks_left seed p q.choices) i)
sees_here t seed p clock q going head rest i Stmt-F.Skip u h =
    subst (λ (j : Instr). Sees t q (goes_on q rest) (seen q.store (picks_left seed p q.choices) j)) (sym h.1) (rest, h.2, refl, refl)
sees_here t seed p clock q going head rest i (Stmt-F.Assign x e) u h =
    subst (λ (j : Instr). Sees t q (going_step seed p clock q head rest (Stmt-F.Assign x e)) (seen q.store (picks_left seed p q.choices) j)) (sym h.1)
    (sets t q going rest (is_fitting q.store e) (val q.store e) x h.0 h.2)
sees_here t seed p clock q going head rest i (Stmt-F.Log e) u h =
    subst (λ (j : Instr). Sees t q (going_step seed p clock q head rest (Stmt-F.Log e)) (seen q.store (picks_left seed p q.choices) j)) (sym h.1)
    (logs t q going rest (is_fitting q.store e) (val q.store e) h.0 h.2)
sees_here t seed p clock q going head rest i (Stmt-F.Wait e) u h = stays_not i (instr.Wait e h.0) h.1 refl u
sees_here t seed p clock q going head rest i (Stmt-F.If c first second) u h =
    subst (λ (j : Instr). Sees t q (going_step seed p clock q head rest (Stmt-F.If c first second)) (seen q.store (picks_left seed p q.choices) j)) (sym h.2)
    (sides t q going rest (is_fitting_test q.store c) (holds q.store c) first second h.0 h.1 h.3 h.4)
sees_here t seed p clock q going head rest i (Stmt-F.Loop c body) u h =
    subst (λ (j : Instr). Sees t q (going_step seed p clock q head rest (Stmt-F.Loop c body)) (seen q.store (picks_left seed p q.choices) j)) (sym h.2)
    (tests t q going rest (is_fitting_test q.store c) (holds q.store c) (body ++ head ∷ rest) rest h.0 h.1 h.3 h.4)
sees_here t seed p clock q going head rest i (Stmt-F.Pick left right) u h =
    subst (λ (j : Instr). Sees t q (going_step seed p clock q head rest (Stmt-F.Pick left right)) (seen q.store (picks_left seed p q.choices) j)) (sym h.2)
    (picks t q going rest (picks_left seed p q.choices) left right h.0 h.1 h.3 h.4)
sees_here t seed p clock q going head rest i (Stmt-F.Forever body) u h =
    subst (λ (j : Instr). Sees t q (going_step seed p clock q head rest (Stmt-F.Forever body)) (seen q.store (picks_left seed p q.choices) j)) (sym h.1)
    (body ++ head ∷ rest, h.2, refl, refl)
sees_here t seed p clock q going head rest i (Stmt-F.Io io) u h = stays_not i (instr.Meet (record { io = io; next = h.0 } ∷ [])) h.1 refl u
sees_here t seed p clock q going head rest i (Stmt-F.Choice bs) u h = stays_not i (instr.Meet h.0) h.1 refl u
sees_here t seed p clock q going head rest i (Stmt-F.Evolve rates c bs) u h = stays_not i (instr.Evolve rates c h.0 h.1) h.2 refl u

-- ---- the instruction at a place

pub agrees_at : (t ts : Table) (code : List Instr) (place : ℕ) (todo : List Stmt) (i : Instr) → AllAgree t code ts → slice_get ts place ≡ Some todo →
    slice_get code place ≡ Some i → Agrees t i todo
agrees_at t [] [] place todo i h e f = cc
agrees_at t [] (j ∷ is) place todo i h e f = absurd h
agrees_at t (l ∷ ls) [] place todo i h e f = absurd h
agrees_at t (l ∷ ls) (j ∷ is) zero todo i h e f =
    let same_list : l ≡ todo = cc in
    let same_instr : j ≡ i = cc in
    subst (λ (k : Instr). Agrees t k todo) same_instr (subst (λ (ss : List Stmt). Agrees t j ss) same_list h.0)
agrees_at t (l ∷ ls) (j ∷ is) (suc place) todo i h e f = agrees_at t ls is place todo i h.1 e f

-- where a place stands for a list, the code has an instruction there
pub instr_at : (t ts : Table) (code : List Instr) (place : ℕ) (todo : List Stmt) → AllAgree t code ts → slice_get ts place ≡ Some todo →
    (i : Instr) × (slice_get code place ≡ Some i) × Agrees t i todo
instr_at t [] [] place todo h e = cc
instr_at t [] (j ∷ is) place todo h e = absurd h
instr_at t (l ∷ ls) [] place todo h e = absurd h
instr_at t (l ∷ ls) (j ∷ is) zero todo h e =
    let same : l ≡ todo = cc in
    (j, refl, subst (λ (ss : List Stmt). Agrees t j ss) same h.0)
instr_at t (l ∷ ls) (j ∷ is) (suc place) todo h e = instr_at t ls is place todo h.1 e

going_sees : (t : Table) (seed p : ℕ) (clock : Rational) (q : ProcessState) → q.mark ≡ Going → (todo : List Stmt) (i : Instr) → is_stay i ≡ false →
    Agrees t i todo → Sees t q (silent_at seed p clock q Going todo) (seen q.store (picks_left seed p q.choices) i)
going_sees t seed p clock q going [] i u h =
    subst (λ (j : Instr). Sees t q Idle (seen q.store (picks_left seed p q.choices) j)) (sym h) tt
going_sees t seed p clock q going (head ∷ rest) i u h = sees_here t seed p clock q going head rest i (out-Stmt head) u h

-- what a going process sees at its place
pub sees_going : (t : Table) (code : List Instr) (seed p place : ℕ) (clock : Rational) (q : ProcessState) (i : Instr) → AllAgree t code t →
    At t place q.todo → slice_get code place ≡ Some i → is_stay i ≡ false → q.mark ≡ Going →
    Sees t q (silent seed p clock q) (seen q.store (picks_left seed p q.choices) i)
sees_going t code seed p place clock q i all at here u going =
    subst (λ (m : Mark). Sees t q (silent_at seed p clock q m q.todo) (seen q.store (picks_left seed p q.choices) i)) (sym going)
    (going_sees t seed p clock q going q.todo i u (agrees_at t t code place q.todo i all at here))

-- ---- a process that has arrived

leaves : (t : Table) (q : ProcessState) (rest : List Stmt) (next : ℕ) (b : Bool) → At t next rest →
    Sees t q (if b then goes_on q rest else Idle) (Ok (if b then Some (move.Goes next) else None))
leaves t q rest next true h = (rest, h, refl, refl)
leaves t q rest next false h = tt

stays : (t : Table) (q : ProcessState) (rest : List Stmt) (i : Instr) (o : Option Rational) → o ≡ None →
    Sees t q (if is_due o then goes_on q rest else Idle) (seen_arrived o i)
stays t q rest i o e = subst (λ (o : Option Rational). Sees t q (if is_due o then goes_on q rest else Idle) (seen_arrived o i)) (sym e) tt

arrived_here : (t : Table) (left : Rational) (q : ProcessState) (head : Stmt) (rest : List Stmt) (i : Instr) (l : Layer) (o : Option Rational) →
    AgreesHere t i head rest l → o ≡ bound_here q.store left l →
    Sees t q (if is_due o then goes_on q rest else Idle) (seen_arrived o i)
arrived_here t left q head rest i (Stmt-F.Wait e) o h b =
    subst (λ (j : Instr). Sees t q (if is_due o then goes_on q rest else Idle) (seen_arrived o j)) (sym h.1) (leaves t q rest h.0 (is_due o) h.2)
arrived_here t left q head rest i Stmt-F.Skip o h b = stays t q rest i o b
arrived_here t left q head rest i (Stmt-F.Assign x e) o h b = stays t q rest i o b
arrived_here t left q head rest i (Stmt-F.Log e) o h b = stays t q rest i o b
arrived_here t left q head rest i (Stmt-F.If c first second) o h b = stays t q rest i o b
arrived_here t left q head rest i (Stmt-F.Loop c body) o h b = stays t q rest i o b
arrived_here t left q head rest i (Stmt-F.Pick first second) o h b = stays t q rest i o b
arrived_here t left q head rest i (Stmt-F.Forever body) o h b = stays t q rest i o b
arrived_here t left q head rest i (Stmt-F.Io io) o h b = stays t q rest i o b
arrived_here t left q head rest i (Stmt-F.Choice bs) o h b = stays t q rest i o b
arrived_here t left q head rest i (Stmt-F.Evolve rates c bs) o h b =
    subst (λ (j : Instr). Sees t q (if is_due o then goes_on q rest else Idle) (seen_arrived o j)) (sym h.2) (leaves t q rest h.1 (is_due o) h.4)

none_left : (b : Bool) (m : Option Move) → m ≡ None → (if b then m else None) ≡ None
none_left true m e = e
none_left false m e = refl

arrived_sees : (t : Table) (seed p : ℕ) (clock left : Rational) (q : ProcessState) (todo : List Stmt) (i : Instr) (o : Option Rational) →
    Agrees t i todo → o ≡ bound_at q.store (Arrived left) todo → bound q ≡ o →
    Sees t q (silent_at seed p clock q (Arrived left) todo) (seen_arrived o i)
arrived_sees t seed p clock left q [] i o h b same =
    subst (λ (j : Instr). Sees t q Idle (seen_arrived o j)) (sym h) (subst (λ (m : Option Move). Sees t q Idle (Ok m)) (sym (none_left (is_due o) None refl)) tt)
arrived_sees t seed p clock left q (head ∷ rest) i o h b same =
    subst (λ (r : Option Rational). Sees t q (if is_due r then goes_on q rest else Idle) (seen_arrived o i)) (sym same)
    (arrived_here t left q head rest i (out-Stmt head) o h b)

-- what a process that has arrived sees at its place
pub sees_arrived : (t : Table) (code : List Instr) (seed p place : ℕ) (clock left : Rational) (q : ProcessState) (i : Instr) (o : Option Rational) → AllAgree t code t →
    At t place q.todo → slice_get code place ≡ Some i → q.mark ≡ Arrived left → o ≡ bound q →
    Sees t q (silent seed p clock q) (seen_arrived o i)
sees_arrived t code seed p place clock left q i o all at here arrived b =
    let bounded : o ≡ bound_at q.store (Arrived left) q.todo = b ∙ ap (λ (m : Mark). bound_at q.store m q.todo) arrived in
    subst (λ (m : Mark). Sees t q (silent_at seed p clock q m q.todo) (seen_arrived o i)) (sym arrived)
    (arrived_sees t seed p clock left q q.todo i o (agrees_at t t code place q.todo i all at here) bounded (sym b))

-- ---- choices are counted modulo 64

same_bit : (k p : ℕ) → (k % 64 + 7 * p) % 64 ≡ (k + 7 * p) % 64
same_bit k p = omega arith

pub same_side : (seed p k : ℕ) → picks_left seed p (k % 64) ≡ picks_left seed p k
same_side seed p k = ap (λ (n : ℕ). (seed / 2 ^ n) % 2 == 0) (same_bit k p)

-- ---- what a local keeps

usable_at : (n len : ℕ) (code : List Instr) (place : ℕ) (i : Instr) → IsTrue (list_all (is_usable n len) code) → slice_get code place ≡ Some i →
    IsTrue (is_usable n len i)
usable_at n len [] place i u e = cc
usable_at n len (j ∷ is) zero i u e =
    let same : j ≡ i = cc in
    subst (λ (k : Instr). IsTrue (is_usable n len k)) same (first_of (is_usable n len j) (list_all (is_usable n len) is) u)
usable_at n len (j ∷ is) (suc place) i u e = usable_at n len is place i (second_of (is_usable n len j) (list_all (is_usable n len) is) u) e

-- a place has one instruction
pub same_instr : (code : List Instr) (place : ℕ) (i j : Instr) → slice_get code place ≡ Some i → slice_get code place ≡ Some j → i ≡ j
same_instr code place i j h k = let e : Some i ≡ Some j = sym h ∙ k in cc

-- the instruction at a place keeps the rules, and its places are in range
pub rules_at : (n m : ℕ) (code : List Instr) (place : ℕ) (i : Instr) → IsTrue (is_usable_code n code) → slice_get code place ≡ Some i → m ≡ n → IsRuled m i
rules_at n m code place i u e same =
    subst (λ (k : ℕ). IsRuled k i) (sym same) (channels_at i, first_of (is_ruled n i) (has_places (length code) i) (usable_at n (length code) code place i u e))

pub places_at : (n : ℕ) (code : List Instr) (place : ℕ) (i : Instr) → IsTrue (is_usable_code n code) → slice_get code place ≡ Some i →
    IsTrue (has_places (length code) i)
places_at n code place i u e = second_of (is_ruled n i) (has_places (length code) i) (usable_at n (length code) code place i u e)

pub shown_bound : (clock : Rational) (s : Store) (m : Mark) (todo : List Stmt) → (post_at clock s (bound_at s m todo) m todo).bound ≡ bound_at s m todo
shown_bound clock s Going [] = refl
shown_bound clock s Going (head ∷ rest) = refl
shown_bound clock s (Arrived left) [] = refl
shown_bound clock s (Arrived left) (head ∷ rest) = refl
