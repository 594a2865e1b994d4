-- A move that was seen at an instruction of a usable code can be taken.
use Rattle.std.proofs.Common.{◌≡◌, refl, subst, arith, ℕ, ◌+◌, ◌<◌, ◌≤◌, Bool, true, false, if◌then◌else◌, IsTrue, List, length, take, Option, Some, None, Result, Ok, Err}
use Rattle.std.specs.Prelude.{slice_get, nat_lt, nat_le}
use Rattle.std.specs.List.{list_all}
use Rattle.std.proofs.lemmas.Bool.{ltb-true, leb-true}
use Rattle.hc_rational.specs.Words.{Rational}
use Rattle.hc_term.specs.declared.run.Unfit.{Unfit}
use Rattle.hc_term.specs.Value.{Store}
use Rattle.hc_term.specs.Evaluated.{value_in, truth_in}
use Rattle.hc_term.specs.Process.{is_due}
use Rattle.hc_term.specs.Profile.{is_expr}
use Rattle.hc_code.specs.declared.code.Instr.{Instr}
use Rattle.hc_code.specs.declared.code.Instr.TheVariants as instr
use Rattle.hc_code.specs.Kept.{is_instr}
use Rattle.hc_code.proofs.Growing.{first_of, second_of}
use Rattle.hc_step.specs.declared.local.Local.{Local}
use Rattle.hc_step.specs.declared.look.Move.{Move}
use Rattle.hc_step.specs.declared.look.Move.TheVariants as move
use Rattle.hc_step.specs.Usable.{has_places, is_usable_code}
use Rattle.hc_step.specs.Looking.{Seen, setting, logging, testing, seen, seen_arrived}
use Rattle.hc_step.specs.Taking.{IsMovable}
use Rattle.hc_step.proofs.Sees.{rules_at, places_at}

abbrev gives : Move → Seen
gives m = Ok (Some m)

abbrev offered : Option Move → Seen
offered m = Ok m

-- what a move needs, at an instruction of a code of this length
abbrev IsReady : ℕ → ℕ → Move → Type 0
IsReady n len (move.Goes next) = next < len
IsReady n len (move.Sets x v next) = (x < n) × (next < len)
IsReady n len (move.Logs v next) = next < len
IsReady n len (move.Picks next) = next < len

module _ (n len : ℕ) where
  here : (m k : Move) → IsReady n len m → gives m ≡ gives k → IsReady n len k
  here m k h e =
      let same : m ≡ k = cc in
      subst (λ (o : Move). IsReady n len o) same h

  sets : (x next : ℕ) (r : Result Rational Unfit) (k : Move) → x < n → next < len → setting x next r ≡ Ok (Some k) → IsReady n len k
  sets x next (Ok v) k h g e = here (move.Sets x v next) k (h, g) e
  sets x next (Err u) k h g e = cc

  logs : (next : ℕ) (r : Result Rational Unfit) (k : Move) → next < len → logging next r ≡ Ok (Some k) → IsReady n len k
  logs next (Ok v) k h e = here (move.Logs v next) k h e
  logs next (Err u) k h e = cc

  tests : (first second : ℕ) (r : Result Bool Unfit) (k : Move) → first < len → second < len → testing first second r ≡ Ok (Some k) → IsReady n len k
  tests first second (Ok true) k h g e = here (move.Goes first) k h e
  tests first second (Ok false) k h g e = here (move.Goes second) k g e
  tests first second (Err u) k h g e = cc

  picks : (b : Bool) (first second : ℕ) (k : Move) → first < len → second < len → gives (move.Picks (if b then first else second)) ≡ gives k →
      IsReady n len k
  picks true first second k h g e = here (move.Picks first) k h e
  picks false first second k h g e = here (move.Picks second) k g e

  leaves : (b : Bool) (next : ℕ) (k : Move) → next < len → offered (if b then Some (move.Goes next) else None) ≡ gives k → IsReady n len k
  leaves true next k h e = here (move.Goes next) k h e
  leaves false next k h e = cc

  nothing : (k : Move) → offered None ≡ gives k → IsReady n len k
  nothing k e = cc

  stays : (b : Bool) (k : Move) → offered (if b then None else None) ≡ gives k → IsReady n len k
  stays true k e = cc
  stays false k e = cc

below : (place len : ℕ) → IsTrue (nat_lt place len) → place < len
below place len h = ltb-true place len h

ready_going : (channels n len : ℕ) (s : Store) (is_left : Bool) (i : Instr) (k : Move) → IsTrue (is_instr channels n i) → IsTrue (has_places len i) →
    seen s is_left i ≡ Ok (Some k) → IsReady n len k
ready_going channels n len s is_left (instr.Skip next) k v p e = here n len (move.Goes next) k (below next len p) e
ready_going channels n len s is_left (instr.Again next) k v p e = here n len (move.Goes next) k (below next len p) e
ready_going channels n len s is_left (instr.Assign x value next) k v p e =
    let named : x + 1 ≤ n = leb-true (x + 1) n (first_of (nat_le (x + 1) n) (is_expr n value) v) in
    sets n len x next (value_in s value) k (omega (arith, named)) (below next len p) e
ready_going channels n len s is_left (instr.Log value next) k v p e = logs n len next (value_in s value) k (below next len p) e
ready_going channels n len s is_left (instr.Test c first second) k v p e =
    tests n len first second (truth_in s c) k (below first len (first_of (nat_lt first len) (nat_lt second len) p))
    (below second len (second_of (nat_lt first len) (nat_lt second len) p)) e
ready_going channels n len s is_left (instr.Pick left right) k v p e =
    picks n len is_left left right k (below left len (first_of (nat_lt left len) (nat_lt right len) p))
    (below right len (second_of (nat_lt left len) (nat_lt right len) p)) e
ready_going channels n len s is_left (instr.Wait value next) k v p e = nothing n len k e
ready_going channels n len s is_left (instr.Meet ways) k v p e = nothing n len k e
ready_going channels n len s is_left (instr.Evolve rates c ways next) k v p e = nothing n len k e
ready_going channels n len s is_left instr.End k v p e = nothing n len k e

ready_arrived : (n len : ℕ) (b : Option Rational) (i : Instr) (k : Move) → IsTrue (has_places len i) →
    seen_arrived b i ≡ Ok (Some k) → IsReady n len k
ready_arrived n len b (instr.Wait value next) k p e = leaves n len (is_due b) next k (below next len p) e
ready_arrived n len b (instr.Skip next) k p e = stays n len (is_due b) k e
ready_arrived n len b (instr.Again next) k p e = stays n len (is_due b) k e
ready_arrived n len b (instr.Assign x value next) k p e = stays n len (is_due b) k e
ready_arrived n len b (instr.Log value next) k p e = stays n len (is_due b) k e
ready_arrived n len b (instr.Test c first second) k p e = stays n len (is_due b) k e
ready_arrived n len b (instr.Pick left right) k p e = stays n len (is_due b) k e
ready_arrived n len b (instr.Meet ways) k p e = stays n len (is_due b) k e
ready_arrived n len b (instr.Evolve rates c ways next) k p e =
    leaves n len (is_due b) next k (below next len (second_of (list_all (λ w. nat_lt w.next len) ways) (nat_lt next len) p)) e
ready_arrived n len b instr.End k p e = stays n len (is_due b) k e

-- ---- moves of a local

movable : (code : List Instr) (l : Local) (k : Move) → IsReady l.variables (length code) k → IsMovable code l k
movable code l (move.Goes next) h = h
movable code l (move.Sets x v next) h = h
movable code l (move.Logs v next) h = h
movable code l (move.Picks next) h = h

pub movable_going : (code : List Instr) (is_left : Bool) (l : Local) (i : Instr) (k : Move) → IsTrue (is_usable_code l.variables code) →
    slice_get code l.place ≡ Some i → seen (take l.variables l.store) is_left i ≡ Ok (Some k) → IsMovable code l k
movable_going code is_left l i k u at e =
    let ruled = rules_at l.variables l.variables code l.place i u at refl in
    movable code l k
    (ready_going ruled.0 l.variables (length code) (take l.variables l.store) is_left i k ruled.1 (places_at l.variables code l.place i u at) e)

pub movable_arrived : (code : List Instr) (b : Option Rational) (l : Local) (i : Instr) (k : Move) → IsTrue (is_usable_code l.variables code) →
    slice_get code l.place ≡ Some i → seen_arrived b i ≡ Ok (Some k) → IsMovable code l k
movable_arrived code b l i k u at e =
    movable code l k (ready_arrived l.variables (length code) b i k (places_at l.variables code l.place i u at) e)
