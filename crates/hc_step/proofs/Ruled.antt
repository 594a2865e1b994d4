-- The code of a process that keeps the rules can be run, with its own number of variables or more.
use Rattle.std.proofs.Common.{◌≡◌, refl, sym, ap, subst, arith, ℕ, zero, suc, ◌<◌, ◌≤◌, true, ◌&&◌, IsTrue, List, [], ◌∷◌, ◌++◌, length, Some}
use Rattle.std.specs.Prelude.{slice_get, nat_lt, nat_le}
use Rattle.std.specs.List.{list_all}
use Rattle.std.proofs.lemmas.Bool.{lt-ltb}
use Rattle.hc_term.specs.declared.stmt.Stmt.{Stmt, out-Stmt}
use Rattle.hc_term.specs.declared.stmt.Stmt.TheOpen.{Stmt-F}
use Rattle.hc_term.specs.declared.stmt.Branch.{Branch}
use Rattle.hc_limits.specs.Limits.{most_guards}
use Rattle.hc_term.specs.declared.stmt.Io.{Io}
use Rattle.hc_term.specs.declared.stmt.Io.TheVariants.{Send, Receive}
use Rattle.hc_term.specs.Profile.{is_expr, is_io, is_same_io, all_apart, are_guards, is_evolution}
use Rattle.hc_term.specs.Process.{Layer}
use Rattle.hc_term.specs.Rules.{is_stmt}
use Rattle.hc_code.specs.declared.code.Way.{Way}
use Rattle.hc_code.specs.declared.code.Instr.{Instr}
use Rattle.hc_code.specs.declared.code.Instr.TheVariants as instr
use Rattle.hc_code.specs.Kept.{ios_of, is_instr}
use Rattle.hc_code.specs.Stands.{Table, At, AgreesHere, WaysAgree, Agrees, AllAgree}
use Rattle.hc_code.proofs.Growing.{both, first_of, second_of}
use Rattle.hc_step.specs.Usable.{has_places, channel_of, channel_reach, is_ruled, is_usable}
use Rattle.hc_step.proofs.Evolves.{all_weaker}
use Rattle.hc_step.proofs.Wider.{instr_more}
use Rattle.hc_step.specs.Laws.{RuledCodesAreUsable}

-- ---- places

-- a place that stands for a list is one of the table
pub in_table : (t : Table) (place : ℕ) (todo : List Stmt) → slice_get t place ≡ Some todo → place < length t
in_table [] place todo e = cc
in_table (l ∷ ls) zero todo e = omega arith
in_table (l ∷ ls) (suc place) todo e = omega (arith, in_table ls place todo e)

pub same_length : (t ts : Table) (code : List Instr) → AllAgree t code ts → length ts ≡ length code
same_length t [] [] h = refl
same_length t [] (i ∷ is) h = absurd h
same_length t (l ∷ ls) [] h = absurd h
same_length t (l ∷ ls) (i ∷ is) h = ap suc (same_length t ls is h.1)

module _ (t : Table) (len : ℕ) (even : length t ≡ len) where
  place_in : (place : ℕ) (todo : List Stmt) → At t place todo → IsTrue (nat_lt place len)
  place_in place todo h = lt-ltb place len (omega (arith, even, in_table t place todo h))

  both_in : (p q : ℕ) (one other : List Stmt) → At t p one → At t q other → IsTrue (nat_lt p len && nat_lt q len)
  both_in p q one other h k = both (nat_lt p len) (nat_lt q len) (place_in p one h) (place_in q other k)

  ways_in : (rest : List Stmt) (ws : List Way) (bs : List Branch) → WaysAgree t rest ws bs → IsTrue (list_all (λ w. nat_lt w.next len) ws)
  ways_in rest [] [] h = refl
  ways_in rest [] (b ∷ bs) h = absurd h
  ways_in rest (w ∷ ws) [] h = absurd h
  ways_in rest (w ∷ ws) (b ∷ bs) h = both (nat_lt w.next len) (list_all (λ w. nat_lt w.next len) ws) (place_in w.next _ h.1) (ways_in rest ws bs h.2)

  placed_by : (i j : Instr) → i ≡ j → IsTrue (has_places len j) → IsTrue (has_places len i)
  placed_by i j e h = subst (λ (k : Instr). IsTrue (has_places len k)) (sym e) h

  placed_here : (i : Instr) (head : Stmt) (rest : List Stmt) (l : Layer) → AgreesHere t i head rest l → IsTrue (has_places len i)
  placed_here i head rest Stmt-F.Skip h = placed_by i (instr.Skip h.0) h.1 (place_in h.0 rest h.2)
  placed_here i head rest (Stmt-F.Assign x e) h = placed_by i (instr.Assign x e h.0) h.1 (place_in h.0 rest h.2)
  placed_here i head rest (Stmt-F.Log e) h = placed_by i (instr.Log e h.0) h.1 (place_in h.0 rest h.2)
  placed_here i head rest (Stmt-F.Wait e) h = placed_by i (instr.Wait e h.0) h.1 (place_in h.0 rest h.2)
  placed_here i head rest (Stmt-F.If c first second) h =
      placed_by i (instr.Test c h.0 h.1) h.2 (both_in h.0 h.1 (first ++ rest) (second ++ rest) h.3 h.4)
  placed_here i head rest (Stmt-F.Loop c body) h = placed_by i (instr.Test c h.0 h.1) h.2 (both_in h.0 h.1 (body ++ head ∷ rest) rest h.3 h.4)
  placed_here i head rest (Stmt-F.Pick left right) h =
      placed_by i (instr.Pick h.0 h.1) h.2 (both_in h.0 h.1 (left ++ rest) (right ++ rest) h.3 h.4)
  placed_here i head rest (Stmt-F.Forever body) h = placed_by i (instr.Again h.0) h.1 (place_in h.0 (body ++ head ∷ rest) h.2)
  placed_here i head rest (Stmt-F.Io io) h =
      placed_by i (instr.Meet (record { io = io; next = h.0 } ∷ [])) h.1 (both (nat_lt h.0 len) true (place_in h.0 rest h.2) refl)
  placed_here i head rest (Stmt-F.Choice bs) h = placed_by i (instr.Meet h.0) h.1 (ways_in rest h.0 bs h.2)
  placed_here i head rest (Stmt-F.Evolve rates c bs) h =
      placed_by i (instr.Evolve rates c h.0 h.1) h.2
      (both (list_all (λ w. nat_lt w.next len) h.0) (nat_lt h.1 len) (ways_in rest h.0 bs h.3) (place_in h.1 rest h.4))

  placed : (i : Instr) (todo : List Stmt) → Agrees t i todo → IsTrue (has_places len i)
  placed i [] h = placed_by i instr.End h refl
  placed i (head ∷ rest) h = placed_here i head rest (out-Stmt head) h

-- ---- channels

module _ (channels n m : ℕ) where
  io_reached : (io : Io) → channel_of io < m → is_io channels n io ≡ true → is_io m n io ≡ true
  io_reached (Send c e) h k = both (nat_lt c m) (is_expr n e) (lt-ltb c m h) (second_of (nat_lt c channels) (is_expr n e) k)
  io_reached (Receive c x) h k = both (nat_lt c m) (nat_lt x n) (lt-ltb c m h) (second_of (nat_lt c channels) (nat_lt x n) k)

  ios_reached : (ios : List Io) → channel_reach ios ≤ m → list_all (is_io channels n) ios ≡ true → list_all (is_io m n) ios ≡ true
  ios_reached [] h k = refl
  ios_reached (io ∷ ios) h k =
      both (is_io m n io) (list_all (is_io m n) ios)
      (io_reached io (omega (arith, h)) (first_of (is_io channels n io) (list_all (is_io channels n) ios) k))
      (ios_reached ios (omega (arith, h)) (second_of (is_io channels n io) (list_all (is_io channels n) ios) k))

guards_reached : (channels n : ℕ) (ios : List Io) → are_guards channels n ios ≡ true → are_guards (channel_reach ios) n ios ≡ true
guards_reached channels n ios h =
    let m = channel_reach ios in
    let front = first_of (nat_le (length ios) most_guards && list_all (is_io channels n) ios) (all_apart is_same_io ios) h in
    both (nat_le (length ios) most_guards && list_all (is_io m n) ios) (all_apart is_same_io ios)
    (both (nat_le (length ios) most_guards) (list_all (is_io m n) ios) (first_of (nat_le (length ios) most_guards) (list_all (is_io channels n) ios) front)
    (ios_reached channels n m ios (omega arith) (second_of (nat_le (length ios) most_guards) (list_all (is_io channels n) ios) front)))
    (second_of (nat_le (length ios) most_guards && list_all (is_io channels n) ios) (all_apart is_same_io ios) h)

-- an instruction that keeps the rules in one system keeps them in one that has its channels
reached : (channels n : ℕ) (i : Instr) → is_instr channels n i ≡ true → is_ruled n i ≡ true
reached channels n (instr.Meet ways) h = guards_reached channels n (ios_of ways) h
reached channels n (instr.Evolve rates c ways next) h =
    both (is_evolution n rates c (ios_of ways)) (are_guards (channel_reach (ios_of ways)) n (ios_of ways))
    (first_of (is_evolution n rates c (ios_of ways)) (are_guards channels n (ios_of ways)) h)
    (guards_reached channels n (ios_of ways) (second_of (is_evolution n rates c (ios_of ways)) (are_guards channels n (ios_of ways)) h))
reached channels n (instr.Skip next) h = h
reached channels n (instr.Assign x e next) h = h
reached channels n (instr.Log e next) h = h
reached channels n (instr.Wait e next) h = h
reached channels n (instr.Test c first second) h = h
reached channels n (instr.Pick left right) h = h
reached channels n (instr.Again next) h = h
reached channels n instr.End h = h

-- ---- codes

usable_all : (t ts : Table) (channels n len : ℕ) (code : List Instr) → length t ≡ len → AllAgree t code ts → IsTrue (list_all (is_instr channels n) code) →
    IsTrue (list_all (is_usable n len) code)
usable_all t [] channels n len [] even h k = refl
usable_all t [] channels n len (i ∷ is) even h k = absurd h
usable_all t (l ∷ ls) channels n len [] even h k = absurd h
usable_all t (l ∷ ls) channels n len (i ∷ is) even h k =
    both (is_usable n len i) (list_all (is_usable n len) is)
    (both (is_ruled n i) (has_places len i) (reached channels n i (first_of (is_instr channels n i) (list_all (is_instr channels n) is) k)) (placed t len even i l h.0))
    (usable_all t ls channels n len is even h.1 (second_of (is_instr channels n i) (list_all (is_instr channels n) is) k))

pub ruled_codes_are_usable : RuledCodesAreUsable
ruled_codes_are_usable channels n p code ruled stands keeps more =
    let t = stands.0 in
    let even : length t ≡ length code = same_length t t code stands.1.agree in
    let own = length p.variables in
    let body = second_of (nat_le own 64 && nat_le 1 (length p.body)) (list_all (is_stmt channels own) p.body) ruled in
    let wide = all_weaker (is_instr channels own) (is_instr channels n) (instr_more own n more channels) code (keeps channels own body) in (
      usable_all t t channels n (length code) code even stands.1.agree wide,
      omega (arith, even, in_table t 0 p.body stands.1.begins),
    )
