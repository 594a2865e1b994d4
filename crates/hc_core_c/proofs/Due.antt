-- f_due: the processes that became able.
use Rattle.std.specs.Prelude.{◌≡◌, ◌<◌, ◌+◌, ◌-◌, ◌^◌, ℕ, Bool, true, false, nat_lt, List, [], ◌∷◌, slice_set, ℤ, pos, Option, Some, codes, ⊤}
use Rattle.std.proofs.Common.{refl, ap, arith}
use Rattle.hc_rational.specs.Words.{Rational}
use Rattle.hc_cast.specs.declared.program.CProgram.{CProgram}
use Rattle.hc_cast.specs.declared.stmt.CStmt.{CStmt}
use Rattle.hc_cast.specs.declared.stmt.CStmt.TheVariants.{Set, Store, Call}
use Rattle.hc_cmach.specs.State.{Word, function_among}
use Rattle.hc_cmach.specs.Expression.{int_of}
use Rattle.hc_cmach.proofs.Named.{named-function}
use Rattle.hc_cmach.proofs.Worths.{forms}
use Rattle.hc_clogic.specs.Runs.{View, Runs, Is, kept}
use Rattle.hc_clogic.proofs.Runs.{call_runs, runs_on, runs_straight, loop_cost}
use Rattle.hc_cbuild.specs.Written.{number, local, above_zero, if_then, count_to, round}
use Rattle.hc_core_c.specs.Twin.{Board64, able, due_of, Due, due_step, due}
use Rattle.hc_core_c.specs.Code.{p, q, x, f_due, asks_able, mutes}
use Rattle.hc_core_c.proofs.Base.{is_below, element_set, loop_runs, when_runs}
use Rattle.hc_core_c.specs.Owner.{core, Has}
use Rattle.hc_core_c.proofs.Able.{call_able}
use Rattle.hc_core_c.proofs.Mute.{call_mute, mute_cost}

abbrev pub turn_cost : CProgram → ℕ → ℕ → ℕ
turn_cost g t C = 3 + ((1 + (1 + (mute_cost g t C + 1))) + 2)

abbrev pub due_cost : CProgram → ℕ → ℕ → ℕ → ℕ
due_cost g t P C = 1 + (loop_cost g t (turn_cost g t C) P + 1)

module _ (g : CProgram) (t P C : ℕ) (has : Has g P C) (own : List Rational) where
  abbrev here : ℤ → ℕ → Due → View
  here z i d = core own (p ∷ x ∷ q ∷ []) (pos i ∷ z ∷ int_of d.found ∷ []) d.board

  abbrev acts : List CStmt
  acts = Store (codes "a_woke") (local p) (number 1) ∷ mutes p ∷ Set q (number 1) ∷ []

  abbrev marks : CStmt
  marks = if_then (above_zero (local x)) acts

  tested : (z : Bool) (i : ℕ) (d : Due) → Is g t (here (int_of z) i d) (above_zero (local x)) (int_of z)
  tested true i d rest target gives = simp forms
  tested false i d rest target gives = simp forms

  acted : (z : ℤ) (i : ℕ) (d : Due) → i < P → Runs g t (1 + (mute_cost g t C + 1)) acts (here z i d) (here z i (record { found = true; board = due_of C i d.board }))
  acted z i d low =
      let arrays = has.declared in
      let few = has.few in
      let below : i < 64 = omega (arith, low, few) in
      let inside = is_below i P low in
      runs_on g t 1 (mute_cost g t C + 1) (Store (codes "a_woke") (local p) (number 1) ∷ []) (mutes p ∷ Set q (number 1) ∷ [])
      (here z i d) (core own (p ∷ x ∷ q ∷ []) (pos i ∷ z ∷ int_of d.found ∷ []) (record d.board { woke = slice_set d.board.woke i 1 })) _
      (runs_straight g t 1 _ _ _ (λ rest target gives below. simp (forms, arrays, inside, element_set)))
      (
      runs_on g t (mute_cost g t C) 1 (mutes p ∷ []) (Set q (number 1) ∷ []) _ _ _
      (call_mute g t P C has own i below (p ∷ x ∷ q ∷ []) (pos i ∷ z ∷ int_of d.found ∷ []) (record d.board { woke = slice_set d.board.woke i 1 }) (local p) (λ rest target gives. simp forms))
      (runs_straight g t 1 _ _ _ (λ rest target gives below. simp forms))
      )

  counted : (z : ℤ) (i : ℕ) (d : Due) → i < 64 → Runs g t 2 (round p (Set x (number 0) ∷ [])) (here z i d) (here (pos 0) (i + 1) d)
  counted z i d low =
      let next : nat_lt (i + 1) (2 ^ 31) ≡ true = is_below (i + 1) (2 ^ 31) (omega (arith, low)) in
      runs_straight g t 2 _ _ _ (λ rest target gives below. simp (forms, next))

  one : (i : ℕ) (d : Due) → i < P → Runs g t (turn_cost g t C) (round p (asks_able ∷ marks ∷ Set x (number 0) ∷ [])) (here (pos 0) i d) (here (pos 0) (i + 1) (due_step C i d))
  one i d low =
      let few = has.few in
      let below : i < 64 = omega (arith, low, few) in
      runs_on g t 3 ((1 + (1 + (mute_cost g t C + 1))) + 2) (asks_able ∷ []) (round p (marks ∷ Set x (number 0) ∷ [])) _ _ _
      (call_able g t P C has own i low (p ∷ x ∷ q ∷ []) (pos i ∷ pos 0 ∷ int_of d.found ∷ []) d.board (Some x) (local p) (λ rest target gives. simp forms))
      (
      runs_on g t (1 + (1 + (mute_cost g t C + 1))) 2 (marks ∷ []) (round p (Set x (number 0) ∷ [])) _ _ _
      (when_runs g t (here (int_of (able d.board i)) i) (1 + (mute_cost g t C + 1)) (above_zero (local x)) acts d (record { found = true; board = due_of C i d.board }) (able d.board i) (tested (able d.board i) i d) (λ is. acted (int_of (able d.board i)) i d low))
      (counted (int_of (able d.board i)) i (due_step C i d) below)
      )

  pub call_due : (names : List Word) (values : List ℤ) (b : Board64) (result : Option Word) →
      Runs g t (due_cost g t P C) (Call result (codes "f_due") [] ∷ []) (core own names values b) (core own names (kept (core own names values b) result (int_of (due P C b).found)) (due P C b).board)
  call_due names values b result =
      call_runs g t (loop_cost g t (turn_cost g t C) P) (core own names values b) (here (pos 0) P (due P C b)) (f_due P) result (codes "f_due") [] [] (count_to p P (asks_able ∷ marks ∷ Set x (number 0) ∷ []) ∷ []) (local q) (int_of (due P C b).found)
      (named-function (codes "due")) (ap (function_among (codes "f_due")) has.functions) (λ rest target gives. refl) refl
      (loop_runs g t (due_step C) (λ j d. ⊤) (here (pos 0)) p P (turn_cost g t C) (asks_able ∷ marks ∷ Set x (number 0) ∷ []) (record { found = false; board = b }) (λ j d rest target gives. simp forms) tt (λ j d low h. tt) (λ j d low h. one j d low))
      (λ rest target gives. simp forms)
