-- f_least: whether something moves or is bounded, and the least bound.
use Rattle.std.specs.Prelude.{◌≡◌, ◌<◌, ◌+◌, ◌*◌, ◌-◌, ◌^◌, ℕ, Bool, true, false, ◌||◌, if◌then◌else◌, nat_lt, List, [], ◌∷◌, ℤ, pos, Option, codes, ⊤}
use Rattle.std.proofs.Common.{refl, ap, arith}
use Rattle.std.specs.declared.cmp.Ordering.{Ordering}
use Rattle.std.specs.declared.cmp.Ordering.TheVariants.{Less, Equal, Greater}
use Rattle.hc_rational.specs.Words.{Rational, rank}
use Rattle.hc_cast.specs.declared.program.CProgram.{CProgram}
use Rattle.hc_cast.specs.declared.stmt.CStmt.{CStmt}
use Rattle.hc_cast.specs.declared.stmt.CStmt.TheVariants.{Set, Call}
use Rattle.hc_cmach.specs.State.{Word, function_among}
use Rattle.hc_cmach.specs.Expression.{int_of}
use Rattle.hc_cmach.proofs.Named.{named-function}
use Rattle.hc_cmach.proofs.Worths.{forms}
use Rattle.hc_clogic.specs.Runs.{View, Runs, Is, kept}
use Rattle.hc_clogic.proofs.Runs.{call_runs, runs_on, runs_longer, runs_straight, loop_cost}
use Rattle.hc_cbuild.specs.Written.{number, local, element, less, either, above_zero, call, take_call, if_then, count_to, round}
use Rattle.hc_core_c.specs.Twin.{Board64, nth, register, put, bound_of, moving, moving_step, Found, is_below as is_lesser, lowered, least_step, least}
use Rattle.hc_core_c.specs.Code.{p, i, x, k, its, f_least}
use Rattle.hc_core_c.proofs.Base.{is_below, element_is, loop_runs, when_runs}
use Rattle.hc_core_c.specs.Owner.{core, Has}

abbrev pub least_cost : CProgram → ℕ → ℕ → ℕ
least_cost g t P = 1 + ((loop_cost g t 3 (P * 64) + loop_cost g t 7 P) + 1)

module _ (g : CProgram) (t P C : ℕ) (has : Has g P C) (own : List Rational) where
  abbrev names : List Word
  names = i ∷ p ∷ x ∷ k ∷ []

  abbrev here : Board64 → ℕ → ℕ → View
  here b j kind = core own names (pos j ∷ pos 0 ∷ pos 0 ∷ pos kind ∷ []) b

  abbrev looks : List CStmt
  looks = if_then (above_zero (element (codes "a_moves") (local i))) (Set k (number 1) ∷ []) ∷ []

  by : (b : Board64) (j kind : ℕ) (is : Bool) → nat_lt 0 (nth b.moves j) ≡ is → j < P * 64 → Runs g t 3 (round i looks) (here b j kind) (here b (j + 1) (if is then 1 else kind))
  by b j kind true e low =
      let arrays = has.declared in
      let few = has.few in
      let inside = is_below j (P * 64) low in
      let next : nat_lt (j + 1) (2 ^ 31) ≡ true = is_below (j + 1) (2 ^ 31) (omega (arith, low, few)) in
      runs_straight g t 3 _ _ _ (λ rest target gives below. simp (forms, arrays, element_is, inside, next, e))
  by b j kind false e low =
      let arrays = has.declared in
      let few = has.few in
      let inside = is_below j (P * 64) low in
      let next : nat_lt (j + 1) (2 ^ 31) ≡ true = is_below (j + 1) (2 ^ 31) (omega (arith, low, few)) in
      runs_longer g t 2 3 _ _ _ (omega arith) (runs_straight g t 2 _ _ _ (λ rest target gives below. simp (forms, arrays, element_is, inside, next, e)))

  -- ---- bounds

  abbrev there : ℕ → Found → View
  there j f = core own names (pos (P * 64) ∷ pos j ∷ pos 0 ∷ pos f.kind ∷ []) f.board

  abbrev acts : List CStmt
  acts =
      take_call x (codes "fr_cmp") (number 64 ∷ its p 66 ∷ number 68 ∷ [])
      ∷ if_then (either (less (local k) (number 2)) (less (local x) (number 0))) (call (codes "fr_move") (number 64 ∷ number 68 ∷ number 64 ∷ its p 66 ∷ []) ∷ [])
      ∷ Set k (number 2)
      ∷ Set x (number 0)
      ∷ []

  module _ (j : ℕ) (low : j < P) where
    small : nat_lt (j * 320) (2 ^ 31) ≡ true
    small = (let few = has.few in is_below (j * 320) (2 ^ 31) (omega (arith, low, few)))

    int : nat_lt (j * 320 + 66) (2 ^ 31) ≡ true
    int = (let few = has.few in is_below (j * 320 + 66) (2 ^ 31) (omega (arith, low, few)))

    inside : nat_lt (j * 320 + 66) 20480 ≡ true
    inside = (let few = has.few in is_below (j * 320 + 66) 20480 (omega (arith, low, few)))

    acted : (f : Found) (new : Bool) (o : Ordering) → nat_lt f.kind 2 ≡ new → rank (register f.board (bound_of j)) (register f.board 68) ≡ o →
        Runs g t 5 acts (there j f) (there j (record { kind = 2; board = if new || is_lesser o then put 68 (register f.board (bound_of j)) f.board else f.board }))
    acted f true o e h = runs_straight g t 5 _ _ _ (λ rest target gives below. simp (forms, small, int, inside, e))
    acted f false Less e h = runs_straight g t 5 _ _ _ (λ rest target gives below. simp (forms, small, int, inside, e, h))
    acted f false Equal e h = runs_longer g t 4 5 _ _ _ (omega arith) (runs_straight g t 4 _ _ _ (λ rest target gives below. simp (forms, small, int, inside, e, h)))
    acted f false Greater e h = runs_longer g t 4 5 _ _ _ (omega arith) (runs_straight g t 4 _ _ _ (λ rest target gives below. simp (forms, small, int, inside, e, h)))

    bounded_is : (f : Found) (is : Bool) → nat_lt 0 (nth f.board.bounded j) ≡ is → Is g t (there j f) (above_zero (element (codes "a_bounded") (local p))) (int_of is)
    bounded_is f is e rest target gives = (let arrays = has.declared in let here = is_below j P low in simp (forms, arrays, element_is, here, e))

    one : (f : Found) → Runs g t 7 (round p (if_then (above_zero (element (codes "a_bounded") (local p))) acts ∷ [])) (there j f) (there (j + 1) (least_step j f))
    one f =
        let few = has.few in
        let next : nat_lt (j + 1) (2 ^ 31) ≡ true = is_below (j + 1) (2 ^ 31) (omega (arith, low, few)) in
        runs_on g t 6 1 (if_then (above_zero (element (codes "a_bounded") (local p))) acts ∷ []) (round p []) _ _ _
        (when_runs g t (there j) 5 (above_zero (element (codes "a_bounded") (local p))) acts f (record { kind = 2; board = lowered j f }) (nat_lt 0 (nth f.board.bounded j)) (bounded_is f _ refl) (λ is. acted f _ _ refl refl))
        (runs_straight g t 1 _ (there j (least_step j f)) (there (j + 1) (least_step j f)) (λ rest target gives below. simp (forms, next)))

  abbrev steps : List CStmt
  steps = count_to i (P * 64) looks ∷ count_to p P (if_then (above_zero (element (codes "a_bounded") (local p))) acts ∷ []) ∷ []

  body_runs : (b : Board64) → Runs g t (loop_cost g t 3 (P * 64) + loop_cost g t 7 P) steps (here b 0 0) (there P (least P b))
  body_runs b =
      runs_on g t (loop_cost g t 3 (P * 64)) (loop_cost g t 7 P) (count_to i (P * 64) looks ∷ []) (count_to p P (if_then (above_zero (element (codes "a_bounded") (local p))) acts ∷ []) ∷ []) _ _ _
      (loop_runs g t (moving_step b) (λ j kind. ⊤) (here b) i (P * 64) 3 looks 0 (λ j kind rest target gives. simp forms) tt (λ j kind low h. tt) (λ j kind low h. by b j kind _ refl low))
      (loop_runs g t least_step (λ j f. ⊤) there p P 7 (if_then (above_zero (element (codes "a_bounded") (local p))) acts ∷ []) (record { kind = moving P b; board = b }) (λ j f rest target gives. simp forms) tt (λ j f low h. tt) (λ j f low h. one j low f))

  pub call_least : (names : List Word) (values : List ℤ) (b : Board64) (result : Option Word) →
      Runs g t (least_cost g t P) (Call result (codes "f_least") [] ∷ []) (core own names values b) (core own names (kept (core own names values b) result (pos (least P b).kind)) (least P b).board)
  call_least names values b result =
      call_runs g t _ (core own names values b) (there P (least P b)) (f_least P) result (codes "f_least") [] [] steps (local k) (pos (least P b).kind)
      (named-function (codes "least")) (ap (function_among (codes "f_least")) has.functions) (λ rest target gives. refl) refl (body_runs b) (λ rest target gives. simp forms)
