-- f_wakes: those who became able are woken, or all others where the run stops.
use Rattle.std.specs.Prelude.{◌≡◌, ◌<◌, ◌+◌, ◌-◌, ◌^◌, ℕ, Bool, true, false, ◌&&◌, ◌||◌, if◌then◌else◌, nat_lt, List, [], ◌∷◌, ℤ, pos, codes, ⊤}
use Rattle.std.proofs.Common.{refl, ap, arith}
use Rattle.hc_rational.specs.Words.{Rational}
use Rattle.hc_cast.specs.declared.program.CProgram.{CProgram}
use Rattle.hc_cast.specs.declared.stmt.CStmt.{CStmt}
use Rattle.hc_cmach.specs.State.{Word, function_among}
use Rattle.hc_cmach.proofs.Named.{named-function}
use Rattle.hc_cmach.proofs.Worths.{forms}
use Rattle.hc_clogic.specs.Runs.{View, Runs}
use Rattle.hc_clogic.proofs.Runs.{call_ends, runs_longer, runs_straight, loop_cost}
use Rattle.hc_cbuild.specs.Written.{local, element, first_of, less, both, either, above_zero, call, if_then, round}
use Rattle.hc_core_c.specs.Twin.{Board64, nth, wake, wake_step}
use Rattle.hc_core_c.specs.Code.{k, f_wakes}
use Rattle.hc_core_c.proofs.Base.{is_below, element_is, loop_runs}
use Rattle.hc_core_c.specs.Owner.{core, Has}

abbrev pub wake_cost : CProgram → ℕ → ℕ → ℕ
wake_cost g t P = 1 + (loop_cost g t 3 P + 1)

module _ (g : CProgram) (t P C : ℕ) (has : Has g P C) (own : List Rational) where
  abbrev here : ℕ → Board64 → View
  here i b = core own (k ∷ []) (pos i ∷ []) b

  abbrev wakes : CStmt
  wakes =
      if_then
      (
      both (either (less (local k) (first_of (codes "a_self"))) (less (first_of (codes "a_self")) (local k)))
      (either (above_zero (first_of (codes "a_stop"))) (above_zero (element (codes "a_woke") (local k))))
      )
      (call (codes "c_wake") (local k ∷ []) ∷ [])

  abbrev Does : ℕ → Board64 → Bool → Bool → Bool → Bool → Type 0
  Does i b before behind stop woke =
      Runs g t 3 (round k (wakes ∷ [])) (here i b) (here (i + 1) (if (before || behind) && (stop || woke) then record b { wakes = i ∷ b.wakes } else b))

  by : (i : ℕ) (b : Board64) → i < P → (before behind stop woke : Bool) →
      nat_lt i b.self ≡ before → nat_lt b.self i ≡ behind → nat_lt 0 b.stop ≡ stop → nat_lt 0 (nth b.woke i) ≡ woke → Does i b before behind stop woke
  by i b low true true true true e f h j =
      let arrays = has.declared in
      let few = has.few in
      let inside = is_below i P low in
      let condition : nat_lt i 64 ≡ true = is_below i 64 (omega (arith, low, few)) in
      let next : nat_lt (i + 1) (2 ^ 31) ≡ true = is_below (i + 1) (2 ^ 31) (omega (arith, low, few)) in
      runs_straight g t 3 _ _ _ (λ rest target gives below. simp (forms, arrays, element_is, inside, condition, next, e, f, h, j))
  by i b low true true true false e f h j =
      let arrays = has.declared in
      let few = has.few in
      let inside = is_below i P low in
      let condition : nat_lt i 64 ≡ true = is_below i 64 (omega (arith, low, few)) in
      let next : nat_lt (i + 1) (2 ^ 31) ≡ true = is_below (i + 1) (2 ^ 31) (omega (arith, low, few)) in
      runs_straight g t 3 _ _ _ (λ rest target gives below. simp (forms, arrays, element_is, inside, condition, next, e, f, h, j))
  by i b low true true false true e f h j =
      let arrays = has.declared in
      let few = has.few in
      let inside = is_below i P low in
      let condition : nat_lt i 64 ≡ true = is_below i 64 (omega (arith, low, few)) in
      let next : nat_lt (i + 1) (2 ^ 31) ≡ true = is_below (i + 1) (2 ^ 31) (omega (arith, low, few)) in
      runs_straight g t 3 _ _ _ (λ rest target gives below. simp (forms, arrays, element_is, inside, condition, next, e, f, h, j))
  by i b low true true false false e f h j =
      let arrays = has.declared in
      let few = has.few in
      let inside = is_below i P low in
      let condition : nat_lt i 64 ≡ true = is_below i 64 (omega (arith, low, few)) in
      let next : nat_lt (i + 1) (2 ^ 31) ≡ true = is_below (i + 1) (2 ^ 31) (omega (arith, low, few)) in
      runs_longer g t 2 3 _ _ _ (omega arith) (runs_straight g t 2 _ _ _ (λ rest target gives below. simp (forms, arrays, element_is, inside, next, e, f, h, j)))
  by i b low true false true true e f h j =
      let arrays = has.declared in
      let few = has.few in
      let inside = is_below i P low in
      let condition : nat_lt i 64 ≡ true = is_below i 64 (omega (arith, low, few)) in
      let next : nat_lt (i + 1) (2 ^ 31) ≡ true = is_below (i + 1) (2 ^ 31) (omega (arith, low, few)) in
      runs_straight g t 3 _ _ _ (λ rest target gives below. simp (forms, arrays, element_is, inside, condition, next, e, f, h, j))
  by i b low true false true false e f h j =
      let arrays = has.declared in
      let few = has.few in
      let inside = is_below i P low in
      let condition : nat_lt i 64 ≡ true = is_below i 64 (omega (arith, low, few)) in
      let next : nat_lt (i + 1) (2 ^ 31) ≡ true = is_below (i + 1) (2 ^ 31) (omega (arith, low, few)) in
      runs_straight g t 3 _ _ _ (λ rest target gives below. simp (forms, arrays, element_is, inside, condition, next, e, f, h, j))
  by i b low true false false true e f h j =
      let arrays = has.declared in
      let few = has.few in
      let inside = is_below i P low in
      let condition : nat_lt i 64 ≡ true = is_below i 64 (omega (arith, low, few)) in
      let next : nat_lt (i + 1) (2 ^ 31) ≡ true = is_below (i + 1) (2 ^ 31) (omega (arith, low, few)) in
      runs_straight g t 3 _ _ _ (λ rest target gives below. simp (forms, arrays, element_is, inside, condition, next, e, f, h, j))
  by i b low true false false false e f h j =
      let arrays = has.declared in
      let few = has.few in
      let inside = is_below i P low in
      let condition : nat_lt i 64 ≡ true = is_below i 64 (omega (arith, low, few)) in
      let next : nat_lt (i + 1) (2 ^ 31) ≡ true = is_below (i + 1) (2 ^ 31) (omega (arith, low, few)) in
      runs_longer g t 2 3 _ _ _ (omega arith) (runs_straight g t 2 _ _ _ (λ rest target gives below. simp (forms, arrays, element_is, inside, next, e, f, h, j)))
  by i b low false true true true e f h j =
      let arrays = has.declared in
      let few = has.few in
      let inside = is_below i P low in
      let condition : nat_lt i 64 ≡ true = is_below i 64 (omega (arith, low, few)) in
      let next : nat_lt (i + 1) (2 ^ 31) ≡ true = is_below (i + 1) (2 ^ 31) (omega (arith, low, few)) in
      runs_straight g t 3 _ _ _ (λ rest target gives below. simp (forms, arrays, element_is, inside, condition, next, e, f, h, j))
  by i b low false true true false e f h j =
      let arrays = has.declared in
      let few = has.few in
      let inside = is_below i P low in
      let condition : nat_lt i 64 ≡ true = is_below i 64 (omega (arith, low, few)) in
      let next : nat_lt (i + 1) (2 ^ 31) ≡ true = is_below (i + 1) (2 ^ 31) (omega (arith, low, few)) in
      runs_straight g t 3 _ _ _ (λ rest target gives below. simp (forms, arrays, element_is, inside, condition, next, e, f, h, j))
  by i b low false true false true e f h j =
      let arrays = has.declared in
      let few = has.few in
      let inside = is_below i P low in
      let condition : nat_lt i 64 ≡ true = is_below i 64 (omega (arith, low, few)) in
      let next : nat_lt (i + 1) (2 ^ 31) ≡ true = is_below (i + 1) (2 ^ 31) (omega (arith, low, few)) in
      runs_straight g t 3 _ _ _ (λ rest target gives below. simp (forms, arrays, element_is, inside, condition, next, e, f, h, j))
  by i b low false true false false e f h j =
      let arrays = has.declared in
      let few = has.few in
      let inside = is_below i P low in
      let condition : nat_lt i 64 ≡ true = is_below i 64 (omega (arith, low, few)) in
      let next : nat_lt (i + 1) (2 ^ 31) ≡ true = is_below (i + 1) (2 ^ 31) (omega (arith, low, few)) in
      runs_longer g t 2 3 _ _ _ (omega arith) (runs_straight g t 2 _ _ _ (λ rest target gives below. simp (forms, arrays, element_is, inside, next, e, f, h, j)))
  by i b low false false true true e f h j =
      let arrays = has.declared in
      let few = has.few in
      let inside = is_below i P low in
      let condition : nat_lt i 64 ≡ true = is_below i 64 (omega (arith, low, few)) in
      let next : nat_lt (i + 1) (2 ^ 31) ≡ true = is_below (i + 1) (2 ^ 31) (omega (arith, low, few)) in
      runs_longer g t 2 3 _ _ _ (omega arith) (runs_straight g t 2 _ _ _ (λ rest target gives below. simp (forms, arrays, element_is, inside, next, e, f, h, j)))
  by i b low false false true false e f h j =
      let arrays = has.declared in
      let few = has.few in
      let inside = is_below i P low in
      let condition : nat_lt i 64 ≡ true = is_below i 64 (omega (arith, low, few)) in
      let next : nat_lt (i + 1) (2 ^ 31) ≡ true = is_below (i + 1) (2 ^ 31) (omega (arith, low, few)) in
      runs_longer g t 2 3 _ _ _ (omega arith) (runs_straight g t 2 _ _ _ (λ rest target gives below. simp (forms, arrays, element_is, inside, next, e, f, h, j)))
  by i b low false false false true e f h j =
      let arrays = has.declared in
      let few = has.few in
      let inside = is_below i P low in
      let condition : nat_lt i 64 ≡ true = is_below i 64 (omega (arith, low, few)) in
      let next : nat_lt (i + 1) (2 ^ 31) ≡ true = is_below (i + 1) (2 ^ 31) (omega (arith, low, few)) in
      runs_longer g t 2 3 _ _ _ (omega arith) (runs_straight g t 2 _ _ _ (λ rest target gives below. simp (forms, arrays, element_is, inside, next, e, f, h, j)))
  by i b low false false false false e f h j =
      let arrays = has.declared in
      let few = has.few in
      let inside = is_below i P low in
      let condition : nat_lt i 64 ≡ true = is_below i 64 (omega (arith, low, few)) in
      let next : nat_lt (i + 1) (2 ^ 31) ≡ true = is_below (i + 1) (2 ^ 31) (omega (arith, low, few)) in
      runs_longer g t 2 3 _ _ _ (omega arith) (runs_straight g t 2 _ _ _ (λ rest target gives below. simp (forms, arrays, element_is, inside, next, e, f, h, j)))

  pub call_wakes : (names : List Word) (values : List ℤ) (b : Board64) →
      Runs g t (wake_cost g t P) (call (codes "f_wakes") [] ∷ []) (core own names values b) (core own names values (wake P b))
  call_wakes names values b =
      call_ends g t _ (core own names values b) (here P (wake P b)) (f_wakes P) (codes "f_wakes") [] []
      (named-function (codes "wakes")) (ap (function_among (codes "f_wakes")) has.functions) (λ rest target gives. refl) refl
      (loop_runs g t wake_step (λ j b. ⊤) here k P 3 (wakes ∷ []) b (λ j b rest target gives. simp forms) tt (λ j b low h. tt) (λ j b low h. by j b low _ _ _ _ refl refl refl refl))
