-- f_any: whether some process is able.
use Rattle.std.specs.Prelude.{◌≡◌, ◌<◌, ◌+◌, ◌-◌, ◌^◌, ℕ, Bool, true, false, if◌then◌else◌, nat_lt, List, [], ◌∷◌, ℤ, pos, Option, Some, codes, ⊤}
use Rattle.std.proofs.Common.{refl, ap, arith}
use Rattle.hc_rational.specs.Words.{Rational}
use Rattle.hc_cast.specs.declared.program.CProgram.{CProgram}
use Rattle.hc_cast.specs.declared.stmt.CStmt.{CStmt}
use Rattle.hc_cast.specs.declared.stmt.CStmt.TheVariants.{Set, Call}
use Rattle.hc_cmach.specs.State.{Word, function_among}
use Rattle.hc_cmach.specs.Expression.{int_of}
use Rattle.hc_cmach.proofs.Named.{named-function}
use Rattle.hc_cmach.proofs.Worths.{forms}
use Rattle.hc_clogic.specs.Runs.{View, Runs, kept}
use Rattle.hc_clogic.proofs.Runs.{call_runs, runs_on, runs_longer, runs_straight, loop_cost}
use Rattle.hc_cbuild.specs.Written.{number, local, above_zero, if_then, count_to, round}
use Rattle.hc_core_c.specs.Twin.{Board64, able, any_step, any_able}
use Rattle.hc_core_c.specs.Code.{p, q, x, f_any, asks_able}
use Rattle.hc_core_c.proofs.Base.{is_below, loop_runs}
use Rattle.hc_core_c.specs.Owner.{core, Has}
use Rattle.hc_core_c.proofs.Able.{call_able}

abbrev pub any_cost : CProgram → ℕ → ℕ → ℕ
any_cost g t P = 1 + (loop_cost g t 7 P + 1)

module _ (g : CProgram) (t P C : ℕ) (has : Has g P C) (own : List Rational) where
  module _ (b : Board64) where
    abbrev here : ℤ → ℕ → Bool → View
    here z i found = core own (p ∷ x ∷ q ∷ []) (pos i ∷ z ∷ int_of found ∷ []) b

    abbrev marks : List CStmt
    marks = if_then (above_zero (local x)) (Set q (number 1) ∷ []) ∷ Set x (number 0) ∷ []

    marked : (i : ℕ) (found is : Bool) → i < 64 → Runs g t 4 (round p marks) (here (int_of is) i found) (here (pos 0) (i + 1) (if is then true else found))
    marked i found true low =
        let next : nat_lt (i + 1) (2 ^ 31) ≡ true = is_below (i + 1) (2 ^ 31) (omega (arith, low)) in
        runs_straight g t 4 _ _ _ (λ rest target gives below. simp (forms, next))
    marked i found false low =
        let next : nat_lt (i + 1) (2 ^ 31) ≡ true = is_below (i + 1) (2 ^ 31) (omega (arith, low)) in
        runs_longer g t 3 4 _ _ _ (omega arith) (runs_straight g t 3 _ _ _ (λ rest target gives below. simp (forms, next)))

    one : (i : ℕ) (found : Bool) → i < P → Runs g t 7 (round p (asks_able ∷ marks)) (here (pos 0) i found) (here (pos 0) (i + 1) (any_step b i found))
    one i found low =
        let few = has.few in
        let below : i < 64 = omega (arith, low, few) in
        runs_on g t 3 4 (asks_able ∷ []) (round p marks) _ _ _
        (call_able g t P C has own i low (p ∷ x ∷ q ∷ []) (pos i ∷ pos 0 ∷ int_of found ∷ []) b (Some x) (local p) (λ rest target gives. simp forms))
        (marked i found (able b i) below)

    pub call_any : (names : List Word) (values : List ℤ) (result : Option Word) →
        Runs g t (any_cost g t P) (Call result (codes "f_any") [] ∷ []) (core own names values b) (core own names (kept (core own names values b) result (int_of (any_able P b))) b)
    call_any names values result =
        call_runs g t (loop_cost g t 7 P) (core own names values b) (here (pos 0) P (any_able P b)) (f_any P) result (codes "f_any") [] [] (count_to p P (asks_able ∷ marks) ∷ []) (local q) (int_of (any_able P b))
        (named-function (codes "any")) (ap (function_among (codes "f_any")) has.functions) (λ rest target gives. refl) refl
        (loop_runs g t (any_step b) (λ j found. ⊤) (here (pos 0)) p P 7 (asks_able ∷ marks) false (λ j found rest target gives. simp forms) tt (λ j found low h. tt) (λ j found low h. one j found low))
        (λ rest target gives. simp forms)
