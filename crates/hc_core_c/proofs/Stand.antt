-- f_stand: nothing moves, and nothing is bounded.
use Rattle.std.specs.Prelude.{◌≡◌, ◌<◌, ◌+◌, ◌-◌, ◌^◌, ℕ, Bool, true, false, if◌then◌else◌, nat_lt, List, [], ◌∷◌, ℤ, pos, codes, ⊤}
use Rattle.std.proofs.Common.{refl, ap, arith}
use Rattle.hc_rational.specs.Words.{Rational}
use Rattle.hc_cast.specs.declared.program.CProgram.{CProgram}
use Rattle.hc_cast.specs.declared.stmt.CStmt.{CStmt}
use Rattle.hc_cast.specs.declared.stmt.CStmt.TheVariants.{Set}
use Rattle.hc_cmach.specs.State.{Word, function_among}
use Rattle.hc_cmach.proofs.Named.{named-function}
use Rattle.hc_cmach.proofs.Worths.{forms}
use Rattle.hc_clogic.specs.Runs.{View, Runs}
use Rattle.hc_clogic.proofs.Runs.{call_ends, runs_on, runs_longer, runs_straight, loop_cost}
use Rattle.hc_cbuild.specs.Written.{number, minus_one, local, element, less, call, if_then, count_to, round}
use Rattle.hc_core_c.specs.Twin.{Board64, rounds, nth, stand, stand_step}
use Rattle.hc_core_c.specs.Code.{p, k, f_stand}
use Rattle.hc_core_c.proofs.Base.{is_below, element_is, loop_runs, kept_fits}
use Rattle.hc_core_c.specs.Owner.{core, Has}
use Rattle.hc_core_c.proofs.Stops.{call_stop}

abbrev pub stand_cost : CProgram → ℕ → ℕ → ℕ
stand_cost g t P = 1 + (loop_cost g t 3 P + 4 + 1)

module _ (g : CProgram) (t P C : ℕ) (has : Has g P C) (own : List Rational) where
  module _ (b : Board64) where
    abbrev here : ℕ → ℕ → View
    here i kind = core own (p ∷ k ∷ []) (pos i ∷ pos kind ∷ []) b

    abbrev looks : CStmt
    looks = if_then (less (element (codes "a_phase") (local p)) (number 2)) (Set k (number 1) ∷ [])

    by : (i kind : ℕ) (is : Bool) → nat_lt (nth b.phase i) 2 ≡ is → i < P → Runs g t 3 (round p (looks ∷ [])) (here i kind) (here (i + 1) (if is then 1 else kind))
    by i kind true e low =
        let arrays = has.declared in
        let few = has.few in
        let inside = is_below i P low in
        let next : nat_lt (i + 1) (2 ^ 31) ≡ true = is_below (i + 1) (2 ^ 31) (omega (arith, low, few)) in
        runs_straight g t 3 _ _ _ (λ rest target gives below. simp (forms, arrays, element_is, inside, next, e))
    by i kind false e low =
        let arrays = has.declared in
        let few = has.few in
        let inside = is_below i P low in
        let next : nat_lt (i + 1) (2 ^ 31) ≡ true = is_below (i + 1) (2 ^ 31) (omega (arith, low, few)) in
        runs_longer g t 2 3 _ _ _ (omega arith) (runs_straight g t 2 _ _ _ (λ rest target gives below. simp (forms, arrays, element_is, inside, next, e)))

    small_by : (is : Bool) (kind : ℕ) → kind < 2 → (if is then 1 else kind) < 2
    small_by true kind h = omega arith
    small_by false kind h = h

    small : (i kind : ℕ) → i < P → kind < 2 → stand_step b i kind < 2
    small i kind low h = small_by (nat_lt (nth b.phase i) 2) kind h

    kind_low : rounds (stand_step b) P 0 < 5
    kind_low = (let h = kept_fits (stand_step b) (λ i kind. kind < 2) P 0 (omega arith) small P (omega arith) in omega (arith, h))

    body_runs : Runs g t (loop_cost g t 3 P + 4) (f_stand P).body.statements (here 0 0) (core own (p ∷ k ∷ []) (pos P ∷ pos (rounds (stand_step b) P 0) ∷ []) (stand P b))
    body_runs =
        runs_on g t (loop_cost g t 3 P) 4 (count_to p P (looks ∷ []) ∷ []) (call (codes "f_stop") (local k ∷ minus_one ∷ []) ∷ []) _ _ _
        (loop_runs g t (stand_step b) (λ i kind. ⊤) here p P 3 (looks ∷ []) 0 (λ j kind rest target gives. simp forms) tt (λ j kind low h. tt) (λ j kind low h. by j kind _ refl low))
        (call_stop g t P C has own (p ∷ k ∷ []) (pos P ∷ pos (rounds (stand_step b) P 0) ∷ []) b (local k ∷ minus_one ∷ []) (rounds (stand_step b) P 0) kind_low (λ rest target gives. simp forms))

    pub call_stand : (names : List Word) (values : List ℤ) →
        Runs g t (stand_cost g t P) (call (codes "f_stand") [] ∷ []) (core own names values b) (core own names values (stand P b))
    call_stand names values =
        call_ends g t (loop_cost g t 3 P + 4) (core own names values b) _ (f_stand P) (codes "f_stand") [] []
        (named-function (codes "stand")) (ap (function_among (codes "f_stand")) has.functions) (λ rest target gives. refl) refl body_runs
