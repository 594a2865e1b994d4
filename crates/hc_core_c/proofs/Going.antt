-- f_go: a process is going again.
use Rattle.std.specs.Prelude.{◌≡◌, ◌<◌, ◌+◌, ◌*◌, ◌-◌, ◌^◌, ℕ, true, nat_lt, List, [], ◌∷◌, ℤ, pos, codes, ⊤}
use Rattle.std.proofs.Common.{refl, ap, arith}
use Rattle.hc_rational.specs.Words.{Rational, fits}
use Rattle.hc_cast.specs.declared.program.CProgram.{CProgram}
use Rattle.hc_cast.specs.declared.expr.CExpr.{CExpr}
use Rattle.hc_cast.specs.declared.stmt.CStmt.TheVariants.{Store}
use Rattle.hc_cmach.specs.State.{Word, function_among}
use Rattle.hc_cmach.proofs.Named.{named-function}
use Rattle.hc_cmach.proofs.Worths.{forms}
use Rattle.hc_clogic.specs.Runs.{View, Runs, Are}
use Rattle.hc_clogic.proofs.Runs.{call_ends, runs_on, runs_straight, loop_cost}
use Rattle.hc_cbuild.specs.Written.{number, local, sum, times, call, count_to, round}
use Rattle.hc_core_c.specs.Twin.{Board64, start, rest_step, go}
use Rattle.hc_core_c.specs.Code.{p, i, f_go}
use Rattle.hc_core_c.proofs.Base.{is_below, element_is, element_set, loop_runs}
use Rattle.hc_core_c.specs.Owner.{core, Has}
use Rattle.hc_core_c.proofs.Mute.{call_mute, mute_cost}

abbrev pub go_cost : CProgram → ℕ → ℕ → ℕ
go_cost g t C = 1 + (3 + (loop_cost g t 2 64 + mute_cost g t C) + 1)

module _ (g : CProgram) (t P C : ℕ) (has : Has g P C) (own : List Rational) where
  module _ (process : ℕ) (low : process < P) where
    abbrev here : ℕ → Board64 → View
    here j b = core own (p ∷ i ∷ []) (pos process ∷ pos j ∷ []) b

    below_all : process < 64
    below_all = (let few = has.few in omega (arith, low, few))

    starts : (b : Board64) →
        Runs g t 3 (Store (codes "a_phase") (local p) (number 0) ∷ Store (codes "a_bounded") (local p) (number 0) ∷ Store (codes "a_woke") (local p) (number 1) ∷ []) (here 0 b) (here 0 (start process b))
    starts b =
        let arrays = has.declared in
        let inside = is_below process P low in
        runs_straight g t 3 _ _ _ (λ rest target gives below. simp (forms, arrays, inside, element_is, element_set))

    one : (j : ℕ) (b : Board64) → j < 64 → ⊤ →
        Runs g t 2 (round i (Store (codes "a_moves") (sum (times (local p) 64) (local i)) (number 0) ∷ [])) (here j b) (here (j + 1) (rest_step process j b))
    one j b there h =
        let arrays = has.declared in
        let few = has.few in
        let small : nat_lt (process * 64) (2 ^ 31) ≡ true = is_below (process * 64) (2 ^ 31) (omega (arith, low, few)) in
        let fits : nat_lt (process * 64 + j) (2 ^ 31) ≡ true = is_below (process * 64 + j) (2 ^ 31) (omega (arith, low, few, there)) in
        let inside : nat_lt (process * 64 + j) (P * 64) ≡ true = is_below (process * 64 + j) (P * 64) (omega (arith, low, there)) in
        let next : nat_lt (j + 1) (2 ^ 31) ≡ true = is_below (j + 1) (2 ^ 31) (omega (arith, there)) in
        runs_straight g t 2 _ _ _ (λ rest target gives below. simp (forms, arrays, small, fits, inside, next, element_is, element_set))

    body_runs : (b : Board64) → Runs g t (3 + (loop_cost g t 2 64 + mute_cost g t C)) f_go.body.statements (here 0 b) (here 64 (go C process b))
    body_runs b =
        runs_on g t 3 _ _ _ _ _ _ (starts b)
        (
        runs_on g t _ _ (count_to i 64 (Store (codes "a_moves") (sum (times (local p) 64) (local i)) (number 0) ∷ []) ∷ []) _ _ _ _
        (loop_runs g t (rest_step process) (λ j b. ⊤) here i 64 2 (Store (codes "a_moves") (sum (times (local p) 64) (local i)) (number 0) ∷ []) (start process b) (λ j b rest target gives. simp forms) tt (λ j b low h. tt) one)
        (call_mute g t P C has own process below_all (p ∷ i ∷ []) _ _ (local p) (λ rest target gives. simp forms))
        )

    pub call_go : (names : List Word) (values : List ℤ) (b : Board64) (e : CExpr) → Are g t (core own names values b) (e ∷ []) (pos process ∷ []) →
        Runs g t (go_cost g t C) (call (codes "f_go") (e ∷ []) ∷ []) (core own names values b) (core own names values (go C process b))
    call_go names values b e are =
        call_ends g t _ (core own names values b) (here 64 (go C process b)) f_go (codes "f_go") (e ∷ []) (pos process ∷ [])
        (named-function (codes "go")) (ap (function_among (codes "f_go")) has.functions) are refl (body_runs b)
