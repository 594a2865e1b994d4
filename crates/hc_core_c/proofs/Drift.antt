-- f_drift: the moving variables of a process.
use Rattle.std.specs.Prelude.{◌≡◌, ◌<◌, ◌+◌, ◌*◌, ◌-◌, ◌^◌, ℕ, Bool, true, false, ◌&&◌, nat_lt, List, [], ◌∷◌, ℤ, pos, Option, Some, codes, ⊤}
use Rattle.std.proofs.Common.{refl, ap, arith}
use Rattle.hc_rational.specs.Words.{Rational}
use Rattle.hc_cast.specs.declared.program.CProgram.{CProgram}
use Rattle.hc_cast.specs.declared.expr.CExpr.{CExpr}
use Rattle.hc_cast.specs.declared.stmt.CStmt.{CStmt}
use Rattle.hc_cast.specs.declared.stmt.CStmt.TheVariants.{Set, Call}
use Rattle.hc_cmach.specs.State.{Word, function_among}
use Rattle.hc_cmach.specs.Expression.{int_of}
use Rattle.hc_cmach.proofs.Named.{named-function}
use Rattle.hc_cmach.proofs.Worths.{forms, worth-Binary, worth-Number}
use Rattle.hc_clogic.specs.Runs.{View, Runs, Is, Are, kept}
use Rattle.hc_clogic.proofs.Runs.{call_runs, runs_on, runs_straight, loop_cost}
use Rattle.hc_cbuild.specs.Written.{number, local, element, sum, times, both, above_zero, take_call, if_then, count_to, round}
use Rattle.hc_core_c.specs.Twin.{Board64, nth, Tried, variable, rate_of, shift, drift, drift_step}
use Rattle.hc_core_c.specs.Code.{p, i, store, ok, its, f_drift}
use Rattle.hc_core_c.proofs.Base.{is_below, element_is, loop_runs, when_runs, both_is}
use Rattle.hc_core_c.specs.Owner.{core, Has}
use Rattle.hc_core_c.proofs.Shift.{call_shift}

abbrev pub drift_cost : CProgram → ℕ → ℕ
drift_cost g t = 1 + (1 + loop_cost g t 9 64 + 1)

-- `ok` as a test
pub ok_is : (g : CProgram) (t : ℕ) (v : View) (x : Word) (is : Bool) → Is g t v (local x) (int_of is) → Is g t v (above_zero (local x)) (int_of is)
ok_is g t v x true h rest target gives = (let e = h rest target gives in simp (worth-Binary, worth-Number, e))
ok_is g t v x false h rest target gives = (let e = h rest target gives in simp (worth-Binary, worth-Number, e))

module _ (g : CProgram) (t P C : ℕ) (has : Has g P C) (own : List Rational) where
  module _ (process : ℕ) (low : process < P) (st : Bool) where
    abbrev here : ℕ → Tried → View
    here j u = core own (p ∷ store ∷ i ∷ ok ∷ []) (pos process ∷ int_of st ∷ pos j ∷ int_of u.ok ∷ []) u.board

    abbrev acts : List CStmt
    acts = take_call ok (codes "f_shift") (sum (times (local p) 320) (local i) ∷ sum (its p 128) (local i) ∷ local store ∷ []) ∷ []

    abbrev moves : CExpr
    moves = above_zero (element (codes "a_moves") (sum (times (local p) 64) (local i)))

    moves_is : (j : ℕ) (u : Tried) (is : Bool) → j < 64 → nat_lt 0 (nth u.board.moves (process * 64 + j)) ≡ is → Is g t (here j u) moves (int_of is)
    moves_is j u is there e rest target gives =
        (
        let arrays = has.declared in
        let few = has.few in
        let small : nat_lt (process * 64) (2 ^ 31) ≡ true = is_below (process * 64) (2 ^ 31) (omega (arith, low, few)) in
        let int : nat_lt (process * 64 + j) (2 ^ 31) ≡ true = is_below (process * 64 + j) (2 ^ 31) (omega (arith, low, few, there)) in
        let inside : nat_lt (process * 64 + j) (P * 64) ≡ true = is_below (process * 64 + j) (P * 64) (omega (arith, low, there)) in
        simp (forms, arrays, element_is, small, int, inside, e)
        )

    acted : (j : ℕ) (u : Tried) → j < 64 → Runs g t 7 acts (here j u) (here j (shift st (variable process j) (rate_of process j) u.board))
    acted j u there =
        let few = has.few in
        let a_low : variable process j < 20480 = omega (arith, low, few, there) in
        let r_low : rate_of process j < 20480 = omega (arith, low, few, there) in
        let small : nat_lt (process * 320) (2 ^ 31) ≡ true = is_below (process * 320) (2 ^ 31) (omega (arith, low, few)) in
        let first : nat_lt (process * 320 + j) (2 ^ 31) ≡ true = is_below (process * 320 + j) (2 ^ 31) (omega (arith, low, few, there)) in
        let mid : nat_lt (process * 320 + 128) (2 ^ 31) ≡ true = is_below (process * 320 + 128) (2 ^ 31) (omega (arith, low, few)) in
        let second : nat_lt (process * 320 + 128 + j) (2 ^ 31) ≡ true = is_below (process * 320 + 128 + j) (2 ^ 31) (omega (arith, low, few, there)) in
        call_shift g t P C has own (variable process j) (rate_of process j) a_low r_low (p ∷ store ∷ i ∷ ok ∷ []) (pos process ∷ int_of st ∷ pos j ∷ int_of u.ok ∷ []) u.board (Some ok) _ st
        (λ rest target gives. simp (forms, small, first, mid, second))

    one : (j : ℕ) (u : Tried) → j < 64 → Runs g t 9 (round i (if_then (both (above_zero (local ok)) moves) acts ∷ [])) (here j u) (here (j + 1) (drift_step st process j u))
    one j u there =
        let next : nat_lt (j + 1) (2 ^ 31) ≡ true = is_below (j + 1) (2 ^ 31) (omega (arith, there)) in
        runs_on g t 8 1 (if_then (both (above_zero (local ok)) moves) acts ∷ []) (round i []) _ _ _
        (
        when_runs g t (here j) 7 (both (above_zero (local ok)) moves) acts u (shift st (variable process j) (rate_of process j) u.board) (u.ok && nat_lt 0 (nth u.board.moves (process * 64 + j)))
        (both_is g t (here j u) (above_zero (local ok)) moves u.ok _ (ok_is g t (here j u) ok u.ok (λ rest target gives. simp forms)) (moves_is j u _ there refl))
        (λ is. acted j u there)
        )
        (runs_straight g t 1 _ _ _ (λ rest target gives below. simp (forms, next)))

    body_runs : (b : Board64) →
        Runs g t (1 + loop_cost g t 9 64) (Set ok (number 1) ∷ count_to i 64 (if_then (both (above_zero (local ok)) moves) acts ∷ []) ∷ []) (here 0 (record { ok = false; board = b })) (here 64 (drift st process b))
    body_runs b =
        runs_on g t 1 (loop_cost g t 9 64) (Set ok (number 1) ∷ []) (count_to i 64 (if_then (both (above_zero (local ok)) moves) acts ∷ []) ∷ []) _ _ _
        (runs_straight g t 1 _ _ (here 0 (record { ok = true; board = b })) (λ rest target gives below. simp forms))
        (loop_runs g t (drift_step st process) (λ j u. ⊤) here i 64 9 (if_then (both (above_zero (local ok)) moves) acts ∷ []) (record { ok = true; board = b }) (λ j u rest target gives. simp forms) tt (λ j u low h. tt) (λ j u low h. one j u low))

    pub call_drift : (names : List Word) (values : List ℤ) (b : Board64) (result : Option Word) (es : List CExpr) → Are g t (core own names values b) es (pos process ∷ int_of st ∷ []) →
        Runs g t (drift_cost g t) (Call result (codes "f_drift") es ∷ []) (core own names values b) (core own names (kept (core own names values b) result (int_of (drift st process b).ok)) (drift st process b).board)
    call_drift names values b result es are =
        call_runs g t (1 + loop_cost g t 9 64) (core own names values b) (here 64 (drift st process b)) f_drift result (codes "f_drift") es (pos process ∷ int_of st ∷ []) _ (local ok) (int_of (drift st process b).ok)
        (named-function (codes "drift")) (ap (function_among (codes "f_drift")) has.functions) are refl (body_runs b) (λ rest target gives. simp forms)
