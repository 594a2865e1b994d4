-- f_move: everything moves.
use Rattle.std.specs.Prelude.{◌≡◌, ◌<◌, ◌≤◌, ◌+◌, ◌*◌, ◌-◌, ◌^◌, ℕ, max, Bool, true, false, ◌&&◌, nat_lt, List, [], ◌∷◌, ℤ, pos, Option, Some, codes, ⊤}
use Rattle.std.proofs.Common.{refl, sym, ap, subst, arith}
use Rattle.hc_rational.specs.Words.{Rational}
use Rattle.hc_cast.specs.declared.program.CProgram.{CProgram}
use Rattle.hc_cast.specs.declared.expr.CExpr.{CExpr}
use Rattle.hc_cast.specs.declared.stmt.CStmt.{CStmt}
use Rattle.hc_cast.specs.declared.stmt.CStmt.TheVariants.{Set, Call}
use Rattle.hc_cmach.specs.State.{Word, function_among}
use Rattle.hc_cmach.specs.Expression.{int_of}
use Rattle.hc_cmach.proofs.Named.{named-function}
use Rattle.hc_cmach.proofs.Worths.{forms}
use Rattle.hc_clogic.specs.Runs.{View, Runs, Is, Are, kept}
use Rattle.hc_clogic.proofs.Runs.{call_runs, runs_on, runs_straight, loop_cost}
use Rattle.hc_cbuild.specs.Written.{number, local, element, sum, both, above_zero, take_call, if_then, count_to, round}
use Rattle.hc_core_c.specs.Twin.{Board64, rounds, nth, Tried, drift, drifted, lower, lowered_after, move_step, shift, send_at, offer_step, move, owner}
use Rattle.hc_core_c.specs.Code.{p, c, q, at, store, ok, its, send_of, branch_of, f_move}
use Rattle.hc_core_c.proofs.Base.{is_below, minus-nat, element_is, loop_runs, when_runs, both_is}
use Rattle.hc_core_c.specs.Owner.{core, Has}
use Rattle.hc_core_c.proofs.Owned.{owner_of}
use Rattle.hc_core_c.proofs.Owner.{call_owner, owner_cost}
use Rattle.hc_core_c.proofs.Rows.{IsRow, states_row, offer_row}
use Rattle.hc_core_c.proofs.Shift.{call_shift, call_lower}
use Rattle.hc_core_c.proofs.Drift.{call_drift, drift_cost, ok_is}

abbrev pub state_cost : CProgram → ℕ → ℕ
state_cost g t = (1 + drift_cost g t) + ((1 + 5) + 1)

abbrev pub offer_cost : CProgram → ℕ → ℕ → ℕ
offer_cost g t P = owner_cost (loop_cost g t 3 P) + (1 + (7 + 2))

abbrev pub move_cost : CProgram → ℕ → ℕ → ℕ → ℕ
move_cost g t P C = 1 + ((1 + (loop_cost g t (state_cost g t) P + loop_cost g t ((1 + offer_cost g t P) + 1) C)) + 1)

-- no code is above those of the processes
abbrev pub Sends : ℕ → ℕ → Board64 → Type 0
Sends P C b = (c : ℕ) → c < C → nth b.send c ≤ P * 32

module _ (g : CProgram) (t P C : ℕ) (has : Has g P C) (own : List Rational) where
  module _ (st : Bool) where
    abbrev names : List Word
    names = store ∷ p ∷ c ∷ q ∷ at ∷ ok ∷ []

    -- ---- variables and bounds

    abbrev here : ℕ → Tried → View
    here j u = core own names (int_of st ∷ pos j ∷ pos 0 ∷ pos 0 ∷ pos 0 ∷ int_of u.ok ∷ []) u.board

    abbrev drifts : List CStmt
    drifts = take_call ok (codes "f_drift") (local p ∷ local store ∷ []) ∷ []

    abbrev falls : List CStmt
    falls = take_call ok (codes "f_lower") (local p ∷ local store ∷ []) ∷ []

    abbrev bounded : CExpr
    bounded = above_zero (element (codes "a_bounded") (local p))

    bounded_is : (j : ℕ) (u : Tried) (is : Bool) → j < P → nat_lt 0 (nth u.board.bounded j) ≡ is → Is g t (here j u) bounded (int_of is)
    bounded_is j u is low e rest target gives =
        (let arrays = has.declared in let inside = is_below j P low in simp (forms, arrays, element_is, inside, e))

    first : (j : ℕ) (u : Tried) → j < P → Runs g t (1 + drift_cost g t) (if_then (above_zero (local ok)) drifts ∷ []) (here j u) (here j (drifted st j u))
    first j u low =
        when_runs g t (here j) (drift_cost g t) (above_zero (local ok)) drifts u (drift st j u.board) u.ok (ok_is g t (here j u) ok u.ok (λ rest target gives. simp forms))
        (λ is. call_drift g t P C has own j low st names (int_of st ∷ pos j ∷ pos 0 ∷ pos 0 ∷ pos 0 ∷ int_of u.ok ∷ []) u.board (Some ok) (local p ∷ local store ∷ []) (λ rest target gives. simp forms))

    second : (j : ℕ) (u : Tried) → j < P → Runs g t (1 + 5) (if_then (both (above_zero (local ok)) bounded) falls ∷ []) (here j u) (here j (lowered_after st j u))
    second j u low =
        when_runs g t (here j) 5 (both (above_zero (local ok)) bounded) falls u (lower st j u.board) (u.ok && nat_lt 0 (nth u.board.bounded j))
        (both_is g t (here j u) (above_zero (local ok)) bounded u.ok _ (ok_is g t (here j u) ok u.ok (λ rest target gives. simp forms)) (bounded_is j u _ low refl))
        (λ is. call_lower g t P C has own j low names (int_of st ∷ pos j ∷ pos 0 ∷ pos 0 ∷ pos 0 ∷ int_of u.ok ∷ []) u.board (Some ok) (local p ∷ local store ∷ []) st (λ rest target gives. simp forms))

    abbrev states : List CStmt
    states = if_then (above_zero (local ok)) drifts ∷ if_then (both (above_zero (local ok)) bounded) falls ∷ []

    one : (j : ℕ) (u : Tried) → j < P → Runs g t (state_cost g t) (round p states) (here j u) (here (j + 1) (move_step st j u))
    one j u low =
        let few = has.few in
        let next : nat_lt (j + 1) (2 ^ 31) ≡ true = is_below (j + 1) (2 ^ 31) (omega (arith, low, few)) in
        runs_on g t (1 + drift_cost g t) ((1 + 5) + 1) (if_then (above_zero (local ok)) drifts ∷ []) (round p (if_then (both (above_zero (local ok)) bounded) falls ∷ [])) _ _ _
        (first j u low)
        (
        runs_on g t (1 + 5) 1 (if_then (both (above_zero (local ok)) bounded) falls ∷ []) (round p []) _ _ _ (second j (drifted st j u) low)
        (runs_straight g t 1 _ (here j (move_step st j u)) (here (j + 1) (move_step st j u)) (λ rest target gives below. simp (forms, next)))
        )

    -- ---- offered values

    abbrev there : ℕ → Tried → View
    there j u = core own names (int_of st ∷ pos P ∷ pos j ∷ pos 0 ∷ pos 0 ∷ int_of u.ok ∷ []) u.board

    sends_is : (j : ℕ) (u : Tried) (is : Bool) → j < C → nat_lt 0 (nth u.board.send j) ≡ is → Is g t (there j u) (above_zero send_of) (int_of is)
    sends_is j u is low e rest target gives =
        (let arrays = has.declared in let inside = is_below j (max C 1) (omega (arith, low)) in simp (forms, arrays, element_is, inside, e))

    abbrev acts : List CStmt
    acts =
        take_call q (codes "f_owner") (send_of ∷ [])
        ∷ Set at (sum (its q 191) (branch_of send_of q))
        ∷ take_call ok (codes "f_shift") (local at ∷ sum (local at) (number 64) ∷ local store ∷ [])
        ∷ Set at (number 0)
        ∷ Set q (number 0)
        ∷ []

    acted : (j : ℕ) (u : Tried) → j < C → Sends P C u.board → Runs g t (offer_cost g t P) acts (there j u) (there j (shift st (send_at P j u.board) (send_at P j u.board + 64) u.board))
    acted j u low codes_low =
        let arrays = has.declared in
        let few = has.few in
        let inside = is_below j (max C 1) (omega (arith, low)) in
        let s = owner P (nth u.board.send j) in
        let z = nth u.board.send j in
        let h = owner_of P (nth u.board.send j) has.some (codes_low j low) in
        let s_low : owner P (nth u.board.send j) < P = h.low in
        let under : owner P (nth u.board.send j) * 32 ≤ nth u.board.send j = h.under in
        let over : nth u.board.send j ≤ owner P (nth u.board.send j) * 32 + 32 = h.over in
        let difference = minus-nat (nth u.board.send j) (owner P (nth u.board.send j) * 32) under in
        let k1 : nat_lt (owner P (nth u.board.send j) * 320) (2 ^ 31) ≡ true = is_below _ (2 ^ 31) (omega (arith, s_low, few)) in
        let k2 : nat_lt (owner P (nth u.board.send j) * 320 + 191) (2 ^ 31) ≡ true = is_below _ (2 ^ 31) (omega (arith, s_low, few)) in
        let k3 : nat_lt (owner P (nth u.board.send j) * 32) (2 ^ 31) ≡ true = is_below _ (2 ^ 31) (omega (arith, s_low, few)) in
        let k4 : nat_lt (nth u.board.send j - owner P (nth u.board.send j) * 32) (2 ^ 31) ≡ true = is_below _ (2 ^ 31) (omega (arith, s_low, few, over)) in
        let k5 : nat_lt (owner P (nth u.board.send j) * 320 + 191 + (nth u.board.send j - owner P (nth u.board.send j) * 32)) (2 ^ 31) ≡ true = is_below _ (2 ^ 31) (omega (arith, s_low, few, over)) in
        let k6 : nat_lt (owner P (nth u.board.send j) * 320 + 191 + (nth u.board.send j - owner P (nth u.board.send j) * 32) + 64) (2 ^ 31) ≡ true = is_below _ (2 ^ 31) (omega (arith, s_low, few, over)) in
        let a_low : send_at P j u.board < 20480 = omega (arith, s_low, few, over) in
        let r_low : send_at P j u.board + 64 < 20480 = omega (arith, s_low, few, over) in
        runs_on g t (owner_cost (loop_cost g t 3 P)) (1 + (7 + 2)) (take_call q (codes "f_owner") (send_of ∷ []) ∷ []) _ _ _ _
        (call_owner g t P C has own names (int_of st ∷ pos P ∷ pos j ∷ pos 0 ∷ pos 0 ∷ int_of u.ok ∷ []) u.board (Some q) send_of (nth u.board.send j) (λ rest target gives. simp (forms, arrays, element_is, inside)))
        (
        runs_on g t 1 (7 + 2) (Set at (sum (its q 191) (branch_of send_of q)) ∷ []) _ _ (core own names (int_of st ∷ pos P ∷ pos j ∷ pos (owner P (nth u.board.send j)) ∷ pos (send_at P j u.board) ∷ int_of u.ok ∷ []) u.board) _
        (runs_straight g t 1 _ _ _ (λ rest target gives below. simp (forms, arrays, element_is, inside, k1, k2, k3, k4, k5, difference)))
        (
        runs_on g t 7 2 (take_call ok (codes "f_shift") (local at ∷ sum (local at) (number 64) ∷ local store ∷ []) ∷ []) (Set at (number 0) ∷ Set q (number 0) ∷ []) _ _ _
        (call_shift g t P C has own (send_at P j u.board) (send_at P j u.board + 64) a_low r_low names (int_of st ∷ pos P ∷ pos j ∷ pos (owner P (nth u.board.send j)) ∷ pos (send_at P j u.board) ∷ int_of u.ok ∷ []) u.board (Some ok) (local at ∷ sum (local at) (number 64) ∷ local store ∷ []) st (λ rest target gives. simp (forms, k6)))
        (runs_straight g t 2 _ _ (there j (shift st (send_at P j u.board) (send_at P j u.board + 64) u.board)) (λ rest target gives below. simp forms))
        )
        )

    abbrev offers : List CStmt
    offers = if_then (both (above_zero (local ok)) (above_zero send_of)) acts ∷ []

    offer : (j : ℕ) (u : Tried) → j < C → Sends P C u.board → Runs g t ((1 + offer_cost g t P) + 1) (round c offers) (there j u) (there (j + 1) (offer_step P st j u))
    offer j u low codes_low =
        let small = has.small in
        let next : nat_lt (j + 1) (2 ^ 31) ≡ true = is_below (j + 1) (2 ^ 31) (omega (arith, low, small)) in
        runs_on g t (1 + offer_cost g t P) 1 offers (round c []) _ _ _
        (
        when_runs g t (there j) (offer_cost g t P) (both (above_zero (local ok)) (above_zero send_of)) acts u (shift st (send_at P j u.board) (send_at P j u.board + 64) u.board) (u.ok && nat_lt 0 (nth u.board.send j))
        (both_is g t (there j u) (above_zero (local ok)) (above_zero send_of) u.ok _ (ok_is g t (there j u) ok u.ok (λ rest target gives. simp forms)) (sends_is j u _ low refl))
        (λ is. acted j u low codes_low)
        )
        (runs_straight g t 1 _ (there j (offer_step P st j u)) (there (j + 1) (offer_step P st j u)) (λ rest target gives below. simp (forms, next)))

    sends_of : (b d : Board64) → IsRow b d → Sends P C b → Sends P C d
    sends_of b d h k = subst (λ (z : Board64). Sends P C z) (sym h) k

    abbrev moved_states : Board64 → Tried
    moved_states b = rounds (move_step st) P (record { ok = true; board = b })

    abbrev steps : List CStmt
    steps = Set ok (number 1) ∷ count_to p P states ∷ count_to c C offers ∷ []

    body_runs : (b : Board64) → Sends P C b →
        Runs g t (1 + (loop_cost g t (state_cost g t) P + loop_cost g t ((1 + offer_cost g t P) + 1) C)) steps (here 0 (record { ok = false; board = b })) (there C (move P C st b))
    body_runs b codes_low =
        runs_on g t 1 (loop_cost g t (state_cost g t) P + loop_cost g t ((1 + offer_cost g t P) + 1) C) (Set ok (number 1) ∷ []) (count_to p P states ∷ count_to c C offers ∷ []) _ _ _
        (runs_straight g t 1 _ _ (here 0 (record { ok = true; board = b })) (λ rest target gives below. simp forms))
        (
        runs_on g t (loop_cost g t (state_cost g t) P) (loop_cost g t ((1 + offer_cost g t P) + 1) C) (count_to p P states ∷ []) (count_to c C offers ∷ []) _ _ _
        (loop_runs g t (move_step st) (λ j u. ⊤) here p P (state_cost g t) states (record { ok = true; board = b }) (λ j u rest target gives. simp forms) tt (λ j u low h. tt) (λ j u low h. one j u low))
        (
        loop_runs g t (offer_step P st) (λ j (u : Tried). IsRow b u.board) there c C ((1 + offer_cost g t P) + 1) offers (moved_states b) (λ j u rest target gives. simp forms)
        (states_row P st b) (λ j u low h. offer_row P st b j u h) (λ j u low h. offer j u low (sends_of b u.board h codes_low))
        )
        )

    pub call_move : (names : List Word) (values : List ℤ) (b : Board64) (result : Option Word) (es : List CExpr) → Sends P C b → Are g t (core own names values b) es (int_of st ∷ []) →
        Runs g t (move_cost g t P C) (Call result (codes "f_move") es ∷ []) (core own names values b) (core own names (kept (core own names values b) result (int_of (move P C st b).ok)) (move P C st b).board)
    call_move names values b result es codes_low are =
        call_runs g t _ (core own names values b) (there C (move P C st b)) (f_move P C) result (codes "f_move") es (int_of st ∷ []) steps (local ok) (int_of (move P C st b).ok)
        (named-function (codes "move")) (ap (function_among (codes "f_move")) has.functions) are refl (body_runs b codes_low) (λ rest target gives. simp forms)
