-- f_length: the length of the delay, tried on everything that moves.
use Rattle.std.specs.Prelude.{◌≡◌, ◌+◌, ◌-◌, ℕ, Bool, true, false, if◌then◌else◌, nat_lt, List, [], ◌∷◌, length, ℤ, pos, Option, Some, codes}
use Rattle.std.proofs.Common.{refl, sym, ap, subst, arith}
use Rattle.std.specs.declared.cmp.Ordering.{Ordering}
use Rattle.std.specs.declared.cmp.Ordering.TheVariants.{Less, Equal, Greater}
use Rattle.hc_rational.specs.Words.{Rational, ◌+ℚ◌, ◌-ℚ◌, rank, fits}
use Rattle.hc_cast.specs.declared.program.CProgram.{CProgram}
use Rattle.hc_cast.specs.declared.expr.CExpr.{CExpr}
use Rattle.hc_cast.specs.declared.stmt.CStmt.{CStmt}
use Rattle.hc_cast.specs.declared.stmt.CStmt.TheVariants.{Set, Call}
use Rattle.hc_cmach.specs.State.{Word, function_among}
use Rattle.hc_cmach.specs.Expression.{int_of}
use Rattle.hc_cmach.proofs.Named.{named-function}
use Rattle.hc_cmach.proofs.Worths.{forms}
use Rattle.hc_clogic.specs.Runs.{View, Runs, Is, Are, kept}
use Rattle.hc_clogic.proofs.Runs.{call_runs, runs_on, runs_longer, runs_straight}
use Rattle.hc_cbuild.specs.Written.{number, local, less, above_zero, call, take_call, if_then, if_else}
use Rattle.hc_core_c.specs.Twin.{Board64, register, put, Tried, refused, is_above, to_horizon, up_to, bound_ahead, move, moved_after, length_by, length_of}
use Rattle.hc_core_c.specs.Code.{k, ok, x, rests, f_length}
use Rattle.hc_core_c.proofs.Base.{when_runs, when_else_runs}
use Rattle.hc_core_c.specs.Owner.{core, Has}
use Rattle.hc_core_c.proofs.Drift.{ok_is}
use Rattle.hc_core_c.proofs.Rows.{IsRow, row_on}
use Rattle.hc_core_c.proofs.Move.{call_move, move_cost, Sends}

-- ---- only row 64 changes

horizon_by : (is : Bool) (d : Rational) (b : Board64) → IsRow b (if is then record { ok = true; board = put 70 d b } else refused b).board
horizon_by true d b = refl
horizon_by false d b = refl

horizon_row : (b : Board64) → IsRow b (to_horizon b).board
horizon_row b = horizon_by (fits (register b 67 -ℚ register b 64)) (register b 67 -ℚ register b 64) b

up_by : (is : Bool) (v : Rational) (b : Board64) → IsRow b (if is then to_horizon (put 70 v b) else record { ok = true; board = put 70 v b }).board
up_by true v b = row_on b (put 70 v b) _ refl (horizon_row (put 70 v b))
up_by false v b = refl

ahead_by : (is : Bool) (v : Rational) (b : Board64) → IsRow b (if is then up_to (put 69 v b) else refused b).board
ahead_by true v b = row_on b (put 69 v b) _ refl (up_by (is_above (rank (register (put 69 v b) 69) (register (put 69 v b) 67))) (register (put 69 v b) 68) (put 69 v b))
ahead_by false v b = refl

-- the length before it is tried
abbrev pub tried : ℕ → Board64 → Tried
tried kind b = if nat_lt kind 2 then to_horizon b else bound_ahead b

tried_by : (is : Bool) (b : Board64) → IsRow b (if is then to_horizon b else bound_ahead b).board
tried_by true b = horizon_row b
tried_by false b = ahead_by (fits (register b 64 +ℚ register b 68)) (register b 64 +ℚ register b 68) b

pub tried_row : (kind : ℕ) (b : Board64) → IsRow b (tried kind b).board
tried_row kind b = tried_by (nat_lt kind 2) b

abbrev pub length_cost : CProgram → ℕ → ℕ → ℕ → ℕ
length_cost g t P C = 1 + ((8 + (1 + (1 + (1 + move_cost g t P C)))) + 1)

module _ (g : CProgram) (t P C : ℕ) (has : Has g P C) (own : List Rational) where
  module _ (kind : ℕ) where
    abbrev names : List Word
    names = k ∷ ok ∷ x ∷ []

    abbrev here : Tried → View
    here u = core own names (pos kind ∷ int_of u.ok ∷ pos 0 ∷ []) u.board

    horizon : (b : Board64) (is : Bool) → fits (register b 67 -ℚ register b 64) ≡ is →
        Runs g t 1 (rests ∷ []) (here (refused b)) (here (if is then record { ok = true; board = put 70 (register b 67 -ℚ register b 64) b } else refused b))
    horizon b true e = runs_straight g t 1 _ _ _ (λ rest target gives below. simp (forms, e))
    horizon b false e = runs_straight g t 1 _ _ _ (λ rest target gives below. simp (forms, e))

    abbrev bounds : List CStmt
    bounds =
        take_call ok (codes "fr_add") (number 64 ∷ number 69 ∷ number 64 ∷ number 68 ∷ [])
        ∷ if_then (above_zero (local ok))
        (
        take_call x (codes "fr_cmp") (number 64 ∷ number 69 ∷ number 67 ∷ [])
        ∷ call (codes "fr_move") (number 64 ∷ number 70 ∷ number 64 ∷ number 68 ∷ [])
        ∷ if_then (above_zero (local x)) (rests ∷ [])
        ∷ Set x (number 0)
        ∷ []
        )
        ∷ []

    -- behind the clock with the least bound, v, in register 69
    abbrev due_at : Rational → Board64 → Board64
    due_at v b = put 69 v b

    abbrev set_to : Board64 → Board64
    set_to b = put 70 (register b 68) b

    ahead : (b : Board64) (fit : Bool) (o : Ordering) (more : Bool) → fits (register b 64 +ℚ register b 68) ≡ fit →
        rank (register (put 69 (register b 64 +ℚ register b 68) b) 69) (register (put 69 (register b 64 +ℚ register b 68) b) 67) ≡ o →
        fits (register (set_to (put 69 (register b 64 +ℚ register b 68) b)) 67 -ℚ register (set_to (put 69 (register b 64 +ℚ register b 68) b)) 64) ≡ more →
        Runs g t 7 bounds (here (refused b))
        (
        here
        (
        if fit
        then
        (
        if is_above o
        then
        (
        if more
        then record { ok = true; board = put 70 (register (set_to (put 69 (register b 64 +ℚ register b 68) b)) 67 -ℚ register (set_to (put 69 (register b 64 +ℚ register b 68) b)) 64) (set_to (put 69 (register b 64 +ℚ register b 68) b)) }
        else refused (set_to (put 69 (register b 64 +ℚ register b 68) b))
        )
        else record { ok = true; board = set_to (put 69 (register b 64 +ℚ register b 68) b) }
        )
        else refused b
        )
        )
    ahead b false o more e f h = runs_longer g t 2 7 _ _ _ (omega arith) (runs_straight g t 2 _ _ _ (λ rest target gives below. simp (forms, e)))
    ahead b true Less more e f h = runs_longer g t 6 7 _ _ _ (omega arith) (runs_straight g t 6 _ _ _ (λ rest target gives below. simp (forms, e, f)))
    ahead b true Equal more e f h = runs_longer g t 6 7 _ _ _ (omega arith) (runs_straight g t 6 _ _ _ (λ rest target gives below. simp (forms, e, f)))
    ahead b true Greater true e f h = runs_straight g t 7 _ _ _ (λ rest target gives below. simp (forms, e, f, h))
    ahead b true Greater false e f h = runs_straight g t 7 _ _ _ (λ rest target gives below. simp (forms, e, f, h))

    kind_is : (b : Board64) (is : Bool) → nat_lt kind 2 ≡ is → Is g t (here (refused b)) (less (local k) (number 2)) (int_of is)
    kind_is b is e rest target gives = simp (forms, e)

    first : (b : Board64) → Runs g t 8 (if_else (less (local k) (number 2)) (rests ∷ []) bounds ∷ []) (here (refused b)) (here (tried kind b))
    first b =
        when_else_runs g t here 7 (less (local k) (number 2)) (rests ∷ []) bounds (here (refused b)) (to_horizon b) (bound_ahead b) (nat_lt kind 2) (kind_is b (nat_lt kind 2) refl)
        (λ is. runs_longer g t 1 7 _ _ _ (omega arith) (horizon b _ refl)) (λ is. ahead b _ _ _ refl refl refl)

    -- ---- and the clock behind it

    abbrev tries : List CStmt
    tries = take_call ok (codes "f_move") (number 0 ∷ []) ∷ []

    abbrev clocks : List CStmt
    clocks = take_call ok (codes "fr_add") (number 64 ∷ number 71 ∷ number 64 ∷ number 70 ∷ []) ∷ if_then (above_zero (local ok)) tries ∷ []

    abbrev added : Board64 → Bool → Tried
    added b is = if is then record { ok = true; board = put 71 (register b 64 +ℚ register b 70) b } else refused b

    adds : (b : Board64) (is ok_before : Bool) → fits (register b 64 +ℚ register b 70) ≡ is →
        Runs g t 1 (take_call ok (codes "fr_add") (number 64 ∷ number 71 ∷ number 64 ∷ number 70 ∷ []) ∷ []) (here (record { ok = ok_before; board = b })) (here (added b is))
    adds b true ok_before e = runs_straight g t 1 _ _ _ (λ rest target gives below. simp (forms, e))
    adds b false ok_before e = runs_straight g t 1 _ _ _ (λ rest target gives below. simp (forms, e))

    later : (b : Board64) (is : Bool) → Sends P C b → Runs g t (1 + move_cost g t P C) (if_then (above_zero (local ok)) tries ∷ []) (here (added b is)) (here (if is then move P C false (put 71 (register b 64 +ℚ register b 70) b) else refused b))
    later b true h =
        when_runs g t here (move_cost g t P C) (above_zero (local ok)) tries (record { ok = true; board = put 71 (register b 64 +ℚ register b 70) b }) (move P C false (put 71 (register b 64 +ℚ register b 70) b)) true (ok_is g t (here (added b true)) ok true (λ rest target gives. simp forms))
        (λ is. call_move g t P C has own false names (pos kind ∷ pos 1 ∷ pos 0 ∷ []) (put 71 (register b 64 +ℚ register b 70) b) (Some ok) (number 0 ∷ []) h (λ rest target gives. simp forms))
    later b false h = when_runs g t here (move_cost g t P C) (above_zero (local ok)) tries (refused b) (refused b) false (ok_is g t (here (refused b)) ok false (λ rest target gives. simp forms)) (λ is. absurd cc)

    second : (u : Tried) → Sends P C u.board → Runs g t (1 + (1 + (1 + move_cost g t P C))) (if_then (above_zero (local ok)) clocks ∷ []) (here u) (here (length_by P C u))
    second u h =
        when_runs g t here (1 + (1 + move_cost g t P C)) (above_zero (local ok)) clocks u (moved_after P C u.board) u.ok (ok_is g t (here u) ok u.ok (λ rest target gives. simp forms))
        (
        λ is.
        runs_on g t 1 (1 + move_cost g t P C) (take_call ok (codes "fr_add") (number 64 ∷ number 71 ∷ number 64 ∷ number 70 ∷ []) ∷ []) (if_then (above_zero (local ok)) tries ∷ []) _ _ _
        (adds u.board (fits (register u.board 64 +ℚ register u.board 70)) u.ok refl)
        (later u.board (fits (register u.board 64 +ℚ register u.board 70)) h)
        )

    abbrev steps : List CStmt
    steps = if_else (less (local k) (number 2)) (rests ∷ []) bounds ∷ if_then (above_zero (local ok)) clocks ∷ []

    body_runs : (b : Board64) → Sends P C b → Runs g t (8 + (1 + (1 + (1 + move_cost g t P C)))) steps (here (refused b)) (here (length_of P C kind b))
    body_runs b h =
        runs_on g t 8 (1 + (1 + (1 + move_cost g t P C))) (if_else (less (local k) (number 2)) (rests ∷ []) bounds ∷ []) (if_then (above_zero (local ok)) clocks ∷ []) _ _ _
        (first b) (second (tried kind b) (subst (λ (z : Board64). Sends P C z) (sym (tried_row kind b)) h))

    pub call_length : (names : List Word) (values : List ℤ) (b : Board64) (result : Option Word) (es : List CExpr) → Sends P C b → Are g t (core own names values b) es (pos kind ∷ []) →
        Runs g t (length_cost g t P C) (Call result (codes "f_length") es ∷ []) (core own names values b) (core own names (kept (core own names values b) result (int_of (length_of P C kind b).ok)) (length_of P C kind b).board)
    call_length names values b result es h are =
        call_runs g t _ (core own names values b) (here (length_of P C kind b)) f_length result (codes "f_length") es (pos kind ∷ []) steps (local ok) (int_of (length_of P C kind b).ok)
        (named-function (codes "length")) (ap (function_among (codes "f_length")) has.functions) are refl (body_runs b h) (λ rest target gives. simp forms)
