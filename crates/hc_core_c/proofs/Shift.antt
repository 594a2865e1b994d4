-- f_shift and f_lower: a register moves for the length of the delay.
use Rattle.std.specs.Prelude.{◌≡◌, ◌<◌, ◌+◌, ◌*◌, ◌-◌, ◌^◌, ℕ, Bool, true, false, if◌then◌else◌, nat_lt, List, [], ◌∷◌, length, ℤ, pos, Option, codes}
use Rattle.std.proofs.Common.{refl, ap, arith}
use Rattle.hc_rational.specs.Words.{Rational, ◌+ℚ◌, ◌-ℚ◌, ◌*ℚ◌, fits}
use Rattle.hc_cast.specs.declared.program.CProgram.{CProgram}
use Rattle.hc_cast.specs.declared.expr.CExpr.{CExpr}
use Rattle.hc_cast.specs.declared.stmt.CStmt.{CStmt}
use Rattle.hc_cast.specs.declared.stmt.CStmt.TheVariants.{Call}
use Rattle.hc_cmach.specs.State.{Word, function_among}
use Rattle.hc_cmach.specs.Expression.{int_of}
use Rattle.hc_cmach.proofs.Named.{named-function}
use Rattle.hc_cmach.proofs.Worths.{forms}
use Rattle.hc_clogic.specs.Runs.{View, Runs, Are, kept}
use Rattle.hc_clogic.proofs.Runs.{call_runs, runs_longer, runs_straight}
use Rattle.hc_cbuild.specs.Written.{number, local, above_zero, take_call, if_then}
use Rattle.hc_core_c.specs.Twin.{Board64, register, put, Tried, refused, kept_in, shift, lower, bound_of}
use Rattle.hc_core_c.specs.Code.{p, at, rate, store, ok, its, keeps, f_shift, f_lower}
use Rattle.hc_core_c.proofs.Base.{is_below}
use Rattle.hc_core_c.specs.Owner.{core, Has}

module _ (g : CProgram) (t P C : ℕ) (has : Has g P C) (own : List Rational) where
  module _ (a r : ℕ) (a_low : a < 20480) (r_low : r < 20480) where
    abbrev after : Bool → Tried → View
    after st u = core own (at ∷ rate ∷ store ∷ ok ∷ []) (pos a ∷ pos r ∷ int_of st ∷ int_of u.ok ∷ []) u.board

    abbrev steps : List CStmt
    steps =
        take_call ok (codes "fr_mul") (number 64 ∷ number 72 ∷ local rate ∷ number 70 ∷ [])
        ∷ if_then (above_zero (local ok)) (take_call ok (codes "fr_add") (number 64 ∷ number 72 ∷ local at ∷ number 72 ∷ []) ∷ [])
        ∷ keeps (local at)
        ∷ []

    by : (b : Board64) (st first second : Bool) → fits (register b r *ℚ register b 70) ≡ first →
        fits (register (put 72 (register b r *ℚ register b 70) b) a +ℚ register (put 72 (register b r *ℚ register b 70) b) 72) ≡ second →
        Runs g t 5 steps (after st (refused b))
        (
        after st
        (
        if first
        then
        (
        if second
        then record { ok = true; board = kept_in st a (put 72 (register (put 72 (register b r *ℚ register b 70) b) a +ℚ register (put 72 (register b r *ℚ register b 70) b) 72) (put 72 (register b r *ℚ register b 70) b)) }
        else refused (put 72 (register b r *ℚ register b 70) b)
        )
        else refused b
        )
        )
    by b st false second e f =
        let ina = is_below a 20480 a_low in
        let inr = is_below r 20480 r_low in
        runs_longer g t 3 5 _ _ _ (omega arith) (runs_straight g t 3 _ _ _ (λ rest target gives below. simp (forms, ina, inr, e)))
    by b st true false e f =
        let ina = is_below a 20480 a_low in
        let inr = is_below r 20480 r_low in
        runs_longer g t 4 5 _ _ _ (omega arith) (runs_straight g t 4 _ _ _ (λ rest target gives below. simp (forms, ina, inr, e, f)))
    by b false true true e f =
        let ina = is_below a 20480 a_low in
        let inr = is_below r 20480 r_low in
        runs_longer g t 4 5 _ _ _ (omega arith) (runs_straight g t 4 _ _ _ (λ rest target gives below. simp (forms, ina, inr, e, f)))
    by b true true true e f =
        let ina = is_below a 20480 a_low in
        let inr = is_below r 20480 r_low in
        runs_straight g t 5 _ _ _ (λ rest target gives below. simp (forms, ina, inr, e, f))

    pub call_shift : (names : List Word) (values : List ℤ) (b : Board64) (result : Option Word) (es : List CExpr) (st : Bool) → Are g t (core own names values b) es (pos a ∷ pos r ∷ int_of st ∷ []) →
        Runs g t 7 (Call result (codes "f_shift") es ∷ []) (core own names values b) (core own names (kept (core own names values b) result (int_of (shift st a r b).ok)) (shift st a r b).board)
    call_shift names values b result es st are =
        call_runs g t 5 (core own names values b) (after st (shift st a r b)) f_shift result (codes "f_shift") es (pos a ∷ pos r ∷ int_of st ∷ []) steps (local ok) (int_of (shift st a r b).ok)
        (named-function (codes "shift")) (ap (function_among (codes "f_shift")) has.functions) are refl (by b st _ _ refl refl) (λ rest target gives. simp forms)

  module _ (process : ℕ) (low : process < P) where
    abbrev left : Bool → Tried → View
    left st u = core own (p ∷ store ∷ ok ∷ []) (pos process ∷ int_of st ∷ int_of u.ok ∷ []) u.board

    abbrev falls : List CStmt
    falls = take_call ok (codes "fr_sub") (number 64 ∷ number 72 ∷ its p 66 ∷ number 70 ∷ []) ∷ keeps (its p 66) ∷ []

    small : nat_lt (process * 320) (2 ^ 31) ≡ true
    small = (let few = has.few in is_below (process * 320) (2 ^ 31) (omega (arith, low, few)))

    int : nat_lt (process * 320 + 66) (2 ^ 31) ≡ true
    int = (let few = has.few in is_below (process * 320 + 66) (2 ^ 31) (omega (arith, low, few)))

    inside : nat_lt (process * 320 + 66) 20480 ≡ true
    inside = (let few = has.few in is_below (process * 320 + 66) 20480 (omega (arith, low, few)))

    fall : (b : Board64) (st is : Bool) → fits (register b (bound_of process) -ℚ register b 70) ≡ is →
        Runs g t 3 falls (left st (refused b))
        (left st (if is then record { ok = true; board = kept_in st (bound_of process) (put 72 (register b (bound_of process) -ℚ register b 70) b) } else refused b))
    fall b st false e = runs_longer g t 2 3 _ _ _ (omega arith) (runs_straight g t 2 _ _ _ (λ rest target gives below. simp (forms, small, int, inside, e)))
    fall b false true e = runs_longer g t 2 3 _ _ _ (omega arith) (runs_straight g t 2 _ _ _ (λ rest target gives below. simp (forms, small, int, inside, e)))
    fall b true true e = runs_straight g t 3 _ _ _ (λ rest target gives below. simp (forms, small, int, inside, e))

    pub call_lower : (names : List Word) (values : List ℤ) (b : Board64) (result : Option Word) (es : List CExpr) (st : Bool) → Are g t (core own names values b) es (pos process ∷ int_of st ∷ []) →
        Runs g t 5 (Call result (codes "f_lower") es ∷ []) (core own names values b) (core own names (kept (core own names values b) result (int_of (lower st process b).ok)) (lower st process b).board)
    call_lower names values b result es st are =
        call_runs g t 3 (core own names values b) (left st (lower st process b)) f_lower result (codes "f_lower") es (pos process ∷ int_of st ∷ []) falls (local ok) (int_of (lower st process b).ok)
        (named-function (codes "lower")) (ap (function_among (codes "f_lower")) has.functions) are refl (fall b st _ refl) (λ rest target gives. simp forms)
