-- f_able: whether a process is going or has a bound of 0.
use Rattle.std.specs.Prelude.{◌≡◌, ◌<◌, ◌+◌, ◌*◌, ◌-◌, ◌^◌, ℕ, Bool, true, false, ◌&&◌, ◌||◌, nat_lt, List, [], ◌∷◌, ℤ, pos, Option, codes}
use Rattle.std.proofs.Common.{refl, ap, arith}
use Rattle.std.specs.Int.{int_signum}
use Rattle.std.specs.Ordering.{int_eq}
use Rattle.hc_rational.specs.Words.{Rational, fits}
use Rattle.hc_cast.specs.declared.program.CProgram.{CProgram}
use Rattle.hc_cast.specs.declared.expr.CExpr.{CExpr}
use Rattle.hc_cast.specs.declared.stmt.CStmt.TheVariants.{Call}
use Rattle.hc_cmach.specs.State.{Word, function_among}
use Rattle.hc_cmach.specs.Expression.{int_of}
use Rattle.hc_cmach.proofs.Named.{named-function}
use Rattle.hc_cmach.proofs.Worths.{forms}
use Rattle.hc_clogic.specs.Runs.{View, Runs, Is, Are, kept}
use Rattle.hc_clogic.proofs.Runs.{call_runs, runs_straight}
use Rattle.hc_cbuild.specs.Written.{number, local, element, equals, both, denies, above_zero, below_one, take_call}
use Rattle.hc_core_c.specs.Twin.{Board64, nth, register, bound_of, able}
use Rattle.hc_core_c.specs.Code.{p, x, its, f_able}
use Rattle.hc_core_c.proofs.Base.{is_below, element_is}
use Rattle.hc_core_c.specs.Owner.{core, Has}

module _ (g : CProgram) (t P C : ℕ) (has : Has g P C) (own : List Rational) where
  module _ (process : ℕ) (low : process < P) where
    abbrev sign : Board64 → ℤ
    sign b = int_signum (register b (bound_of process)).num

    abbrev here : ℤ → Board64 → View
    here z b = core own (p ∷ x ∷ []) (pos process ∷ z ∷ []) b

    looks : (b : Board64) → Runs g t 1 (take_call x (codes "fr_sign") (number 64 ∷ its p 66 ∷ []) ∷ []) (here (pos 0) b) (here (sign b) b)
    looks b =
        let few = has.few in
        let small : nat_lt (process * 320) (2 ^ 31) ≡ true = is_below (process * 320) (2 ^ 31) (omega (arith, low, few)) in
        let fits : nat_lt (process * 320 + 66) (2 ^ 31) ≡ true = is_below (process * 320 + 66) (2 ^ 31) (omega (arith, low, few)) in
        let inside : nat_lt (process * 320 + 66) 20480 ≡ true = is_below (process * 320 + 66) 20480 (omega (arith, low, few)) in
        runs_straight g t 1 _ _ _ (λ rest target gives below. simp (forms, small, fits, inside))

    abbrev question : CExpr
    question =
        denies
        (
        both (denies (below_one (element (codes "a_phase") (local p))))
        (denies (both (above_zero (element (codes "a_bounded") (local p))) (equals (local x) (number 0))))
        )

    tested : (b : Board64) (going bounded still : Bool) → nat_lt (nth b.phase process) 1 ≡ going → nat_lt 0 (nth b.bounded process) ≡ bounded → int_eq (sign b) (pos 0) ≡ still →
        Is g t (here (sign b) b) question (int_of (going || (bounded && still)))
    tested b true bounded still e f h rest target gives =
        (let arrays = has.declared in let inside = is_below process P low in simp (forms, arrays, inside, element_is, e))
    tested b false true true e f h rest target gives =
        (let arrays = has.declared in let inside = is_below process P low in simp (forms, arrays, inside, element_is, e, f, h))
    tested b false true false e f h rest target gives =
        (let arrays = has.declared in let inside = is_below process P low in simp (forms, arrays, inside, element_is, e, f, h))
    tested b false false still e f h rest target gives =
        (let arrays = has.declared in let inside = is_below process P low in simp (forms, arrays, inside, element_is, e, f))

    pub call_able : (names : List Word) (values : List ℤ) (b : Board64) (result : Option Word) (e : CExpr) → Are g t (core own names values b) (e ∷ []) (pos process ∷ []) →
        Runs g t 3 (Call result (codes "f_able") (e ∷ []) ∷ []) (core own names values b) (core own names (kept (core own names values b) result (int_of (able b process))) b)
    call_able names values b result e are =
        call_runs g t 1 (core own names values b) (here (sign b) b) f_able result (codes "f_able") (e ∷ []) (pos process ∷ []) _ question (int_of (able b process))
        (named-function (codes "able")) (ap (function_among (codes "f_able")) has.functions) are refl (looks b) (tested b _ _ _ refl refl refl)
