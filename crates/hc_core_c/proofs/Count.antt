-- f_count: one more step, and the end where they are as many as the limit.
use Rattle.std.specs.Prelude.{◌≡◌, ◌<◌, ◌+◌, ◌-◌, ◌^◌, ℕ, Bool, true, false, if◌then◌else◌, nat_lt, List, [], ◌∷◌, ℤ, pos, Some, None, codes}
use Rattle.std.proofs.Common.{refl, ap, arith}
use Rattle.hc_rational.specs.Words.{Rational, fits}
use Rattle.hc_cast.specs.declared.program.CProgram.{CProgram}
use Rattle.hc_cast.specs.declared.expr.CExpr.{CExpr}
use Rattle.hc_cast.specs.declared.stmt.CStmt.TheVariants.{Store}
use Rattle.hc_cmach.specs.State.{Word, function_among}
use Rattle.hc_cmach.specs.Expression.{int_of}
use Rattle.hc_cmach.proofs.Named.{named-function}
use Rattle.hc_cmach.proofs.Worths.{forms}
use Rattle.hc_clogic.specs.Runs.{View, Runs, Is}
use Rattle.hc_clogic.proofs.Runs.{call_ends, if_runs, runs_none, runs_on, runs_longer, runs_straight}
use Rattle.hc_cbuild.specs.Written.{number, first_of, sum, less, call, if_else}
use Rattle.hc_core_c.specs.Twin.{Board64, stopped, counted}
use Rattle.hc_core_c.specs.Code.{f_count, stops}
use Rattle.hc_core_c.proofs.Base.{is_below}
use Rattle.hc_core_c.specs.Owner.{core, Has}
use Rattle.hc_core_c.proofs.Stops.{stop_here}

module _ (g : CProgram) (t P C : ℕ) (has : Has g P C) (own : List Rational) where
  abbrev here : Board64 → View
  here b = core own [] [] b

  adds : (b : Board64) → b.steps + 1 < 2 ^ 31 →
      Runs g t 1 (Store (codes "a_steps") (number 0) (sum (first_of (codes "a_steps")) (number 1)) ∷ []) (here b) (here (record b { steps = b.steps + 1 }))
  adds b fits =
      let arrays = has.declared in
      let less = is_below (b.steps + 1) (2 ^ 31) fits in
      runs_straight g t 1 _ _ _ (λ rest target gives below. simp (forms, arrays, less))

  abbrev test : CExpr
  test = less (first_of (codes "a_steps")) (first_of (codes "a_limit"))

  tested : (b : Board64) (is : Bool) → nat_lt b.steps b.limit ≡ is → Is g t (here b) test (int_of is)
  tested b is e rest target gives = (let arrays = has.declared in simp (forms, arrays, e))

  pub limits : (b : Board64) (is : Bool) → nat_lt b.steps b.limit ≡ is →
      Runs g t 5 (if_else test [] (stops 3 ∷ []) ∷ []) (here b) (here (if is then b else stopped 3 None b))
  limits b true e = runs_longer g t 1 5 _ _ _ (omega arith) (if_runs g t 0 test [] (Some (stops 3 ∷ [])) (here b) (here b) (pos 1) (tested b true e) (runs_none g t (here b)))
  limits b false e = if_runs g t 4 test [] (Some (stops 3 ∷ [])) (here b) (here (stopped 3 None b)) (pos 0) (tested b false e) (stop_here g t P C has own [] [] b 3 (omega arith))

  count_body : (b : Board64) → b.steps + 1 < 2 ^ 31 → Runs g t 6 f_count.body.statements (here b) (here (counted b))
  count_body b fits = runs_on g t 1 5 _ _ _ _ _ (adds b fits) (limits (record b { steps = b.steps + 1 }) (nat_lt (b.steps + 1) b.limit) refl)

  pub call_count : (names : List Word) (values : List ℤ) (b : Board64) → b.steps + 1 < 2 ^ 31 →
      Runs g t 8 (call (codes "f_count") [] ∷ []) (core own names values b) (core own names values (counted b))
  call_count names values b fits =
      call_ends g t 6 (core own names values b) (here (counted b)) f_count (codes "f_count") [] []
      (named-function (codes "count")) (ap (function_among (codes "f_count")) has.functions) (λ rest target gives. refl) refl (count_body b fits)
