-- f_stop and f_count: an end line, and one more step.
use Rattle.std.specs.Prelude.{◌≡◌, ◌<◌, ◌+◌, ◌^◌, ℕ, true, nat_lt, List, [], ◌∷◌, ℤ, pos, negsuc, None, codes}
use Rattle.std.proofs.Common.{refl, ap, arith}
use Rattle.hc_rational.specs.Words.{Rational}
use Rattle.hc_cast.specs.declared.program.CProgram.{CProgram}
use Rattle.hc_cast.specs.declared.expr.CExpr.{CExpr}
use Rattle.hc_cmach.specs.State.{Word, function_among}
use Rattle.hc_cmach.proofs.Named.{named-function}
use Rattle.hc_cmach.proofs.Worths.{forms}
use Rattle.hc_clogic.specs.Runs.{Runs, Are}
use Rattle.hc_clogic.proofs.Runs.{call_ends, runs_straight}
use Rattle.hc_core_c.specs.Twin.{Board64, stopped}
use Rattle.hc_cbuild.specs.Written.{call}
use Rattle.hc_core_c.specs.Code.{k, w, f_stop, f_count, stops}
use Rattle.hc_core_c.proofs.Base.{is_below}
use Rattle.hc_core_c.specs.Owner.{core, Has}

module _ (g : CProgram) (t P C : ℕ) (has : Has g P C) (own : List Rational) where
  abbrev stop_names : List Word
  stop_names = k ∷ w ∷ []

  stop_body : (b : Board64) (n : ℕ) → n < 5 →
      Runs g t 2 f_stop.body.statements (core own stop_names (pos n ∷ negsuc 0 ∷ []) b) (core own stop_names (pos n ∷ negsuc 0 ∷ []) (stopped n None b))
  stop_body b n low =
      let kind : nat_lt n 5 ≡ true = is_below n 5 low in
      let fits : nat_lt (n + 1) (2 ^ 31) ≡ true = is_below (n + 1) (2 ^ 31) (omega (arith, low)) in
      let arrays = has.declared in
      runs_straight g t 2 f_stop.body.statements _ _ (λ rest target gives below. simp (forms, kind, fits, arrays))

  abbrev pub stop_cost : ℕ
  stop_cost = 4

  pub call_stop : (names : List Word) (values : List ℤ) (b : Board64) (es : List CExpr) (n : ℕ) → n < 5 → Are g t (core own names values b) es (pos n ∷ negsuc 0 ∷ []) →
      Runs g t stop_cost (call (codes "f_stop") es ∷ []) (core own names values b) (core own names values (stopped n None b))
  call_stop names values b es n low are =
      call_ends g t 2 (core own names values b) _ f_stop (codes "f_stop") es (pos n ∷ negsuc 0 ∷ []) (named-function (codes "stop")) (ap (function_among (codes "f_stop")) has.functions) are refl
      (stop_body b n low)

  pub stop_here : (names : List Word) (values : List ℤ) (b : Board64) (n : ℕ) → n < 5 →
      Runs g t stop_cost (stops n ∷ []) (core own names values b) (core own names values (stopped n None b))
  stop_here names values b n low = call_stop names values b _ n low (λ rest target gives. simp forms)
