-- f_idle tells whether a thread is to wait.
use Rattle.std.specs.Prelude.{◌≡◌, ◌<◌, ◌+◌, ℕ, Bool, true, not, ◌&&◌, nat_lt, List, [], ◌∷◌, ℤ, pos, Option, Some, codes}
use Rattle.std.proofs.Common.{refl, ap, ◌∙◌}
use Rattle.hc_rational.specs.Words.{Rational}
use Rattle.hc_cast.specs.declared.program.CProgram.{CProgram}
use Rattle.hc_cast.specs.declared.program.CFunction.{CFunction}
use Rattle.hc_cast.specs.declared.expr.CExpr.{CExpr}
use Rattle.hc_cast.specs.declared.stmt.CStmt.TheVariants.{Call}
use Rattle.hc_cmach.specs.State.{Word, function_among}
use Rattle.hc_cmach.specs.Expression.{int_of}
use Rattle.hc_cmach.proofs.Named.{named-function}
use Rattle.hc_cmach.proofs.Worths.{forms}
use Rattle.hc_clogic.specs.Runs.{View, Runs, Is, Are, kept}
use Rattle.hc_clogic.proofs.Runs.{call_runs}
use Rattle.hc_cbuild.specs.Written.{number, local, element, first_of, less, both, below_one, take_call}
use Rattle.hc_core_c.specs.Twin.{Board64, nth, able}
use Rattle.hc_core_c.specs.Code.{p, x}
use Rattle.hc_core_c.proofs.Base.{is_below, element_is, both_is}
use Rattle.hc_core_c.specs.Owner.{core, Has}
use Rattle.hc_core_c.proofs.Elapse.{none_is}
use Rattle.hc_core_c.proofs.Able.{call_able}
use Rattle.hc_csection.specs.Entering.{idle}
use Rattle.hc_csection.specs.Code.{f_idle, HasSections}

module _ (g : CProgram) (t P C : ℕ) (with_sections : HasSections g P C) (own : List Rational) (process : ℕ) (low : process < P) where
  abbrev has : Has g P C
  has = with_sections.has

  abbrev here : ℤ → Board64 → View
  here z b = core own (p ∷ x ∷ []) (pos process ∷ z ∷ []) b

  stop_is : (z : ℤ) (b : Board64) (is : Bool) → nat_lt b.stop 1 ≡ is → Is g t (here z b) (below_one (first_of (codes "a_stop"))) (int_of is)
  stop_is z b is h rest target gives = (let arrays = has.declared in simp (forms, arrays, h))

  phase_is : (z : ℤ) (b : Board64) (is : Bool) → nat_lt (nth b.phase process) 2 ≡ is → Is g t (here z b) (less (element (codes "a_phase") (local p)) (number 2)) (int_of is)
  phase_is z b is h rest target gives =
      (let arrays = has.declared in let inside : nat_lt process P ≡ true = is_below process P low in simp (forms, arrays, inside, element_is, h))

  abbrev answer : CExpr
  answer = both (both (below_one (first_of (codes "a_stop"))) (below_one (local x))) (less (element (codes "a_phase") (local p)) (number 2))

  answer_is : (b : Board64) → Is g t (here (int_of (able b process)) b) answer (int_of (idle b process))
  answer_is b =
      both_is g t (here (int_of (able b process)) b) (both (below_one (first_of (codes "a_stop"))) (below_one (local x))) (less (element (codes "a_phase") (local p)) (number 2))
      (nat_lt b.stop 1 && not (able b process)) (nat_lt (nth b.phase process) 2)
      (
      both_is g t (here (int_of (able b process)) b) (below_one (first_of (codes "a_stop"))) (below_one (local x)) (nat_lt b.stop 1) (not (able b process))
      (stop_is (int_of (able b process)) b _ refl)
      (none_is g t (here (int_of (able b process)) b) x (able b process) (λ rest target gives. simp forms))
      )
      (phase_is (int_of (able b process)) b _ refl)

  found : function_among (codes "f_idle") g.functions ≡ Some f_idle
  found =
      ap (function_among (codes "f_idle")) has.functions
      ∙ ap (λ (fs : List CFunction). function_among (codes "f_idle") fs) with_sections.sections

  -- A call of f_idle by the owner of the mutex, whichever local take_call the answer.
  pub call_idle : (names : List Word) (values : List ℤ) (b : Board64) (result : Option Word) (e : CExpr) → Are g t (core own names values b) (e ∷ []) (pos process ∷ []) →
      Runs g t (1 + (3 + 1)) (Call result (codes "f_idle") (e ∷ []) ∷ []) (core own names values b)
      (core own names (kept (core own names values b) result (int_of (idle b process))) b)
  call_idle names values b result e are =
      call_runs g t 3 (core own names values b) (here (int_of (able b process)) b) f_idle result (codes "f_idle") (e ∷ []) (pos process ∷ []) (take_call x (codes "f_able") (local p ∷ []) ∷ [])
      answer (int_of (idle b process)) (named-function (codes "idle")) found are refl
      (call_able g t P C has own process low (p ∷ x ∷ []) (pos process ∷ pos 0 ∷ []) b (Some x) (local p) (λ rest target gives. simp forms))
      (answer_is b)
