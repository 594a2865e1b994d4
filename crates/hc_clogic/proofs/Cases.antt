-- Of a switch over generated cases exactly one runs: that of the number's place, and behind the last the default.
use Rattle.std.specs.Prelude.{◌≡◌, ◌≤◌, ℕ, zero, suc, ◌+◌, Bool, true, false, if◌then◌else◌, List, [], ◌∷◌, length, slice_get, ℤ, pos, Some}
use Rattle.std.specs.Ordering.{int_eq}
use Rattle.std.proofs.Common.{refl, sym, ap, ap₂, ◌∙◌, subst, arith}
use Rattle.std.proofs.lemmas.Int.{ints}
use Rattle.std.proofs.lemmas.Bool.Decides.{nat_tests}
use Rattle.std.proofs.lemmas.Option.{same_Some}
use Rattle.hc_cast.specs.declared.expr.CExpr.{CExpr}
use Rattle.hc_cast.specs.declared.stmt.CStmt.{CStmt}
use Rattle.hc_cast.specs.declared.stmt.CStmt.TheVariants as a
use Rattle.hc_cast.specs.declared.stmt.CStmt.TheViews.{out-roll-CCase}
use Rattle.hc_cast.specs.declared.stmt.CCase.{CCase}
use Rattle.hc_cast.specs.declared.program.CProgram.{CProgram}
use Rattle.hc_cmach.specs.Turn.{case_for}
use Rattle.hc_clogic.specs.Runs.{View, Runs, Is}
use Rattle.hc_clogic.proofs.Runs.{switch_runs}
use Rattle.hc_clogic.specs.Cases.{case_of, cases_from}

same_number : (n : ℕ) → int_eq (pos n) (pos n) ≡ true
same_number n = grind (arith, ints, nat_tests)

other_number : (from k : ℕ) → int_eq (pos (from + suc k)) (pos from) ≡ false
other_number from k = grind (arith, ints, nat_tests)

-- the case in front, and those behind it
chosen_case : (z : ℤ) (n : ℕ) (body : List CStmt) (cs : List CCase) (otherwise : List CStmt) →
    case_for z (case_of n body ∷ cs) otherwise ≡ (if int_eq z (pos n) then body else case_for z cs otherwise)
chosen_case z n body cs otherwise =
    ap (λ x. if int_eq z x.number then x.body else case_for z cs otherwise) (out-roll-CCase (record { number = pos n; body = body }))

pick : (b : Bool) (x y : List CStmt) → b ≡ true → (if b then x else y) ≡ x
pick true x y e = refl
pick false x y e = absurd cc

skip : (b : Bool) (x y : List CStmt) → b ≡ false → (if b then x else y) ≡ y
skip false x y e = refl
skip true x y e = absurd cc

module _ {I : Type 0} (f : ℕ → I → List CStmt) (otherwise : List CStmt) where
  pub case_there : (k from : ℕ) (xs : List I) (x : I) → slice_get xs k ≡ Some x →
      case_for (pos (from + k)) (cases_from f from xs) otherwise ≡ f (from + k) x
  case_there k from [] x e = absurd cc
  case_there zero from (y ∷ xs) x e =
      let here : from + 0 ≡ from = omega arith in
      ap (λ (n : ℕ). case_for (pos n) (cases_from f from (y ∷ xs)) otherwise) here
      ∙ chosen_case (pos from) from (f from y) (cases_from f (suc from) xs) otherwise
      ∙ pick (int_eq (pos from) (pos from)) _ _ (same_number from)
      ∙ ap₂ f (sym here) (same_Some y x e)
  case_there (suc k) from (y ∷ xs) x e =
      let next : suc from + k ≡ from + suc k = omega arith in
      chosen_case (pos (from + suc k)) from (f from y) (cases_from f (suc from) xs) otherwise
      ∙ skip (int_eq (pos (from + suc k)) (pos from)) _ _ (other_number from k)
      ∙ ap (λ (n : ℕ). case_for (pos n) (cases_from f (suc from) xs) otherwise) (sym next)
      ∙ case_there k (suc from) xs x e
      ∙ ap (λ (n : ℕ). f n x) next

  -- behind the last case the default runs
  pub case_beyond : (k from : ℕ) (xs : List I) → length xs ≤ k → case_for (pos (from + k)) (cases_from f from xs) otherwise ≡ otherwise
  case_beyond k from [] less = refl
  case_beyond zero from (y ∷ xs) less = absurd (omega (arith, less))
  case_beyond (suc k) from (y ∷ xs) less =
      let next : suc from + k ≡ from + suc k = omega arith in
      let less' : length xs ≤ k = omega (arith, less) in
      chosen_case (pos (from + suc k)) from (f from y) (cases_from f (suc from) xs) otherwise
      ∙ skip (int_eq (pos (from + suc k)) (pos from)) _ _ (other_number from k)
      ∙ ap (λ (n : ℕ). case_for (pos n) (cases_from f (suc from) xs) otherwise) (sym next)
      ∙ case_beyond k (suc from) xs less'

  -- so a switch over them, numbered from 0, runs the k-th
  module _ (g : CProgram) (t : ℕ) where
    pub case_runs : (n k : ℕ) (on : CExpr) (xs : List I) (x : I) (v w : View) → Is g t v on (pos k) → slice_get xs k ≡ Some x → Runs g t n (f k x) v w →
        Runs g t (1 + n) (a.Switch on (cases_from f 0 xs) otherwise ∷ []) v w
    case_runs n k on xs x v w is e h =
        let same : 0 + k ≡ k = omega arith in
        let there : case_for (pos k) (cases_from f 0 xs) otherwise ≡ f k x =
        ap (λ (i : ℕ). case_for (pos i) (cases_from f 0 xs) otherwise) (sym same) ∙ case_there k 0 xs x e ∙ ap (λ (i : ℕ). f i x) same in
        switch_runs g t n on (cases_from f 0 xs) otherwise v w (pos k) is (subst (λ (ss : List CStmt). Runs g t n ss v w) (sym there) h)
