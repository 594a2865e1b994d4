-- One case more.
use Rattle.std.specs.Prelude.{◌≡◌, ◌<◌, ℕ, zero, suc, ◌+◌, Bool, true, List, [], ◌∷◌, ◌++◌, length, take, slice_get, slice_index_or, ℤ, pos, Some}
use Rattle.std.specs.List.{list_all}
use Rattle.std.proofs.Common.{refl, sym, ap, ap₂, ◌∙◌, subst, arith}
use Rattle.std.proofs.lemmas.Bool.{and_parts}
use Rattle.std.proofs.lemmas.List.{take_more, length-take-le}
use Rattle.std.proofs.lemmas.Option.{same_Some}
use Rattle.hc_code.specs.declared.code.Instr.{Instr}
use Rattle.hc_cast.specs.declared.stmt.CStmt.{CStmt}
use Rattle.hc_cast.specs.declared.stmt.CCase.{CCase, roll-CCase}
use Rattle.hc_clogic.specs.Cases.{case_of, cases_from}
use Rattle.hc_cstep.specs.Parts.{Parts}
use Rattle.hc_cstep.specs.Written.{cases_of, case_of as instr_case}

-- what is at a place
pub found_there : {I : Type 0} (xs : List I) (n : ℕ) (x : I) → slice_get xs n ≡ Some x → x ≡ slice_index_or xs n x
found_there [] n x e = absurd cc
found_there (y ∷ ys) zero x e = sym (same_Some y x e)
found_there (y ∷ ys) (suc n) x e = found_there ys n x e

pub all_there : {I : Type 0} (f : I → Bool) (xs : List I) (n : ℕ) (x : I) → list_all f xs ≡ true → slice_get xs n ≡ Some x → f x ≡ true
all_there f [] n x h e = absurd cc
all_there f (y ∷ ys) zero x h e = subst (λ (z : _). f z ≡ true) (same_Some y x e) (and_parts (f y) (list_all f ys) h).0
all_there f (y ∷ ys) (suc n) x h e = all_there f ys n x (and_parts (f y) (list_all f ys) h).1 e

pub cases_append : {I : Type 0} (f : ℕ → I → List CStmt) (from : ℕ) (xs : List I) (x : I) →
    cases_from f from (xs ++ x ∷ []) ≡ cases_from f from xs ++ case_of (from + length xs) (f (from + length xs) x) ∷ []
cases_append f from [] x = let same : from ≡ from + 0 = omega arith in subst (λ (n : ℕ). case_of from (f from x) ∷ [] ≡ case_of n (f n x) ∷ []) same refl
cases_append f from (y ∷ ys) x =
    let same : suc from + length ys ≡ from + length (y ∷ ys) = omega arith in
    ap (λ (cs : List CCase). case_of from (f from y) ∷ cs)
    (
    cases_append f (suc from) ys x
    ∙ ap (λ (n : ℕ). cases_from f (suc from) ys ++ case_of n (f n x) ∷ []) same
    )

-- the cases of one place more
pub one_more_case : (c : Parts) (p seed : ℕ) (code : List Instr) (place : ℕ) (i : Instr) (before after : List CCase) (body : List CStmt) (number : ℤ) → place < length code →
    i ≡ slice_index_or code place i → before ≡ cases_of c p seed (take place code) → body ≡ instr_case c p seed i → number ≡ pos place →
    after ≡ before ++ roll-CCase (record { number = number; body = body }) ∷ [] → after ≡ cases_of c p seed (take (place + 1) code)
one_more_case c p seed code place i before after body number less is h k n j =
    let here : ℕ → Instr → List CStmt = λ (at : ℕ) (x : Instr). instr_case c p seed x in
    let front : take (place + 1) code ≡ take place code ++ i ∷ [] = take_more code place i less ∙ ap (λ (x : Instr). take place code ++ x ∷ []) (sym is) in
    let wide : 0 + length (take place code) ≡ place = let h = length-take-le place code (omega (arith, less)) in omega (arith, h) in
    let last : roll-CCase (record { number = number; body = body }) ≡ case_of place (instr_case c p seed i) =
    ap₂ (λ (z : ℤ) (ss : List CStmt). roll-CCase (record { number = z; body = ss })) n k in
    let same : cases_of c p seed (take place code ++ i ∷ []) ≡ cases_of c p seed (take place code) ++ case_of place (instr_case c p seed i) ∷ [] =
    cases_append here 0 (take place code) i ∙ ap (λ (at : ℕ). cases_of c p seed (take place code) ++ case_of at (instr_case c p seed i) ∷ []) wide in
    j ∙ ap₂ (λ (cs : List CCase) (x : CCase). cs ++ x ∷ []) h last ∙ sym same ∙ ap (cases_of c p seed) (sym front)
