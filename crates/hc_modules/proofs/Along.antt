-- Steps along a list, where each element is looked at with those before it.
use Rattle.std.proofs.Common.{◌≡◌, refl, ap, sym, ◌∙◌, ℕ, ◌+◌, ◌<◌, Bool, true, false, List, [], ◌∷◌, ◌++◌, take, drop, get_or, length, find, flat_map, Option, Some, None, Result, Ok, Err, cond, add-one}
use Rattle.std.proofs.Math.Seq.{drop-cons}
use Rattle.std.proofs.lemmas.List.{take_more}
use Rattle.hc_frac.specs.declared.place.Place.{Place}
use Rattle.hc_ast.specs.declared.expr.ExprTree.{ExprTree}
use Rattle.hc_ast.specs.declared.tree.Param.{Param}
use Rattle.hc_modules.specs.Finds.{along, only_if, is_misfit, misfits}
use Rattle.hc_modules.specs.Found.{first_of}

module _ {X : Type 0} (look : List X → X → List Place) where
  -- the element at i, and then what is behind it
  pub along-at : (xs : List X) (i : ℕ) (d : X) → i < length xs
      → along look (take i xs) (drop i xs) ≡ look (take i xs) (get_or xs i d) ++ along look (take (i + 1) xs) (drop (i + 1) xs)
  along-at xs i d h =
      let e : drop i xs ≡ get_or xs i d ∷ drop (i + 1) xs = drop-cons xs i d h ∙ ap (λ j. get_or xs i d ∷ drop j xs) (sym (add-one i)) in
      ap (along look (take i xs)) e ∙ ap (λ b. look (take i xs) (get_or xs i d) ++ along look b (drop (i + 1) xs)) (sym (take_more xs i d h))

module _ {X : Type 0} (test : List X → X → Bool) (place : X → Place) where
  abbrev looked : List X → X → List Place
  looked before x = only_if (test before x) (place x)

  ahead : (xs : List X) (i : ℕ) (x : X) → i < length xs → x ≡ get_or xs i x → (answer : Bool) → answer ≡ test (take i xs) x
      → first_of (along looked (take i xs) (drop i xs))
      ≡ first_of (only_if answer (place x) ++ along looked (take (i + 1) xs) (drop (i + 1) xs))
  ahead xs i x h is answer e =
      ap first_of (along-at looked xs i x h)
      ∙ ap (λ y. first_of (looked (take i xs) y ++ along looked (take (i + 1) xs) (drop (i + 1) xs))) (sym is)
      ∙ ap (λ b. first_of (only_if b (place x) ++ along looked (take (i + 1) xs) (drop (i + 1) xs))) (sym e)

  -- it is found where the test holds
  pub found_at : (xs : List X) (i : ℕ) (x : X) → i < length xs → x ≡ get_or xs i x → (answer : Bool) → answer ≡ test (take i xs) x
      → answer ≡ true → Err (place x) ≡ first_of (along looked (take i xs) (drop i xs))
  found_at xs i x h is answer e f =
      sym (ahead xs i x h is answer e ∙ ap (λ b. first_of (only_if b (place x) ++ along looked (take (i + 1) xs) (drop (i + 1) xs))) f)

  -- and passed where it doesn't
  pub passed_at : (xs : List X) (i : ℕ) (x : X) → i < length xs → x ≡ get_or xs i x → (answer : Bool) → answer ≡ test (take i xs) x
      → answer ≡ false → first_of (along looked (take i xs) (drop i xs)) ≡ first_of (along looked (take (i + 1) xs) (drop (i + 1) xs))
  passed_at xs i x h is answer e f =
      ahead xs i x h is answer e ∙ ap (λ b. first_of (only_if b (place x) ++ along looked (take (i + 1) xs) (drop (i + 1) xs))) f

-- the place of an argument that is found
abbrev pub of_misfit : Option (Param × ExprTree) → Result (Unit {0}) Place
of_misfit None = Ok tt
of_misfit (Some b) = Err b.1.place

pub first_misfit : (bs : List (Param × ExprTree)) → of_misfit (find (λ b. is_misfit b.0.kind b.1) bs) ≡ first_of (flat_map misfits bs)
first_misfit [] = refl
first_misfit (b ∷ bs) = at (is_misfit b.0.kind b.1) (first_misfit bs)
  where
    at : (x : Bool) → of_misfit (find (λ b. is_misfit b.0.kind b.1) bs) ≡ first_of (flat_map misfits bs)
        → of_misfit (cond x (Some b) (find (λ b. is_misfit b.0.kind b.1) bs)) ≡ first_of (only_if x b.1.place ++ flat_map misfits bs)
    at true h = refl
    at false h = h
