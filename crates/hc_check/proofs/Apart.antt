-- No two elements of a list are alike, where each differs from those before it.
use Rattle.std.proofs.Common.{◌≡◌, refl, ap, ◌∙◌, Bool, true, false, not, ◌||◌, IsTrue, List, [], ◌∷◌, ◌++◌, map}
use Rattle.std.specs.List.{list_any}
use Rattle.std.proofs.lemmas.List.Folds.{list_any-append}
use Rattle.hc_modules.proofs.Induction.{Each}
use Rattle.hc_term.specs.Profile.{all_apart}
use Rattle.hc_check.proofs.EachLists.{both, neither}

or_true : (b : Bool) → (b || true) ≡ true
or_true true = refl
or_true false = refl

-- each differs from those before it, behind others
abbrev pub Differ : {X : Type 0} → (X → X → Bool) → List X → List X → Type 0
Differ alike earlier [] = Unit {0}
Differ alike earlier (x ∷ xs) = (list_any (λ y. alike y x) earlier ≡ false) × Differ alike (earlier ++ x ∷ []) xs

module _ {X Y : Type 0} (alike : X → X → Bool) (same : Y → Y → Bool) (f : X → Y) (Good : X → Type 0)
    (agree : (x y : X) → Good x → Good y → same (f x) (f y) ≡ alike x y) where
  -- an element is among those
  abbrev IsIn : X → List X → Type 0
  IsIn x xs = (test : X → Bool) → test x ≡ true → list_any test xs ≡ true

  in_more : (x : X) (xs ys : List X) → IsIn x xs → IsIn x (xs ++ ys)
  in_more x xs ys h test e = list_any-append test xs ys ∙ ap (λ b. b || list_any test ys) (h test e)

  in_last : (x : X) (xs : List X) → IsIn x (xs ++ x ∷ [])
  in_last x xs test e = list_any-append test xs (x ∷ []) ∙ ap (λ b. list_any test xs || (b || false)) e ∙ or_true (list_any test xs)

  unlike : (x y : X) (earlier : List X) → IsIn x earlier → list_any (λ z. alike z y) earlier ≡ false → alike x y ≡ false
  unlike x y earlier h none = by (alike x y) refl
    where
      by : (b : Bool) → alike x y ≡ b → alike x y ≡ false
      by false e = e
      by true e = let some = h (λ z. alike z y) e in absurd (cc (some, none))

  differs_later : (x : X) (earlier xs : List X) → IsIn x earlier → Good x → Each Good xs → Differ alike earlier xs
      → list_any (same (f x)) (map f xs) ≡ false
  differs_later x earlier [] h good goods d = refl
  differs_later x earlier (y ∷ ys) h good goods d =
      neither (agree x y good goods.0 ∙ unlike x y earlier h d.0)
      (differs_later x (earlier ++ y ∷ []) ys (in_more x earlier (y ∷ []) h) good goods.1 d.1)

  pub apart : (earlier xs : List X) → Each Good xs → Differ alike earlier xs → IsTrue (all_apart same (map f xs))
  apart earlier [] goods d = refl
  apart earlier (x ∷ xs) goods d =
      both (ap not (differs_later x (earlier ++ x ∷ []) xs (in_last x earlier) goods.0 goods.1 d.1)) (apart (earlier ++ x ∷ []) xs goods.1 d.1)
