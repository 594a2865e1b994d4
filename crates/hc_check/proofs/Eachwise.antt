-- What each element of a list has: of lists in a row, of equal lists, and for many questions.
use Rattle.std.proofs.Common.{◌≡◌, subst, List, [], ◌∷◌, ◌++◌}
use Rattle.hc_modules.proofs.Induction.{Each}

module _ {X : Type 0} (P : X → Type 0) where
  pub each-append : (xs ys : List X) → Each P xs → Each P ys → Each P (xs ++ ys)
  each-append [] ys h k = k
  each-append (x ∷ xs) ys h k = (h.0, each-append xs ys h.1 k)

  -- of equal lists
  pub each-same : (xs ys : List X) → xs ≡ ys → Each P xs → Each P ys
  each-same xs ys e h = subst (λ zs. Each P zs) e h

-- for each of these questions
pub each-all : {X Y : Type 0} (Q : Y → X → Type 0) (xs : List X) → ((y : Y) → Each (Q y) xs) → Each (λ x. (y : Y) → Q y x) xs
each-all Q [] h = tt
each-all Q (x ∷ xs) h = ((λ y. (h y).0), each-all Q xs (λ y. (h y).1))
