-- A list whose first elements are changed.
use Rattle.std.proofs.Common.{◌≡◌, ◌<◌, ◌≤◌, ℕ, zero, suc, Bool, true, List, [], ◌∷◌, length, map, refl, ap, arith}
use Rattle.std.proofs.Math.ListN.{set, get_or}
use Rattle.std.specs.List.{list_all}
use Rattle.std.proofs.lemmas.Bool.{and_parts}

module _ {A : Type 0} (f : A → A) where
  -- f at the first n elements
  abbrev pub front : ℕ → List A → List A
  front zero xs = xs
  front (suc n) [] = []
  front (suc n) (x ∷ xs) = f x ∷ front n xs

  pub length-front : (n : ℕ) (xs : List A) → length (front n xs) ≡ length xs
  length-front zero xs = refl
  length-front (suc n) [] = refl
  length-front (suc n) (x ∷ xs) = ap suc (length-front n xs)

  pub get_or-front : (n : ℕ) (xs : List A) (d : A) → get_or (front n xs) n d ≡ get_or xs n d
  get_or-front zero xs d = refl
  get_or-front (suc n) [] d = refl
  get_or-front (suc n) (x ∷ xs) d = get_or-front n xs d

  pub set-front : (n : ℕ) (xs : List A) (d : A) → n < length xs → set (front n xs) n (f (get_or xs n d)) ≡ front (suc n) xs
  set-front n [] d h = absurd (omega arith)
  set-front zero (x ∷ xs) d h = refl
  set-front (suc n) (x ∷ xs) d h = ap (λ ys. f x ∷ ys) (set-front n xs d (omega arith))

  pub front-all : (n : ℕ) (xs : List A) → length xs ≤ n → front n xs ≡ map f xs
  front-all zero [] h = refl
  front-all zero (x ∷ xs) h = absurd (omega arith)
  front-all (suc n) [] h = refl
  front-all (suc n) (x ∷ xs) h = ap (λ ys. f x ∷ ys) (front-all n xs (omega arith))

-- where a test holds of all elements, it holds of the one at a place
pub all-get_or : {X : Type 0} (test : X → Bool) (xs : List X) (p : ℕ) (d : X) → p < length xs → list_all test xs ≡ true →
    test (get_or xs p d) ≡ true
all-get_or test [] p d b h = absurd (omega arith)
all-get_or test (y ∷ ys) zero d b h = (and_parts _ _ h).0
all-get_or test (y ∷ ys) (suc p) d b h = all-get_or test ys p d (omega arith) (and_parts _ _ h).1
