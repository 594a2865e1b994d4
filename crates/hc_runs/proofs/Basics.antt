-- Small laws of tests, and of lists of which one place is set.
use Rattle.std.proofs.Common.{◌≡◌, refl, ap, ℕ, zero, suc, Bool, true, false, ◌||◌, List, [], ◌∷◌, length, slice_set}

pub neither_of : (a b : Bool) → (a || b) ≡ false → (a ≡ false) × (b ≡ false)
neither_of true b h = cc
neither_of false b h = (refl, h)

module _ {A : Type 0} where
  pub length-set : (xs : List A) (p : ℕ) (v : A) → length (slice_set xs p v) ≡ length xs
  length-set [] p v = refl
  length-set (x ∷ xs) zero v = refl
  length-set (x ∷ xs) (suc p) v = ap suc (length-set xs p v)

  pub set_twice : (xs : List A) (p : ℕ) (v w : A) → slice_set (slice_set xs p v) p w ≡ slice_set xs p w
  set_twice [] p v w = refl
  set_twice (x ∷ xs) zero v w = refl
  set_twice (x ∷ xs) (suc p) v w = ap (λ l. x ∷ l) (set_twice xs p v w)
