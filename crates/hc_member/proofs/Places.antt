-- What stands at the places of a list, where one of them is set and where all are mapped.
use Rattle.std.proofs.Common.{◌≡◌, ◌≢◌, refl, ap, ◌∙◌, ℕ, zero, suc, List, [], ◌∷◌, map, length, slice_get, slice_set, Some, ◌⊎◌, inl, inr, arith}
use Rattle.std.specs.Option.{option_map}
use Rattle.std.proofs.lemmas.Option.{slice_get-map}
use Rattle.hc_term.specs.declared.model.ProcessState.{ProcessState}
use Rattle.hc_term.specs.Step.{changed}

module _ {A : Type 0} where
  -- what stands at place k after x was put at place p: x there, and elsewhere what stood there

  pub is_set : (xs : List A) (p k : ℕ) (x y : A) → slice_get (slice_set xs p x) k ≡ Some y →
      ((k ≡ p) × (x ≡ y)) ⊎ ((k ≢ p) × (slice_get xs k ≡ Some y))
  is_set [] p k x y e = cc
  is_set (z ∷ xs) zero zero x y e = inl (refl, cc)
  is_set (z ∷ xs) zero (suc k) x y e = inr ((λ f. cc), e)
  is_set (z ∷ xs) (suc p) zero x y e = inr ((λ f. cc), e)
  is_set (z ∷ xs) (suc p) (suc k) x y e = later (is_set xs p k x y e) where
    later : ((k ≡ p) × (x ≡ y)) ⊎ ((k ≢ p) × (slice_get xs k ≡ Some y)) →
        ((suc k ≡ suc p) × (x ≡ y)) ⊎ ((suc k ≢ suc p) × (slice_get xs k ≡ Some y))
    later (inl h) = inl (ap suc h.0, h.1)
    later (inr h) = inr ((λ f. h.0 cc), h.1)

  -- where two lists are equally long, what stands at a place of one has something beside it in the other
  pub beside : {B : Type 0} (xs : List A) (ys : List B) (p : ℕ) (x : A) → length xs ≡ length ys → slice_get xs p ≡ Some x →
      (y : B) × (slice_get ys p ≡ Some y)
  beside [] ys p x same e = cc
  beside (z ∷ xs) [] p x same e = cc
  beside (z ∷ xs) (y ∷ ys) zero x same e = (y, refl)
  beside {B = B} (z ∷ xs) (y ∷ ys) (suc p) x same e =
      let shorter : length xs ≡ length ys = omega (arith, same) in
      beside xs ys p x shorter e

pub mapped_at : {A B : Type 0} (f : A → B) (xs : List A) (n : ℕ) (x : A) → slice_get xs n ≡ Some x → slice_get (map f xs) n ≡ Some (f x)
mapped_at f xs n x e = slice_get-map f xs n ∙ ap (option_map f) e

-- a change of one process sets its place
pub changed_sets : (f : ProcessState → ProcessState) (qs : List ProcessState) (p : ℕ) (q : ProcessState) →
    slice_get qs p ≡ Some q → changed f p qs ≡ slice_set qs p (f q)
changed_sets f [] p q e = cc
changed_sets f (r ∷ qs) zero q e = let same : r ≡ q = cc in ap (λ (x : ProcessState). f x ∷ qs) same
changed_sets f (r ∷ qs) (suc p) q e = ap (λ (l : List ProcessState). r ∷ l) (changed_sets f qs p q e)
