-- Places of a list: changes at different places, at one place, and what a search finds.
use Rattle.std.proofs.Common.{◌≡◌, ◌≢◌, refl, sym, ap, subst, ℕ, zero, suc, ◌+◌, ◌-◌, ◌≤◌, List, [], ◌∷◌, slice_get, slice_set, Option, Some, arith}
use Rattle.hc_term.specs.declared.model.ProcessState.{ProcessState}
use Rattle.hc_term.specs.Step.{changed}

suc-≢ : (p q : ℕ) → suc p ≢ suc q → p ≢ q
suc-≢ p q d e = d (ap suc e)

module _ {A : Type 0} where
  -- a write leaves the other places
  pub get-set_other : (xs : List A) (p q : ℕ) (x : A) → p ≢ q → slice_get (slice_set xs p x) q ≡ slice_get xs q
  get-set_other [] p q x d = refl
  get-set_other (y ∷ xs) zero zero x d = absurd (d refl)
  get-set_other (y ∷ xs) zero (suc q) x d = refl
  get-set_other (y ∷ xs) (suc p) zero x d = refl
  get-set_other (y ∷ xs) (suc p) (suc q) x d = get-set_other xs p q x (suc-≢ p q d)

  pub set-set_other : (xs : List A) (p q : ℕ) (x y : A) → p ≢ q →
      slice_set (slice_set xs p x) q y ≡ slice_set (slice_set xs q y) p x
  set-set_other [] p q x y d = refl
  set-set_other (z ∷ xs) zero zero x y d = absurd (d refl)
  set-set_other (z ∷ xs) zero (suc q) x y d = refl
  set-set_other (z ∷ xs) (suc p) zero x y d = refl
  set-set_other (z ∷ xs) (suc p) (suc q) x y d = ap (λ l. z ∷ l) (set-set_other xs p q x y (suc-≢ p q d))

module _ (f : ProcessState → ProcessState) where
  pub get-changed_other : (xs : List ProcessState) (p q : ℕ) → p ≢ q → slice_get (changed f p xs) q ≡ slice_get xs q
  get-changed_other [] p q d = refl
  get-changed_other (y ∷ xs) zero zero d = absurd (d refl)
  get-changed_other (y ∷ xs) zero (suc q) d = refl
  get-changed_other (y ∷ xs) (suc p) zero d = refl
  get-changed_other (y ∷ xs) (suc p) (suc q) d = get-changed_other xs p q (suc-≢ p q d)

  pub changed-set_other : (xs : List ProcessState) (p q : ℕ) (x : ProcessState) → p ≢ q →
      changed f p (slice_set xs q x) ≡ slice_set (changed f p xs) q x
  changed-set_other [] p q x d = refl
  changed-set_other (y ∷ xs) zero zero x d = absurd (d refl)
  changed-set_other (y ∷ xs) zero (suc q) x d = refl
  changed-set_other (y ∷ xs) (suc p) zero x d = refl
  changed-set_other (y ∷ xs) (suc p) (suc q) x d = ap (λ l. y ∷ l) (changed-set_other xs p q x (suc-≢ p q d))

-- ---- one place

module _ {A : Type 0} where
  pub get-set_same : (xs : List A) (p : ℕ) (old x : A) → slice_get xs p ≡ Some old →
      slice_get (slice_set xs p x) p ≡ Some x
  get-set_same [] p old x e = cc
  get-set_same (y ∷ xs) zero old x e = refl
  get-set_same (y ∷ xs) (suc p) old x e = get-set_same xs p old x e

  pub set_back : (xs : List A) (p : ℕ) (x : A) → slice_get xs p ≡ Some x → slice_set xs p x ≡ xs
  set_back [] p x e = refl
  set_back (y ∷ xs) zero x e = let same : y ≡ x = cc in ap (λ z. z ∷ xs) (sym same)
  set_back (y ∷ xs) (suc p) x e = ap (λ l. y ∷ l) (set_back xs p x e)

-- ---- the place of what a search from a number on finds

module _ {A : Type 0} (P : Option A → Type 0) where
  -- P holds of what stands at number k of a list that begins with number `from`
  pub record StandsAt (from : ℕ) (xs : List A) (k : ℕ) : Type 0 where
    pub stands : P (slice_get xs (k - from))
    pub behind : from ≤ k

  pub stands_here : (from : ℕ) (x : A) (xs : List A) → P (Some x) → StandsAt from (x ∷ xs) from
  stands_here from x xs h =
      let none : from - from ≡ 0 = omega arith in
      record { stands = subst (λ (n : ℕ). P (slice_get (x ∷ xs) n)) (sym none) h; behind = omega arith }

  pub stands_later : (from k : ℕ) (x : A) (xs : List A) → StandsAt (from + 1) xs k → StandsAt from (x ∷ xs) k
  stands_later from k x xs h =
      let next : k - from ≡ suc (k - (from + 1)) = omega (arith, h.behind) in
      let there = subst (λ (n : ℕ). P (slice_get (x ∷ xs) n)) (sym next) h.stands in
      record { stands = there; behind = omega (arith, h.behind) }

  pub stands_at : (xs : List A) (k : ℕ) → StandsAt 0 xs k → P (slice_get xs k)
  stands_at xs k h =
      let same : k - 0 ≡ k = omega arith in
      subst (λ (n : ℕ). P (slice_get xs n)) same h.stands
