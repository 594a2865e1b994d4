-- Lists from which one element is taken, and into which one is put; and how long a list of different numbers is.
use Rattle.std.proofs.Common.{◌≡◌, ◌≢◌, ◌<◌, ◌≤◌, ◌⊎◌, ℕ, zero, suc, ◌+◌, ◌-◌, List, [], ◌∷◌, length, get_or, insert, remove, All, AllPairs, Contains, sym, ap, subst, ◌∙◌, inl, inr, arith}
use Rattle.std.specs.List.{AllWithin}
use Rattle.std.proofs.lemmas.Bool.{cases_eq, cases_lt}
use Rattle.std.proofs.lemmas.List.{get_or_default}
use Rattle.std.proofs.lemmas.List.Edits.{length-insert, get_or-insert_below, get_or-insert_at, get_or-insert_above, length-remove, get_or-remove_below, get_or-remove_above}
use Rattle.std.proofs.lemmas.List.Quantifiers.{all_pairs_remove}

module _ {X : Type 0} where
  -- ---- one element less

  -- where an element stood before
  pub record Stood (xs : List X) (i k : ℕ) (d : X) : Type 0 where
    pub at : ℕ
    pub there : at < length xs
    pub apart : at ≢ i
    pub same : get_or (remove xs i) k d ≡ get_or xs at d

  pub stood : (xs : List X) (i k : ℕ) (d : X) → i < length xs → k < length (remove xs i) → Stood xs i k d
  stood xs i k d low within =
      let long = length-remove xs i low in
      elim (cases_lt k i) [
        | inl below ↦ record { at = k; there = omega (arith, long, within); apart = λ e. omega (arith, e, below); same = get_or-remove_below xs i d k below low }
        | inr above ↦ record { at = k + 1; there = omega (arith, long, within); apart = λ e. omega (arith, e, above); same = get_or-remove_above xs i d k above low }
      ]

  pub all_remove : (P : X → Type 0) (xs : List X) (i : ℕ) → i < length xs → All P xs → All P (remove xs i)
  all_remove P xs i low h k d within =
      let s = stood xs i k d low within in
      subst P (sym s.same) (h s.at d s.there)

  -- ---- one element more

  -- what stands at a place then
  pub placed : (xs : List X) (i : ℕ) (y : X) (k : ℕ) (d : X) → i ≤ length xs →
      ((k < i) × (get_or (insert xs i y) k d ≡ get_or xs k d))
      ⊎ (((k ≡ i) × (get_or (insert xs i y) k d ≡ y)) ⊎ ((i < k) × (get_or (insert xs i y) k d ≡ get_or xs (k - 1) d)))
  placed xs i y k d low =
      elim (cases_lt k i) [
        | inl below ↦ inl (below, get_or-insert_below xs i y d k below low)
        | inr above ↦ elim (cases_eq k i) [
          | inl e ↦ inr (inl (e, ap (λ (j : ℕ). get_or (insert xs i y) j d) e ∙ get_or-insert_at xs i y d low))
          | inr apart ↦
              let back : k ≡ k - 1 + 1 = omega (arith, above, apart) in
              inr (inr (omega (arith, above, apart), ap (λ (j : ℕ). get_or (insert xs i y) j d) back ∙ get_or-insert_above xs i y d (k - 1) (omega (arith, above, apart)) low))
        ]
      ]

  pub all_insert : (P : X → Type 0) (xs : List X) (i : ℕ) (y : X) → i ≤ length xs → All P xs → P y → All P (insert xs i y)
  all_insert P xs i y low h new k d within =
      let long = length-insert xs i y low in
      elim (placed xs i y k d low) [
        | inl p ↦ subst P (sym p.1) (h k d (omega (arith, p.0, low)))
        | inr o ↦ elim o [
          | inl p ↦ subst P (sym p.1) new
          | inr p ↦ subst P (sym p.1) (h (k - 1) d (omega (arith, p.0, long, within)))
        ]
      ]

  module _ (R : X → X → Type 0) (xs : List X) (i : ℕ) (y : X) (h : AllPairs R xs) (low : i ≤ length xs)
      (before : (k : ℕ) (d : X) → k < i → R (get_or xs k d) y) (behind : (k : ℕ) (d : X) → i ≤ k → k < length xs → R y (get_or xs k d)) where
    from_before : (a b : ℕ) (d : X) → a < b → b < length xs + 1 → a < i → R (get_or xs a d) (get_or (insert xs i y) b d)
    from_before a b d less within under =
        elim (placed xs i y b d low) [
          | inl q ↦ subst (R (get_or xs a d)) (sym q.1) (h a b d less (omega (arith, q.0, low)))
          | inr o ↦ elim o [
            | inl q ↦ subst (R (get_or xs a d)) (sym q.1) (before a d under)
            | inr q ↦ subst (R (get_or xs a d)) (sym q.1) (h a (b - 1) d (omega (arith, q.0, under)) (omega (arith, q.0, within)))
          ]
        ]

    from_new : (b : ℕ) (d : X) → i < b → b < length xs + 1 → R y (get_or (insert xs i y) b d)
    from_new b d less within =
        elim (placed xs i y b d low) [
          | inl q ↦ absurd (omega (arith, q.0, less))
          | inr o ↦ elim o [
            | inl q ↦ absurd (omega (arith, q.0, less))
            | inr q ↦ subst (R y) (sym q.1) (behind (b - 1) d (omega (arith, q.0)) (omega (arith, q.0, within)))
          ]
        ]

    from_behind : (a b : ℕ) (d : X) → a < b → b < length xs + 1 → i < a → R (get_or xs (a - 1) d) (get_or (insert xs i y) b d)
    from_behind a b d less within over =
        elim (placed xs i y b d low) [
          | inl q ↦ absurd (omega (arith, q.0, less, over))
          | inr o ↦ elim o [
            | inl q ↦ absurd (omega (arith, q.0, less, over))
            | inr q ↦ subst (R (get_or xs (a - 1) d)) (sym q.1) (h (a - 1) (b - 1) d (omega (arith, less, over)) (omega (arith, q.0, within)))
          ]
        ]

    pub pairs_insert : AllPairs R (insert xs i y)
    pairs_insert a b d less within =
        let long = length-insert xs i y low in
        let inside : b < length xs + 1 = omega (arith, long, within) in
        elim (placed xs i y a d low) [
          | inl p ↦ subst (λ (x : X). R x (get_or (insert xs i y) b d)) (sym p.1) (from_before a b d less inside p.0)
          | inr o ↦ elim o [
            | inl p ↦ subst (λ (x : X). R x (get_or (insert xs i y) b d)) (sym p.1) (from_new b d (omega (arith, p.0, less)) inside)
            | inr p ↦ subst (λ (x : X). R x (get_or (insert xs i y) b d)) (sym p.1) (from_behind a b d less inside p.0)
          ]
        ]

  -- what is among them then
  pub contains_insert : (xs : List X) (i : ℕ) (y x : X) → i ≤ length xs → Contains (insert xs i y) x → (y ≡ x) ⊎ Contains xs x
  contains_insert xs i y x low c =
      let long = length-insert xs i y low in
      let within = c.1 in
      elim (placed xs i y c.0 x low) [
        | inl p ↦ inr (c.0, omega (arith, p.0, low), sym p.1 ∙ c.2)
        | inr o ↦ elim o [
          | inl p ↦ inl (sym p.1 ∙ c.2)
          | inr p ↦ inr (c.0 - 1, omega (arith, p.0, long, within), sym p.1 ∙ c.2)
        ]
      ]

  pub contains_inserted : (xs : List X) (i : ℕ) (y : X) → i ≤ length xs → Contains (insert xs i y) y
  contains_inserted xs i y low = let long = length-insert xs i y low in (i, omega (arith, long, low), get_or-insert_at xs i y y low)

  -- ---- along a list

  pub within_next : (P : X → Type 0) (xs : List X) (at : ℕ) (e : X) → at < length xs → AllWithin P xs 0 at → P (get_or xs at e) → AllWithin P xs 0 (at + 1)
  within_next P xs at e low h new k d from less =
      elim (cases_lt k at) [
        | inl under ↦ h k d from under
        | inr past ↦
            let same : at ≡ k = omega (arith, less, past) in
            subst (λ (n : ℕ). P (get_or xs n d)) same (subst P (get_or_default xs at e d low) new)
      ]

  pub within_all : (P : X → Type 0) (xs : List X) (at : ℕ) → length xs ≤ at → AllWithin P xs 0 at → All P xs
  within_all P xs at long h k d less = h k d (omega arith) (omega (arith, less, long))

  -- ---- a list of different numbers

  all_cons : (P : X → Type 0) (x : X) (xs : List X) → P x → All P xs → All P (x ∷ xs)
  all_cons P x xs here h zero d within = here
  all_cons P x xs here h (suc k) d within = h k d (omega (arith, within))

  pairs_cons : (R : X → X → Type 0) (x : X) (xs : List X) → All (R x) xs → AllPairs R xs → AllPairs R (x ∷ xs)
  pairs_cons R x xs from h a zero d less within = absurd (omega (arith, less))
  pairs_cons R x xs from h zero (suc b) d less within = from b d (omega (arith, within))
  pairs_cons R x xs from h (suc a) (suc b) d less within = h a b d (omega (arith, less)) (omega (arith, within))

  module _ (f : X → ℕ) where
    abbrev pub Differ : X → X → Type 0
    Differ x y = f x ≢ f y

    -- elements at two places
    pub differ : (xs : List X) → AllPairs Differ xs → (i j : ℕ) (d : X) → i < length xs → j < length xs → i ≢ j → f (get_or xs i d) ≢ f (get_or xs j d)
    differ xs h i j d low high apart =
        elim (cases_lt i j) [
          | inl less ↦ h i j d less high
          | inr past ↦ λ e. h j i d (omega (arith, past, apart)) low (sym e)
        ]

    -- some element has the number m
    pub record HasAt (m : ℕ) (xs : List X) : Type 0 where
      pub at : ℕ
      pub there : at < length xs
      pub is : (d : X) → f (get_or xs at d) ≡ m

    found_next : (m : ℕ) (x : X) (xs : List X) → f x ≢ m → HasAt m xs ⊎ All (λ y. f y ≢ m) xs → HasAt m (x ∷ xs) ⊎ All (λ y. f y ≢ m) (x ∷ xs)
    found_next m x xs apart (inl h) = let low = h.there in inl (record { at = suc h.at; there = omega (arith, low); is = h.is })
    found_next m x xs apart (inr none) = inr (all_cons (λ y. f y ≢ m) x xs apart none)

    found : (m : ℕ) (xs : List X) → HasAt m xs ⊎ All (λ y. f y ≢ m) xs
    found m [] = inr (λ k d within. absurd (omega (arith, within)))
    found m (x ∷ xs) =
        elim (cases_eq (f x) m) [
          | inl same ↦ inl (record { at = 0; there = omega arith; is = λ d. same })
          | inr apart ↦ found_next m x xs apart (found m xs)
        ]

    below : (a m : ℕ) → a < suc m → a ≢ m → a < m
    below a m low apart = omega (arith, low, apart)

    at_most_next : (m : ℕ) (xs : List X) → AllPairs Differ xs → All (λ x. f x < suc m) xs →
        ((ys : List X) → AllPairs Differ ys → All (λ x. f x < m) ys → length ys ≤ m) → HasAt m xs ⊎ All (λ y. f y ≢ m) xs → length xs ≤ suc m
    at_most_next m xs apart low more (inl h) =
        let rest = more (remove xs h.at) (all_pairs_remove Differ xs h.at h.there apart) (λ k d within.
        let s = stood xs h.at k d h.there within in
        subst (λ (x : X). f x < m) (sym s.same)
        (below (f (get_or xs s.at d)) m (low s.at d s.there) (λ e. differ xs apart s.at h.at d s.there h.there s.apart (e ∙ sym (h.is d))))) in
        let long = length-remove xs h.at h.there in
        omega (arith, rest, long)
    at_most_next m xs apart low more (inr none) =
        let rest = more xs apart (λ k d within. below (f (get_or xs k d)) m (low k d within) (none k d within)) in
        omega (arith, rest)

    -- numbers below n that all differ are at most n
    pub at_most : (n : ℕ) (xs : List X) → AllPairs Differ xs → All (λ x. f x < n) xs → length xs ≤ n
    at_most zero [] apart low = omega arith
    at_most zero (x ∷ xs) apart low = let none : f x < 0 = low 0 x (omega arith) in absurd (omega (arith, none))
    at_most (suc m) xs apart low = at_most_next m xs apart low (at_most m) (found m xs)

    -- so there is room for one more
    pub room : (n : ℕ) (x : X) (xs : List X) → AllPairs Differ xs → All (λ y. f y < n) xs → f x < n → All (λ y. f y ≢ f x) xs → length xs < n
    room n x xs apart low here none =
        let most = at_most n (x ∷ xs) (pairs_cons Differ x xs (λ k d within. λ e. none k d within (sym e)) apart) (all_cons (λ y. f y < n) x xs here low) in
        omega (arith, most)
