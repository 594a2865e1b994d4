-- What it means that a phase finds nothing.
use Rattle.std.proofs.Common.{◌≡◌, refl, sym, subst, ℕ, ◌≤◌, Bool, true, false, not, ◌&&◌, ◌||◌, nat_lt, List, [], ◌∷◌, ◌++◌, map, flat_map, append_assoc, append-nil}
use Rattle.std.specs.List.{list_any}
use Rattle.std.proofs.lemmas.Bool.{ltb-false}
use Rattle.hc_frac.specs.declared.place.Place.{Place}
use Rattle.hc_modules.specs.Finds.{only_if, along}
use Rattle.hc_modules.proofs.Induction.{Each}

-- of two lists in a row, and of a list that is mapped
pub left_empty : {X : Type 0} (xs ys : List X) → xs ++ ys ≡ [] → xs ≡ []
left_empty [] ys e = refl
left_empty (x ∷ xs) ys e = absurd (cc)

pub right_empty : {X : Type 0} (xs ys : List X) → xs ++ ys ≡ [] → ys ≡ []
right_empty [] ys e = e
right_empty (x ∷ xs) ys e = absurd (cc)

pub unmapped_empty : {X Y : Type 0} (f : X → Y) (xs : List X) → map f xs ≡ [] → xs ≡ []
unmapped_empty f [] e = refl
unmapped_empty f (x ∷ xs) e = absurd (cc)

pub each_empty : {X Y : Type 0} (f : X → List Y) (xs : List X) → flat_map f xs ≡ [] → Each (λ x. f x ≡ []) xs
each_empty f [] e = tt
each_empty f (x ∷ xs) e = (left_empty (f x) (flat_map f xs) e, each_empty f xs (right_empty (f x) (flat_map f xs) e))

pub not_found : (b : Bool) (p : Place) → only_if b p ≡ [] → b ≡ false
not_found true p e = absurd (cc)
not_found false p e = refl

-- no part of a list is too large with those before it: the whole isn't
pub within_all : {X : Type 0} (size : List X → ℕ) (most : ℕ) (place : X → Place) (before xs : List X) → size before ≤ most
    → along (λ before x. only_if (nat_lt most (size (before ++ x ∷ []))) (place x)) before xs ≡ [] → size (before ++ xs) ≤ most
within_all size most place before [] h e = subst (λ ys. size ys ≤ most) (sym (append-nil before)) h
within_all size most place before (x ∷ xs) h e =
    let look = λ (before : List _) (x : _). only_if (nat_lt most (size (before ++ x ∷ []))) (place x) in
    let here = ltb-false most (size (before ++ x ∷ []))
    (not_found (nat_lt most (size (before ++ x ∷ []))) (place x) (left_empty (look before x) (along look (before ++ x ∷ []) xs) e)) in
    subst (λ ys. size ys ≤ most) (append_assoc before (x ∷ []) xs)
    (within_all size most place (before ++ x ∷ []) xs here (right_empty (look before x) (along look (before ++ x ∷ []) xs) e))

module _ {X : Type 0} (same : X → X → Bool) (place : X → Place) where
  abbrev pub apart : List X → Bool
  apart [] = true
  apart (x ∷ xs) = not (list_any (same x) xs) && apart xs

  abbrev Unlike : List X → List X → Type 0
  Unlike before xs = Each (λ y. list_any (same y) xs ≡ false) before

  unlike_none : (before : List X) → Unlike before []
  unlike_none [] = tt
  unlike_none (y ∷ ys) = (refl, unlike_none ys)

  neither : (a b : Bool) → a ≡ false → b ≡ false → (a || b) ≡ false
  neither a b e f = cc

  first_false : (a b : Bool) → (a || b) ≡ false → a ≡ false
  first_false true b e = absurd (cc)
  first_false false b e = refl

  second_false : (a b : Bool) → (a || b) ≡ false → b ≡ false
  second_false true b e = absurd (cc)
  second_false false b e = e

  unlike_more : (before : List X) (x : X) (xs : List X) → list_any (λ y. same y x) before ≡ false → Unlike before xs → Unlike before (x ∷ xs)
  unlike_more [] x xs e h = tt
  unlike_more (y ∷ ys) x xs e h = (
    neither (same y x) (list_any (same y) xs) (first_false (same y x) (list_any (λ z. same z x) ys) e) h.0,
    unlike_more ys x xs (second_false (same y x) (list_any (λ z. same z x) ys) e) h.1,
  )

  unlike_front : (before : List X) (x : X) (xs : List X) → Unlike (before ++ x ∷ []) xs → Unlike before xs × (list_any (same x) xs ≡ false)
  unlike_front [] x xs h = (tt, h.0)
  unlike_front (y ∷ ys) x xs h = let rest = unlike_front ys x xs h.1 in ((h.0, rest.0), rest.1)

  abbrev look : List X → X → List Place
  look before x = only_if (list_any (λ y. same y x) before) (place x)

  all_unlike : (before xs : List X) → along look before xs ≡ [] → Unlike before xs × (apart xs ≡ true)
  all_unlike before [] e = (unlike_none before, refl)
  all_unlike before (x ∷ xs) e =
      let rest = all_unlike (before ++ x ∷ []) xs (right_empty (look before x) (along look (before ++ x ∷ []) xs) e) in
      let front = unlike_front before x xs rest.0 in
      let new = not_found (list_any (λ y. same y x) before) (place x) (left_empty (look before x) (along look (before ++ x ∷ []) xs) e) in
      (unlike_more before x xs new front.0, both (list_any (same x) xs) (apart xs) front.1 rest.1)
    where
      both : (a b : Bool) → a ≡ false → b ≡ true → (not a && b) ≡ true
      both a b e f = cc

  -- where no element is like an earlier one, they differ
  pub all_apart : (xs : List X) → along look [] xs ≡ [] → apart xs ≡ true
  all_apart xs e = (all_unlike [] xs e).1
