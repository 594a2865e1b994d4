-- Names that are inserted one by one are the first occurrences.
use Rattle.std.proofs.Common.{◌≡◌, true, false, Bool, not, cond, ◌&&◌, ◌||◌, List, [], ◌∷◌, ◌++◌, filter, refl, sym, ap, ap₂, ◌∙◌, append_assoc}
use Rattle.std.specs.List.{list_any}
use Rattle.std.specs.Cmp.Lexicographic.{nat_list_eq_equiv}
use Rattle.std.proofs.lemmas.List.{append-nil}
use Rattle.std.proofs.lemmas.List.Folds.{list_any-append}
use Rattle.indexmap.specs.IndexSet.{insert_key, insert_all}
use Rattle.hc_ast.specs.Bare.{Word}
use Rattle.hc_modules.specs.Bindings.{same_word}
use Rattle.hc_finds.specs.Names.{first_occurrences}

abbrev pub noted : List Word → List Word → List Word
noted names xs = insert_all same_word names xs

abbrev is_in : List Word → Word → Bool
is_in names x = list_any (same_word x) names

pub noted-append : (names xs ys : List Word) → noted names (xs ++ ys) ≡ noted (noted names xs) ys
noted-append names [] ys = refl
noted-append names (x ∷ xs) ys = noted-append (insert_key same_word names x) xs ys

filter_filter : {X : Type 0} (p q : X → Bool) (ys : List X) → filter p (filter q ys) ≡ filter (λ y. q y && p y) ys
filter_filter p q [] = refl
filter_filter p q (y ∷ ys) =
    elim (q y) as (λ b. filter p (cond b (y ∷ filter q ys) (filter q ys))
    ≡ cond (b && p y) (y ∷ filter (λ y. q y && p y) ys) (filter (λ y. q y && p y) ys)) [
      | true ↦ ap (λ zs. cond (p y) (y ∷ zs) zs) (filter_filter p q ys)
      | false ↦ filter_filter p q ys
    ]

filter_alike : {X : Type 0} (p q : X → Bool) → ((y : X) → p y ≡ q y) → (ys : List X) → filter p ys ≡ filter q ys
filter_alike p q e [] = refl
filter_alike p q e (y ∷ ys) = ap₂ (λ b zs. cond b (y ∷ zs) zs) (e y) (filter_alike p q e ys)

any_alike : {X : Type 0} (p q : X → Bool) → ((y : X) → p y ≡ q y) → (ys : List X) → list_any p ys ≡ list_any q ys
any_alike p q e [] = refl
any_alike p q e (y ∷ ys) = ap₂ (λ a b. a || b) (e y) (any_alike p q e ys)

-- equal names are in the same names
alike : (names : List Word) (x y : Word) → same_word x y ≡ true → is_in names x ≡ is_in names y
alike names x y h = any_alike (same_word x) (same_word y) (λ z. nat_list_eq_equiv.congr x y z h) names

-- those that aren't among the names
abbrev new_in : List Word → List Word → List Word
new_in names ys = filter (λ y. not (is_in names y)) ys

abbrev others : Word → List Word → List Word
others x ys = filter (λ y. not (same_word x y)) ys

-- a name that was noted takes nothing from the new ones
noted_before : (names : List Word) (x : Word) → is_in names x ≡ true → (ys : List Word) → new_in names (others x ys) ≡ new_in names ys
noted_before names x h ys =
    filter_filter (λ y. not (is_in names y)) (λ y. not (same_word x y)) ys
    ∙ filter_alike (λ y. not (same_word x y) && not (is_in names y)) (λ y. not (is_in names y)) at_one ys
  where
    by : (y : Word) (b : Bool) → same_word x y ≡ b → (not b && not (is_in names y)) ≡ not (is_in names y)
    by y true e = ap not (sym h ∙ alike names x y e)
    by y false e = refl

    at_one : (y : Word) → (not (same_word x y) && not (is_in names y)) ≡ not (is_in names y)
    at_one y = by y (same_word x y) refl

either_way : (a b : Bool) → (not a && not b) ≡ not (b || (a || false))
either_way true true = refl
either_way true false = refl
either_way false true = refl
either_way false false = refl

-- a name that is noted is no longer new
noted_now : (names : List Word) (x : Word) (ys : List Word) → new_in names (others x ys) ≡ new_in (names ++ x ∷ []) ys
noted_now names x ys =
    filter_filter (λ y. not (is_in names y)) (λ y. not (same_word x y)) ys
    ∙ filter_alike (λ y. not (same_word x y) && not (is_in names y)) (λ y. not (is_in (names ++ x ∷ []) y)) at_one ys
  where
    at_one : (y : Word) → (not (same_word x y) && not (is_in names y)) ≡ not (is_in (names ++ x ∷ []) y)
    at_one y =
        ap (λ a. not a && not (is_in names y)) (nat_list_eq_equiv.symm x y)
        ∙ either_way (same_word y x) (is_in names y)
        ∙ ap not (sym (list_any-append (same_word y) names (x ∷ [])))

noted-is : (names xs : List Word) → noted names xs ≡ names ++ new_in names (first_occurrences xs)
noted-is names [] = sym (append-nil names)
noted-is names (x ∷ xs) = by (is_in names x) refl (noted-is names xs) (noted-is (names ++ x ∷ []) xs)
  where
    ys : List Word
    ys = first_occurrences xs

    by : (b : Bool) → is_in names x ≡ b → noted names xs ≡ names ++ new_in names ys
        → noted (names ++ x ∷ []) xs ≡ (names ++ x ∷ []) ++ new_in (names ++ x ∷ []) ys
        → noted (cond b names (names ++ x ∷ [])) xs ≡ names
        ++ cond (not b) (x ∷ new_in names (others x ys)) (new_in names (others x ys))
    by true h old new = old ∙ ap (λ zs. names ++ zs) (sym (noted_before names x h ys))
    by false h old new =
        new ∙ append_assoc names (x ∷ []) (new_in (names ++ x ∷ []) ys)
        ∙ ap (λ zs. names ++ x ∷ zs) (sym (noted_now names x ys))

all_new : (ys : List Word) → new_in [] ys ≡ ys
all_new [] = refl
all_new (y ∷ ys) = ap (λ zs. y ∷ zs) (all_new ys)

pub noted-first : (xs : List Word) → noted [] xs ≡ first_occurrences xs
noted-first xs = noted-is [] xs ∙ all_new (first_occurrences xs)

-- with further names
pub first-more : (before xs : List Word) → first_occurrences (before ++ xs) ≡ noted (noted [] before) xs
first-more before xs = sym (noted-first (before ++ xs)) ∙ noted-append [] before xs
