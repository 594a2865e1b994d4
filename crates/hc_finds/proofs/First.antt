-- What is found first among lists in a row.
use Rattle.std.proofs.Common.{◌≡◌, ℕ, ◌+◌, ◌<◌, length, take, drop, get_or, sym, refl, ap, ◌∙◌, flat_map, map, List, [], ◌∷◌, ◌++◌, Ok, Err}
use Rattle.std.proofs.lemmas.Grind.{flat_map-append}
use Rattle.std.proofs.lemmas.List.{drop_more, take_more, map-append}
use Rattle.std.specs.Result.{result_and}
use Rattle.hc_frac.specs.declared.place.Place.{Place}
use Rattle.hc_modules.specs.Finds.{along}
use Rattle.hc_modules.specs.Found.{first_of}
use Rattle.hc_modules.proofs.Firsts.{first_then, first_of-append}

-- where they are looked at by one question
pub first-of : {X Y : Type 0} (f : X → List Y) (zs xs ys : List X) → zs ≡ xs ++ ys
    → first_of (flat_map f zs) ≡ first_then (first_of (flat_map f xs)) (first_of (flat_map f ys))
first-of f zs xs ys e =
    ap (λ us. first_of (flat_map f us)) e ∙ ap first_of (flat_map-append f xs ys) ∙ first_of-append (flat_map f xs) (flat_map f ys)

-- of two lists in a row
pub first_of-and : {X : Type 0} (xs ys : List X) → first_of (xs ++ ys) ≡ result_and (first_of xs) (first_of ys)
first_of-and [] ys = refl
first_of-and (x ∷ xs) ys = refl

pub first-here : {X : Type 0} (xs ys : List X) (x : X) → first_of xs ≡ Err x → first_of (xs ++ ys) ≡ Err x
first-here [] ys x e = absurd (cc)
first-here (y ∷ xs) ys x e = e

pub first-later : {X : Type 0} (xs ys : List X) → first_of xs ≡ Ok tt → first_of (xs ++ ys) ≡ first_of ys
first-later [] ys e = refl
first-later (y ∷ xs) ys e = absurd (cc)

-- the first of what is said of lists in a row
pub said-here : {X Y : Type 0} (g : X → Y) (xs ys : List X) (x : X) → first_of xs ≡ Err x → first_of (map g (xs ++ ys)) ≡ Err (g x)
said-here g [] ys x e = absurd (cc)
said-here g (y ∷ xs) ys x e = cc

pub said-later : {X Y : Type 0} (g : X → Y) (xs ys : List X) → first_of xs ≡ Ok tt → first_of (map g (xs ++ ys)) ≡ first_of (map g ys)
said-later g [] ys e = refl
said-later g (y ∷ xs) ys e = absurd (cc)

-- along a list from number i on
pub along-at : {X Z : Type 0} (look : List X → X → List Place) (f : Z → X) (zs : List Z) (i : ℕ) (d : Z) → i < length zs
    → along look (map f (take i zs)) (map f (drop i zs))
    ≡ look (map f (take i zs)) (f (get_or zs i d)) ++ along look (map f (take (i + 1) zs)) (map f (drop (i + 1) zs))
along-at look f zs i d h =
    ap (λ xs. along look (map f (take i zs)) (map f xs)) (drop_more zs i d h)
    ∙ ap (λ xs. look (map f (take i zs)) (f (get_or zs i d)) ++ along look xs (map f (drop (i + 1) zs)))
    (sym (ap (map f) (take_more zs i d h) ∙ map-append f (take i zs) (get_or zs i d ∷ [])))

-- looked at one after another from number i on, by one question
module _ {X Y : Type 0} (f : X → List Y) (xs : List X) (i : ℕ) (d : X) (h : i < length xs) where
  next : flat_map f (drop i xs) ≡ f (get_or xs i d) ++ flat_map f (drop (i + 1) xs)
  next = ap (flat_map f) (drop_more xs i d h)

  pub found-here : (y : Y) → first_of (f (get_or xs i d)) ≡ Err y → first_of (flat_map f (drop i xs)) ≡ Err y
  found-here y e = ap first_of next ∙ first-here (f (get_or xs i d)) (flat_map f (drop (i + 1) xs)) y e

  pub found-later : first_of (f (get_or xs i d)) ≡ Ok tt → first_of (flat_map f (drop i xs)) ≡ first_of (flat_map f (drop (i + 1) xs))
  found-later e = ap first_of next ∙ first-later (f (get_or xs i d)) (flat_map f (drop (i + 1) xs)) e

pub ruleset firsts = (first_of-append, flat_map-append)
