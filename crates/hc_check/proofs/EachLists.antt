-- What each element of a list has, for lists that are made of others.
use Rattle.std.proofs.Common.{◌≡◌, refl, Bool, true, false, ◌&&◌, ◌||◌, IsTrue, List, [], ◌∷◌, ◌++◌, map, flat_map}
use Rattle.std.specs.List.{list_all}
use Rattle.hc_modules.proofs.Induction.{Each}

module _ {X : Type 0} (P : X → Type 0) where
  pub each_both : (xs ys : List X) → Each P (xs ++ ys) → Each P xs × Each P ys
  each_both [] ys h = (tt, h)
  each_both (x ∷ xs) ys h = let r = each_both xs ys h.1 in ((h.0, r.0), r.1)

  pub each_map : {Y : Type 0} (f : Y → X) (ys : List Y) → Each P (map f ys) → Each (λ y. P (f y)) ys
  each_map f [] h = tt
  each_map f (y ∷ ys) h = (h.0, each_map f ys h.1)

  pub each_flat : {Y : Type 0} (f : Y → List X) (ys : List Y) → Each P (flat_map f ys) → Each (λ y. Each P (f y)) ys
  each_flat f [] h = tt
  each_flat f (y ∷ ys) h = let r = each_both (f y) (flat_map f ys) h in (r.0, each_flat f ys r.1)

  pub each_weaker : (Q : X → Type 0) → ((x : X) → P x → Q x) → (xs : List X) → Each P xs → Each Q xs
  each_weaker Q f [] h = tt
  each_weaker Q f (x ∷ xs) h = (f x h.0, each_weaker Q f xs h.1)

  pub each_joined : (Q : X → Type 0) (xs : List X) → Each P xs → Each Q xs → Each (λ x. P x × Q x) xs
  each_joined Q [] h k = tt
  each_joined Q (x ∷ xs) h k = ((h.0, k.0), each_joined Q xs h.1 k.1)

-- a list of two parts is empty where both are
pub both_empty : {X : Type 0} (xs ys : List X) → xs ++ ys ≡ [] → (xs ≡ []) × (ys ≡ [])
both_empty [] ys h = (refl, h)
both_empty (x ∷ xs) ys h = absurd (cc)

pub none_found : {X Y : Type 0} (f : X → List Y) (xs : List X) → flat_map f xs ≡ [] → Each (λ x. f x ≡ []) xs
none_found f [] h = tt
none_found f (x ∷ xs) h = let r = both_empty (f x) (flat_map f xs) h in (r.0, none_found f xs r.1)

pub both : {a b : Bool} → IsTrue a → IsTrue b → IsTrue (a && b)
both e f = cc

pub neither : {a b : Bool} → a ≡ false → b ≡ false → (a || b) ≡ false
neither e f = cc

pub both_parts : (a b : Bool) → IsTrue (a && b) → IsTrue a × IsTrue b
both_parts true b h = (refl, h)
both_parts false b h = absurd (cc)

pub all_pass : {X : Type 0} (f : X → Bool) (xs : List X) → Each (λ x. IsTrue (f x)) xs → IsTrue (list_all f xs)
all_pass f [] h = refl
all_pass f (x ∷ xs) h = both h.0 (all_pass f xs h.1)

pub each_passes : {X : Type 0} (f : X → Bool) (xs : List X) → IsTrue (list_all f xs) → Each (λ x. IsTrue (f x)) xs
each_passes f [] h = tt
each_passes f (x ∷ xs) h = let r = both_parts (f x) (list_all f xs) h in (r.0, each_passes f xs r.1)
