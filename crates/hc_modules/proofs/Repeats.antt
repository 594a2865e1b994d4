-- Names along a list: each is noted unless it was noted before.
use Rattle.std.proofs.Common.{◌≡◌, refl, ap, ap₂, sym, ◌∙◌, ℕ, ◌+◌, ◌<◌, Bool, true, false, not, ◌||◌, if◌then◌else◌, List, [], ◌∷◌, ◌++◌, map, take, drop, get_or, length}
use Rattle.std.proofs.lemmas.List.{take_more, map-append}
use Rattle.std.specs.Cmp.Lexicographic.{nat_list_eq_equiv}
use Rattle.std.specs.List.{list_any}
use Rattle.indexmap.specs.IndexSet.{insert_key}
use Rattle.hc_frac.specs.declared.place.Place.{Place}
use Rattle.hc_ast.specs.Bare.{Word}
use Rattle.hc_modules.specs.Bindings.{same_word}
use Rattle.hc_modules.specs.Finds.{along, only_if}
use Rattle.hc_modules.proofs.Along.{along-at}

module _ {X : Type 0} (name : X → Word) (place : X → Place) where
  abbrev pub repeats : List X → List X → List Place
  repeats before xs = along (λ before x. only_if (list_any (λ y. same_word (name y) (name x)) before) (place x)) before xs

  -- whether an earlier one has the name is whether it was noted
  is_noted : (before : List X) (w : Word) → list_any (same_word w) (map name before) ≡ list_any (λ y. same_word (name y) w) before
  is_noted [] w = refl
  is_noted (y ∷ ys) w = ap₂ (λ a b. a || b) (nat_list_eq_equiv.symm w (name y)) (is_noted ys w)

  module _ (xs : List X) (i : ℕ) (x : X) (h : i < length xs) (is : x ≡ get_or xs i x) (keys : List Word) (noted : keys ≡ map name (take i xs))
      (is_new : Bool) (new : is_new ≡ not (list_any (same_word (name x)) keys)) where
    here : repeats (take i xs) (drop i xs)
        ≡ only_if (list_any (same_word (name x)) keys) (place x) ++ repeats (take (i + 1) xs) (drop (i + 1) xs)
    here =
        along-at _ xs i x h
        ∙ ap (λ y. only_if (list_any (λ z. same_word (name z) (name y)) (take i xs)) (place y) ++ repeats (take (i + 1) xs) (drop (i + 1) xs)) (sym is)
        ∙ ap (λ b. only_if b (place x) ++ repeats (take (i + 1) xs) (drop (i + 1) xs))
        (sym (is_noted (take i xs) (name x)) ∙ ap (list_any (same_word (name x))) (sym noted))

    unnot : (b c : Bool) → b ≡ not c → b ≡ true → c ≡ false
    unnot b true e f = absurd (cc)
    unnot b false e f = refl

    unnot_false : (b c : Bool) → b ≡ not c → b ≡ false → c ≡ true
    unnot_false b true e f = refl
    unnot_false b false e f = absurd (cc)

    -- a new name is passed
    pub passed : is_new ≡ true → repeats (take i xs) (drop i xs) ≡ repeats (take (i + 1) xs) (drop (i + 1) xs)
    passed e = here ∙ ap (λ b. only_if b (place x) ++ repeats (take (i + 1) xs) (drop (i + 1) xs)) (unnot _ _ new e)

    pub noted_more : is_new ≡ true → (keys' : List Word) → keys' ≡ insert_key same_word keys (name x) → keys' ≡ map name (take (i + 1) xs)
    noted_more e keys' k =
        k ∙ ap (λ b. if b then keys else keys ++ name x ∷ []) (unnot _ _ new e)
        ∙ ap₂ (λ ks y. ks ++ name y ∷ []) noted is
        ∙ sym (ap (map name) (take_more xs i x h) ∙ map-append name (take i xs) (get_or xs i x ∷ []))

    -- and another is the first that is found
    pub repeated : is_new ≡ false → repeats (take i xs) (drop i xs) ≡ place x ∷ repeats (take (i + 1) xs) (drop (i + 1) xs)
    repeated e = here ∙ ap (λ b. only_if b (place x) ++ repeats (take (i + 1) xs) (drop (i + 1) xs)) (unnot_false _ _ new e)
