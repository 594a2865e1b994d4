-- What is refused first among refusals in a row, of errors that tell themselves unless memory ran out.
use Rattle.std.proofs.Common.{◌≡◌, refl, ap, sym, subst, ◌∙◌, ℕ, ◌+◌, ◌<◌, List, [], ◌∷◌, ◌++◌, map, flat_map, drop, get_or, length, slice_get, Option, Some, None, IfSome, Result, Ok, Err}
use Rattle.std.proofs.lemmas.List.{drop_more, map-append}
use Rattle.hc_frac.specs.declared.place.Place.{Place}
use Rattle.hc_grammar.specs.Exact.{IsExact}
use Rattle.hc_modules.specs.Found.{first_of, IsFirst}

get_first : {X : Type 0} (xs ys : List X) (x : X) → slice_get xs 0 ≡ Some x → slice_get (xs ++ ys) 0 ≡ Some x
get_first [] ys x e = absurd (cc)
get_first (z ∷ xs) ys x e = cc

-- what is found first in one list, or else in the next
abbrev pub first_then : {X : Type 0} → Result (Unit {0}) X → Result (Unit {0}) X → Result (Unit {0}) X
first_then (Ok u) r = r
first_then (Err x) r = Err x

pub first_of-append : {X : Type 0} (xs ys : List X) → first_of (xs ++ ys) ≡ first_then (first_of xs) (first_of ys)
first_of-append [] ys = refl
first_of-append (x ∷ xs) ys = refl

pub nothing_then : {X : Type 0} (r : Result (Unit {0}) X) → r ≡ first_then r (Ok tt)
nothing_then (Ok u) = refl
nothing_then (Err x) = refl

module _ {X : Type 0} (whole first second before after : Result (Unit {0}) X) where
  -- the second search is made where the first finds nothing
  pub goes_on : (u : Unit {0}) → whole ≡ first_then first second → before ≡ first → before ≡ Ok u → after ≡ second → after ≡ whole
  goes_on u e f g h = h ∙ sym (e ∙ ap (λ r. first_then r second) (sym f ∙ g))

  -- and only there
  pub ends : (x : X) → whole ≡ first_then first second → before ≡ first → before ≡ Err x → (y : X) × (after ≡ Err y) × (y ≡ x) → after ≡ whole
  ends x e f g h = h.1 ∙ ap Err h.2 ∙ sym (e ∙ ap (λ r. first_then r second) (sym f ∙ g))

module _ {E : Type 0} (told : E → Option E) where
  -- it is first with others behind it,
  pub first_on : (xs ys : List E) (s : E) → IsFirst told xs s → IsFirst told (xs ++ ys) s
  first_on xs ys s = by (told s)
    where
      by : (o : Option E) → IfSome o (λ r. slice_get xs 0 ≡ Some r) → IfSome o (λ r. slice_get (xs ++ ys) 0 ≡ Some r)
      by None h = tt
      by (Some r) h = get_first xs ys r h

  -- and behind none
  pub first_after : (xs ys : List E) (s : E) → xs ≡ [] → IsFirst told ys s → IsFirst told (xs ++ ys) s
  first_after [] ys s e h = h
  first_after (x ∷ xs) ys s e h = absurd (cc)

  -- the first of one element is that of all, where nothing was found before
  pub first_within : {X : Type 0} (stop : Place → E) (f : X → List Place) (xs : List X) (i : ℕ) (x : X) → i < length xs → x ≡ get_or xs i x
      → (all : List Place) → all ≡ flat_map f (drop i xs) → (s : E) → IsFirst told (map stop (f x)) s → IsFirst told (map stop all) s
  first_within stop f xs i x h is all e s first =
      let here : all ≡ f x ++ flat_map f (drop (i + 1) xs) =
      e ∙ ap (flat_map f) (drop_more xs i x h) ∙ ap (λ y. f y ++ flat_map f (drop (i + 1) xs)) (sym is) in
      subst (λ ps. IsFirst told (map stop ps) s) (sym here)
      (subst (λ ps. IsFirst told ps s) (sym (map-append stop (f x) (flat_map f (drop (i + 1) xs))))
      (first_on (map stop (f x)) (map stop (flat_map f (drop (i + 1) xs))) s first))

  -- what is found first, where an error tells itself
  module _ (itself : (e : E) → IfSome (told e) (λ r. r ≡ e)) where
    pub first_told : (found : List E) (s : E) → slice_get found 0 ≡ Some s → IsFirst told found s
    first_told found s e = by (told s) (itself s)
      where
        by : (o : Option E) → IfSome o (λ r. r ≡ s) → IfSome o (λ r. slice_get found 0 ≡ Some r)
        by None is = tt
        by (Some r) is = e ∙ ap Some (sym is)

    pub first_found : (stop : Place → E) (ps : List Place) (p : Place) → first_of ps ≡ Err p → IsFirst told (map stop ps) (stop p)
    first_found stop [] p e = absurd (cc)
    first_found stop (q ∷ ps) p e = first_told (map stop (q ∷ ps)) (stop p) (cc)

  -- what is found first is the answer, where what is right has nothing against it
  module _ {V X : Type 0} (value : X → V) (IsValue : V → Type 0) (found : List E) where
    pub refused_exactly : ((v : V) → IsValue v → found ≡ []) → (s : E) → IsFirst told found s
        → IsExact value told IsValue (λ r. slice_get found 0 ≡ Some r) (Err s)
    refused_exactly none s first = record {
      value_is = tt;
      refusal_is = first;
      every_value = λ v is. no_value (told s) (none v is) first;
      every_refusal = λ q is. one_refusal q (told s) is first;
    }
      where
        no_value : (o : Option E) → found ≡ [] → IfSome o (λ r. slice_get found 0 ≡ Some r) → o ≡ None
        no_value None e h = refl
        no_value (Some r) e h = absurd (cc (h, ap (λ rs. slice_get rs 0) e))

        one_refusal : (q : E) (o : Option E) → slice_get found 0 ≡ Some q → IfSome o (λ r. slice_get found 0 ≡ Some r) → IfSome o (λ r. r ≡ q)
        one_refusal q None e h = tt
        one_refusal q (Some r) e h = cc (sym h ∙ e)

    -- and where nothing is found the value is, of which there is one
    pub valued_exactly : found ≡ [] → ((v w : V) → IsValue v → IsValue w → v ≡ w) → (x : X) → IsValue (value x)
        → IsExact value told IsValue (λ r. slice_get found 0 ≡ Some r) (Ok x)
    valued_exactly none one x is = record {
      value_is = is;
      refusal_is = tt;
      every_value = λ v of. one (value x) v is of;
      every_refusal = λ q e. absurd (cc (e, ap (λ rs. slice_get rs 0) none));
    }

    -- where memory ran out nothing is said
    pub unsaid : (s : E) → told s ≡ None → IsExact value told IsValue (λ r. slice_get found 0 ≡ Some r) (Err s)
    unsaid s e = record {
      value_is = tt;
      refusal_is = subst (λ o. IfSome o (λ r. slice_get found 0 ≡ Some r)) (sym e) tt;
      every_value = λ v is. e;
      every_refusal = λ q is. subst (λ o. IfSome o (λ r. r ≡ q)) (sym e) tt;
    }

pub none_after : {X : Type 0} (xs ys : List X) → xs ≡ [] → ys ≡ [] → xs ++ ys ≡ []
none_after [] ys e f = f
none_after (x ∷ xs) ys e f = absurd (cc)

-- of places that are found in one phase
pub none_found : {X : Type 0} (xs : List X) (u : Unit {0}) → first_of xs ≡ Ok u → xs ≡ []
none_found [] u e = refl
none_found (x ∷ xs) u e = absurd (cc)

pub none_said : {E : Type 0} (stop : Place → E) (ps : List Place) → ps ≡ [] → map stop ps ≡ []
none_said stop [] e = refl
none_said stop (p ∷ ps) e = absurd (cc)
