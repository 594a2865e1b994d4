-- Where no find is at the ends of channels, each number has one sender, one receiver, and these differ.
use Rattle.std.proofs.Common.{◌≡◌, refl, ap, sym, ◌∙◌, arith, ℕ, ◌+◌, ◌<◌, ◌≤◌, Bool, true, false, not, cond, ◌&&◌, ◌||◌, IsTrue, List, [], ◌∷◌, ◌++◌, flat_map, length, get_or, inl, inr}
use Rattle.std.specs.Prelude.{◌==◌, count_by}
use Rattle.std.specs.List.{list_any}
use Rattle.std.proofs.lemmas.Bool.{and_parts, and_from, or_cases, or_left, or_right, eqb-true, false≢true, false_from_ne_true}
use Rattle.std.proofs.lemmas.Cmp.{nat_list_eq_equiv}
use Rattle.std.proofs.lemmas.List.Sums.{sum_by-cons}
use Rattle.std.proofs.lemmas.List.Folds.{list_any-append}
use Rattle.hc_frac.specs.declared.place.Place.{Place}
use Rattle.hc_ast.specs.Bare.{Word}
use Rattle.hc_modules.specs.Bindings.{same_word}
use Rattle.hc_modules.specs.Finds.{only_if, along}
use Rattle.hc_modules.proofs.Induction.{Each}
use Rattle.hc_modules.proofs.Nothing.{left_empty, right_empty, not_found}
use Rattle.hc_finds.specs.Names.{number_in}
use Rattle.hc_finds.specs.Uses.{Use, goes, is_use, self_channels, have_use, shared_in, shared_ends}
use Rattle.hc_check.proofs.Numbers.{at_number}
use Rattle.hc_check.proofs.SameUses.{is_use_at}

-- an element that passes one test passes a weaker one
any_weaker : {X : Type 0} (p q : X → Bool) → ((x : X) → IsTrue (p x) → IsTrue (q x)) → (xs : List X) → IsTrue (list_any p xs) → IsTrue (list_any q xs)
any_weaker p q f [] h = h
any_weaker p q f (x ∷ xs) h =
    elim (or_cases (p x) (list_any p xs) h) [
      | inl e ↦ or_left (q x) (list_any q xs) (f x e)
      | inr e ↦ or_right (q x) (list_any q xs) (any_weaker p q f xs e)
    ]

-- where no find is, no element passes that would make one
none_passes : {X : Type 0} (p q : X → Bool) (place : X → Place) → ((x : X) → IsTrue (p x) → IsTrue (q x)) → (xs : List X)
    → flat_map (λ x. only_if (q x) (place x)) xs ≡ [] → list_any p xs ≡ false
none_passes p q place f [] e = refl
none_passes p q place f (x ∷ xs) e =
    let here = not_found (q x) (place x) (left_empty (only_if (q x) (place x)) (flat_map (λ x. only_if (q x) (place x)) xs) e) in
    let rest = none_passes p q place f xs (right_empty (only_if (q x) (place x)) (flat_map (λ x. only_if (q x) (place x)) xs) e) in
    ap (λ b. b || list_any p xs) (false_from_ne_true (p x) (λ h. false≢true (sym here ∙ f x h))) ∙ rest

-- an element before, or the one that is added
any_before : {X : Type 0} (p : X → Bool) (before : List X) (x : X) → IsTrue (list_any p before) → IsTrue (list_any p (before ++ x ∷ []))
any_before p before x h = list_any-append p before (x ∷ []) ∙ or_left (list_any p before) (p x || false) h

any_added : {X : Type 0} (p : X → Bool) (before : List X) (x : X) → IsTrue (p x) → IsTrue (list_any p (before ++ x ∷ []))
any_added p before x h = list_any-append p before (x ∷ []) ∙ or_right (list_any p before) (p x || false) (or_left (p x) false h)

module _ (cs : List Word) (k : ℕ) (below : k < length cs) where
  abbrev at : Bool → Use → Bool
  at sends u = is_use_at cs k sends u

  -- it goes in this direction
  at_goes : (s : Bool) (u : Use) → IsTrue (at s u) → IsTrue (goes s u)
  at_goes s u h = (and_parts (goes s u) (number_in cs u.channel == k) h).0

  at_channel : (s : Bool) (u : Use) → IsTrue (at s u) → u.channel ≡ get_or cs k []
  at_channel s u h =
      let is : number_in cs u.channel ≡ k = eqb-true (number_in cs u.channel) k (and_parts (goes s u) (number_in cs u.channel == k) h).1 in
      at_number cs u.channel (omega arith) ∙ ap (λ i. get_or cs i []) is

  -- uses of one number are of one channel
  one_channel : (s t : Bool) (u w : Use) → IsTrue (at s u) → IsTrue (at t w) → IsTrue (is_use t u.channel w)
  one_channel s t u w h g =
      and_from (goes t w) (same_word w.channel u.channel) (at_goes t w g)
      (ap (same_word w.channel) (at_channel s u h ∙ sym (at_channel t w g)) ∙ nat_list_eq_equiv.refl w.channel)

  -- ---- in one direction

  module _ (s : Bool) where
    abbrev user : List Use → Bool
    user us = list_any (at s) us

    abbrev count : List (List Use) → ℕ
    count uss = count_by user uss

    count-cons : (us : List Use) (rest : List (List Use)) → count (us ∷ rest) ≡ cond (user us) 1 0 + count rest
    count-cons us rest = sum_by-cons (λ us. cond (user us) 1 0) us rest

    -- behind a user there is no other
    not_second : (before : List (List Use)) (us : List Use) → shared_in s before us ≡ [] → IsTrue (list_any user before) → user us ≡ false
    not_second before us e h =
        none_passes (at s) (λ u. goes s u && have_use s u.channel before) (λ u. u.place) shares us e
      where
        shares : (u : Use) → IsTrue (at s u) → IsTrue (goes s u && have_use s u.channel before)
        shares u g =
            and_from (goes s u) (have_use s u.channel before) (at_goes s u g)
            (any_weaker user (λ ws. list_any (is_use s u.channel) ws)
            (λ ws. any_weaker (at s) (is_use s u.channel) (λ w. one_channel s s u w g) ws) before h)

    none_behind : (before rest : List (List Use)) → along (shared_in s) before rest ≡ [] → IsTrue (list_any user before) → count rest ≡ 0
    none_behind before [] e h = refl
    none_behind before (us ∷ rest) e h =
        let here : user us ≡ false = not_second before us (left_empty (shared_in s before us) (along (shared_in s) (before ++ us ∷ []) rest) e) h in
        let later : count rest ≡ 0 =
        none_behind (before ++ us ∷ []) rest (right_empty (shared_in s before us) (along (shared_in s) (before ++ us ∷ []) rest) e)
        (any_before user before us h) in
        let total : count (us ∷ rest) ≡ 0 + count rest = count-cons us rest ∙ ap (λ b. cond b 1 0 + count rest) here in
        omega arith

    one_at_most : (before rest : List (List Use)) → along (shared_in s) before rest ≡ [] → count rest ≤ 1
    one_at_most before [] e = omega arith
    one_at_most before (us ∷ rest) e = by (user us) refl (one_at_most (before ++ us ∷ []) rest later)
      where
        later : along (shared_in s) (before ++ us ∷ []) rest ≡ []
        later = right_empty (shared_in s before us) (along (shared_in s) (before ++ us ∷ []) rest) e

        by : (b : Bool) → user us ≡ b → count rest ≤ 1 → count (us ∷ rest) ≤ 1
        by true f most =
            let none : count rest ≡ 0 = none_behind (before ++ us ∷ []) rest later (any_added user before us f) in
            let total : count (us ∷ rest) ≡ 1 + count rest = count-cons us rest ∙ ap (λ b. cond b 1 0 + count rest) f in
            omega arith
        by false f most =
            let total : count (us ∷ rest) ≡ 0 + count rest = count-cons us rest ∙ ap (λ b. cond b 1 0 + count rest) f in
            omega arith

    pub one_end : (uss : List (List Use)) → shared_ends s uss ≡ [] → count uss ≤ 1
    one_end uss e = one_at_most [] uss e

  -- ---- in both directions

  abbrev both_ways : List Use → Use → List Place
  both_ways before u = only_if (list_any (is_use (not u.sends) u.channel) before) u.place

  goes_is : (s : Bool) (u : Use) → IsTrue (goes s u) → u.sends ≡ s
  goes_is true u h = h
  goes_is false u h = negated u.sends h
    where
      negated : (b : Bool) → IsTrue (not b) → b ≡ false
      negated true g = absurd (cc)
      negated false g = refl

  -- behind a use there is none in the other direction
  not_other : (s : Bool) (before : List Use) (u : Use) → both_ways before u ≡ [] → IsTrue (list_any (at (not s)) before) → at s u ≡ false
  not_other s before u e h = false_from_ne_true (at s u) (λ g. false≢true (sym unseen ∙ is_seen g))
    where
      unseen : list_any (is_use (not u.sends) u.channel) before ≡ false
      unseen = not_found (list_any (is_use (not u.sends) u.channel) before) u.place e

      is_seen : IsTrue (at s u) → IsTrue (list_any (is_use (not u.sends) u.channel) before)
      is_seen g =
          ap (λ b. list_any (is_use (not b) u.channel) before) (goes_is s u (at_goes s u g))
          ∙ any_weaker (at (not s)) (is_use (not s) u.channel) (λ w. one_channel s (not s) u w g) before h

  none_other : (s : Bool) (before us : List Use) → along both_ways before us ≡ [] → IsTrue (list_any (at (not s)) before) → list_any (at s) us ≡ false
  none_other s before [] e h = refl
  none_other s before (u ∷ us) e h =
      ap (λ b. b || list_any (at s) us)
      (not_other s before u (left_empty (both_ways before u) (along both_ways (before ++ u ∷ []) us) e) h)
      ∙ none_other s (before ++ u ∷ []) us (right_empty (both_ways before u) (along both_ways (before ++ u ∷ []) us) e)
      (any_before (at (not s)) before u h)

  -- no use goes in both directions
  one_way : (u : Use) → IsTrue (at true u) → at false u ≡ false
  one_way u h = ap (λ b. not b && number_in cs u.channel == k) (at_goes true u h)

  not_both_behind : (before us : List Use) → along both_ways before us ≡ [] → (list_any (at true) us && list_any (at false) us) ≡ false
  not_both_behind before [] e = refl
  not_both_behind before (u ∷ us) e = by (at true u) (at false u) refl refl (not_both_behind (before ++ u ∷ []) us later)
    where
      later : along both_ways (before ++ u ∷ []) us ≡ []
      later = right_empty (both_ways before u) (along both_ways (before ++ u ∷ []) us) e

      by : (b c : Bool) → at true u ≡ b → at false u ≡ c → (list_any (at true) us && list_any (at false) us) ≡ false
          → ((b || list_any (at true) us) && (c || list_any (at false) us)) ≡ false
      by true true f g rest = absurd (false≢true (sym (one_way u f) ∙ g))
      by true false f g rest = none_other false (before ++ u ∷ []) us later (any_added (at true) before u f)
      by false true f g rest = ap (λ b. b && true) (none_other true (before ++ u ∷ []) us later (any_added (at false) before u g))
      by false false f g rest = rest

  pub not_both : (uss : List (List Use)) → Each (λ us. self_channels us ≡ []) uss
      → list_any (λ us. list_any (at true) us && list_any (at false) us) uss ≡ false
  not_both [] e = refl
  not_both (us ∷ uss) e =
      ap (λ b. b || list_any (λ us. list_any (at true) us && list_any (at false) us) uss) (not_both_behind [] us e.0)
      ∙ not_both uss e.1
