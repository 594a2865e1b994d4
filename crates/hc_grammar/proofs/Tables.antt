-- The laws of a table, computed over the lists of its kinds and of its heads.
use Rattle.std.proofs.Common.{◌≡◌, refl, subst, ℕ, zero, suc, Bool, true, false, not, ◌&&◌, ◌||◌, List, [], ◌∷◌, Some}
use Rattle.std.specs.List.{slice_get, list_all}
use Rattle.hc_grammar.specs.Table.{Symbols, Entry, Takes, Skips, Refuses, Table}
use Rattle.hc_grammar.specs.Ll1.{fits, IsLl1}
use Rattle.hc_grammar.specs.Ends.{wants_last, EndsBy}
use Rattle.hc_grammar.proofs.Complete.{and_both, or_then}

-- each value of the type stands in the list, at its own number
pub record IsListed {X : Type 0} (xs : List X) : Type 0 where
  pub number : X → ℕ
  pub at : (x : X) → slice_get xs (number x) ≡ Some x

all_at : {X : Type 0} (p : X → Bool) (xs : List X) → list_all p xs ≡ true
    → (i : ℕ) (x : X) → slice_get xs i ≡ Some x → p x ≡ true
all_at p [] e i x f = absurd (cc)
all_at p (y ∷ xs) e zero x f =
    let here : y ≡ x = cc in subst (λ z. p z ≡ true) here (and_both (p y) (list_all p xs) e).0
all_at p (y ∷ xs) e (suc i) x f = all_at p xs (and_both (p y) (list_all p xs) e).1 i x f

-- a test that holds of each in the list holds of every value
pub all_listed : {X : Type 0} {xs : List X} → IsListed xs → (p : X → Bool) → list_all p xs ≡ true → (x : X) → p x ≡ true
all_listed {xs = xs} listed p e x = all_at p xs e (listed.number x) x (listed.at x)

-- whether two tests answer alike
abbrev pub same_answer : Bool → Bool → Bool
same_answer true b = b
same_answer false b = not b

answers_alike : (a b : Bool) → same_answer a b ≡ true → a ≡ b
answers_alike true true e = refl
answers_alike true false e = absurd (cc)
answers_alike false true e = absurd (cc)
answers_alike false false e = refl

not_both : (a b : Bool) → not (a && b) ≡ true → a ≡ true → b ≡ true → ⊥
not_both true true e f g = cc
not_both true false e f g = cc
not_both false b e f g = cc

is_false : (a : Bool) → not a ≡ true → a ≡ false
is_false true e = absurd (cc)
is_false false e = refl

module _ {K H A B : Type 0} (g : Table K H A B) (last : K) (kinds : List K) where
  -- whether a row keeps the laws
  abbrev pub good_row : H → K → Entry K H A B → Bool
  good_row h k (Takes role p) =
      not (g.empties h && g.follow h k) && ((not (g.same last k) && not (wants_last g last p))
      && list_all (λ j. fits g p j (g.follow h j)) kinds)
  good_row h k Skips = g.empties h
  good_row h k Refuses = not (g.empties h && g.follow h k)

  -- whether all rows of a head do
  abbrev pub good : H → Bool
  good h = list_all (λ k. good_row h k (g.entry h k)) kinds

  -- whether what takes a last token takes no other
  abbrev pub alike : K → Bool
  alike j = list_all (λ k. not (g.same j k) || same_answer (g.same j last) (g.same last k)) kinds

  module _ (heads : List H) (kinds_listed : IsListed kinds) (heads_listed : IsListed heads)
      (all_good : list_all good heads ≡ true) where
    row_good : (h : H) (k : K) → good_row h k (g.entry h k) ≡ true
    row_good h k = all_listed kinds_listed (λ j. good_row h j (g.entry h j)) (all_listed heads_listed good all_good h) k

    row_is : (h : H) (k : K) (row : Entry K H A B) → g.entry h k ≡ row → good_row h k row ≡ true
    row_is h k row e = subst (λ r. good_row h k r ≡ true) e (row_good h k)

    skipped_where : (h : H) (k : K) (row : Entry K H A B) → good_row h k row ≡ true
        → g.empties h ≡ true → g.follow h k ≡ true → row ≡ Skips
    skipped_where h k (Takes role p) e empty follows =
        absurd (not_both (g.empties h) (g.follow h k) (and_both (not (g.empties h && g.follow h k))
        ((not (g.same last k) && not (wants_last g last p)) && list_all (λ j. fits g p j (g.follow h j)) kinds) e).0 empty follows)
    skipped_where h k Skips e empty follows = refl
    skipped_where h k Refuses e empty follows = absurd (not_both (g.empties h) (g.follow h k) e empty follows)

    -- what a good row that takes a token says
    taking : (h : H) (k : K) (role : A) (p : Symbols K H A B) → g.entry h k ≡ Takes role p
        → (g.same last k ≡ false) × (wants_last g last p ≡ false) × (list_all (λ j. fits g p j (g.follow h j)) kinds ≡ true)
    taking h k role p e =
        let fitting = list_all (λ j. fits g p j (g.follow h j)) kinds in
        let own = not (g.same last k) && not (wants_last g last p) in
        let (_, more) = and_both (not (g.empties h && g.follow h k)) (own && fitting) (row_is h k (Takes role p) e) in
        let (neither, fit) = and_both own fitting more in
        let (first, later) = and_both (not (g.same last k)) (not (wants_last g last p)) neither in
        (is_false (g.same last k) first, is_false (wants_last g last p) later, fit)

    pub is_ll1 : IsLl1 g
    is_ll1 = record {
      empty = λ h k e. row_is h k Skips e;
      apart = λ h k. skipped_where h k (g.entry h k) (row_good h k);
      fitting = λ h k role p e j. all_listed kinds_listed (λ i. fits g p i (g.follow h i)) (taking h k role p e).2 j;
    }

    pub ends_by : list_all alike kinds ≡ true → EndsBy g last
    ends_by all_alike = record {
      alike = λ j k e.
          let test = λ (i : K). not (g.same j i) || same_answer (g.same j last) (g.same last i) in
          let holds = all_listed kinds_listed test (all_listed kinds_listed alike all_alike j) k in
          answers_alike (g.same j last) (g.same last k) (or_then (g.same j k) (same_answer (g.same j last) (g.same last k)) holds e);
      never_first = λ h k role p e. (taking h k role p e).0;
      never_later = λ h k role p e. (taking h k role p e).1;
    }
