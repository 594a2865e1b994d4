-- The count of statements, process by process.
use Rattle.std.proofs.Common.{◌≡◌, ap, sym, ◌∙◌, ℕ, suc, add-one, ◌+◌, ◌<◌, ◌≤◌, nat_lt, List, [], ◌∷◌, ◌++◌, map, take, drop, get_or, length, Err, arith}
use Rattle.std.proofs.lemmas.List.Sums.{sum_by-append, sum_by-cons}
use Rattle.std.proofs.lemmas.List.{take_more, map-append}
use Rattle.std.proofs.Math.Seq.{drop-cons}
use Rattle.std.proofs.lemmas.Bool.{lt-ltb, le-ltb}
use Rattle.hc_modules.specs.Found.{count_of}
use Rattle.hc_frac.specs.declared.place.Place.{Place}
use Rattle.hc_modules.specs.declared.flat.FlatProcess.{FlatProcess}
use Rattle.hc_modules.specs.Finds.{along, only_if}
use Rattle.hc_modules.specs.Sizes.{process_statements, all_statements}

-- what is found from a process on, with those before it
abbrev pub too_many_behind : List FlatProcess → List FlatProcess → List Place
too_many_behind before ps = along (λ before p. only_if (nat_lt 10000 (all_statements (before ++ p ∷ []))) p.place) before ps

module _ {X : Type 0} (f : X → FlatProcess) (xs : List X) (i : ℕ) (x : X) (h : i < length xs) (is : x ≡ get_or xs i x) where
  one_behind : map f (drop i xs) ≡ f x ∷ map f (drop (i + 1) xs)
  one_behind =
      ap (map f) (drop-cons xs i x h) ∙ ap (λ y. f y ∷ map f (drop (suc i) xs)) (sym is) ∙ ap (λ j. f x ∷ map f (drop j xs)) (sym (add-one i))

  one_before : map f (take (i + 1) xs) ≡ map f (take i xs) ++ f x ∷ []
  one_before =
      ap (map f) (take_more xs i x h) ∙ map-append f (take i xs) (get_or xs i x ∷ []) ∙ ap (λ y. map f (take i xs) ++ f y ∷ []) (sym is)

  pub statements_before : all_statements (map f (take (i + 1) xs)) ≡ all_statements (map f (take i xs)) + process_statements (f x)
  statements_before =
      ap all_statements one_before ∙ sum_by-append process_statements (map f (take i xs)) (f x ∷ [])
      ∙ ap (λ n. all_statements (map f (take i xs)) + n) (sum_by-cons process_statements (f x) [] ∙ omega arith)

  pub too_many_at : too_many_behind (map f (take i xs)) (map f (drop i xs))
      ≡ only_if (nat_lt 10000 (all_statements (map f (take (i + 1) xs)))) (f x).place
      ++ too_many_behind (map f (take (i + 1) xs)) (map f (drop (i + 1) xs))
  too_many_at =
      ap (too_many_behind (map f (take i xs))) one_behind
      ∙ ap (λ b. only_if (nat_lt 10000 (all_statements b)) (f x).place ++ too_many_behind b (map f (drop (i + 1) xs))) (sym one_before)

  -- the count ends with the first process beyond 10,000
  pub ends_beyond : (n : ℕ) → 10000 < all_statements (map f (take (i + 1) xs))
      → Err (f x).place ≡ count_of (too_many_behind (map f (take i xs)) (map f (drop i xs))) n
  ends_beyond n k =
      sym (ap (λ ps. count_of ps n) too_many_at
      ∙ ap (λ b. count_of (only_if b (f x).place ++ too_many_behind (map f (take (i + 1) xs)) (map f (drop (i + 1) xs))) n) (lt-ltb 10000 (all_statements (map f (take (i + 1) xs))) k))

  -- and else goes on
  pub goes_on_within : (n : ℕ) → all_statements (map f (take (i + 1) xs)) ≤ 10000
      → count_of (too_many_behind (map f (take i xs)) (map f (drop i xs))) n
      ≡ count_of (too_many_behind (map f (take (i + 1) xs)) (map f (drop (i + 1) xs))) n
  goes_on_within n k =
      ap (λ ps. count_of ps n) too_many_at
      ∙ ap (λ b. count_of (only_if b (f x).place ++ too_many_behind (map f (take (i + 1) xs)) (map f (drop (i + 1) xs))) n) (le-ltb 10000 (all_statements (map f (take (i + 1) xs))) k)
