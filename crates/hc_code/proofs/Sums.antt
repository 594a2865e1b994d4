-- The number of statements so far, in a loop over statements or branches.
use Rattle.std.proofs.Common.{◌≡◌, sym, ap, ◌∙◌, ℕ, ◌+◌, ◌<◌, ◌≤◌, List, length, take, get_or, sum_by, arith}
use Rattle.std.proofs.lemmas.List.Sums.{sum_by_more, sum_by_more_le}

module _ {X : Type 0} (f : X → ℕ) (xs : List X) (i : ℕ) (x : X) (h : i < length xs) (e : x ≡ get_or xs i x) where
  pub more : sum_by f (take (i + 1) xs) ≡ sum_by f (take i xs) + f x
  more = sum_by_more f xs i x h ∙ ap (λ y. sum_by f (take i xs) + f y) (sym e)

  pub within : sum_by f (take i xs) + f x ≤ sum_by f xs
  within = omega (arith, sum_by_more_le f xs i x h, ap f e)
