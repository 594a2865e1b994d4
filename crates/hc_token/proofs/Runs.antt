-- The elements at the front of a list that pass a test.
use Rattle.std.proofs.Common.{◌≡◌, ◌+◌, ◌≤◌, true, false, Bool, cond, List, [], ◌∷◌, length, take, refl, one-add}
use Rattle.std.specs.List.{list_all, prefix_len}
use Rattle.std.proofs.lemmas.List.Sums.{prefix_len-le-length}
use Rattle.std.proofs.lemmas.Bool.{and_from}

pub run_within : {X : Type 0} (p : X → Bool) (xs : List X) → prefix_len p xs ≤ length xs
run_within = prefix_len-le-length

one_more : {X : Type 0} (p : X → Bool) (x : X) (xs : List X) (b : Bool) → p x ≡ b
    → list_all p (take (prefix_len p xs) xs) ≡ true
    → list_all p (take (cond b (1 + prefix_len p xs) 0) (x ∷ xs)) ≡ true
one_more p x xs true e h = rw one-add (and_from (p x) (list_all p (take (prefix_len p xs) xs)) e h)
one_more p x xs false e h = refl

pub all_of_run : {X : Type 0} (p : X → Bool) (xs : List X) → list_all p (take (prefix_len p xs) xs) ≡ true
all_of_run p [] = refl
all_of_run p (x ∷ xs) = one_more p x xs (p x) refl (all_of_run p xs)
