-- A line under way: the words that come.
use Rattle.std.specs.Prelude.{ℕ, List, [], ◌∷◌, ◌++◌}
use Rattle.std.specs.Borrow.{Bor}

-- words with a space in front of each, and the newline
abbrev pub tail : List (Bor (List ℕ)) → List ℕ
tail [] = 10 ∷ []
tail (v ∷ vs) = 32 ∷ (v.now ++ tail vs)
