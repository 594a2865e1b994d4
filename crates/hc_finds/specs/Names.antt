-- Names in the order of their first occurrence, and their numbers.
use Rattle.std.specs.Prelude.{ℕ, not, List, [], ◌∷◌, filter}
use Rattle.std.specs.List.{position_or_len}
use Rattle.hc_ast.specs.Bare.{Word}
use Rattle.hc_modules.specs.Bindings.{same_word}

-- each name once, in the order of its first occurrence
abbrev pub first_occurrences : List Word → List Word
first_occurrences [] = []
first_occurrences (x ∷ xs) = x ∷ filter (λ y. not (same_word x y)) (first_occurrences xs)

-- the number of a name: how many names stand before it
abbrev pub number_in : List Word → Word → ℕ
number_in names x = position_or_len (same_word x) names
