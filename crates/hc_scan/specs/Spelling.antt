-- What has a fixed spelling, as a keyword or a sign, and where a list of such stands in a text.
use Rattle.std.specs.Prelude.{ℕ, Bool, List, length, Option, find, nat_eq, nat_le}
use Rattle.std.specs.List.{starts_with, list_all}
use Rattle.std.specs.Option.{option_map}
use Rattle.std.specs.Cmp.Lexicographic.{pointwise}

-- the first of a list that is spelled so, if there is one
abbrev pub spelled : {F : Type 0} → (F → List ℕ) → List F → List ℕ → Option F
spelled text ones w = find (λ one. pointwise nat_eq (text one) w) ones

-- the first of a list with whose spelling the text begins, if there is one, and the length of that
abbrev pub in_front : {F : Type 0} → (F → List ℕ) → List F → List ℕ → Option (F × ℕ)
in_front text ones z = option_map (λ one. (one, length (text one))) (find (λ one. starts_with nat_eq z (text one)) ones)

-- whether each of a list is spelled by a byte at least
abbrev pub have_bytes : {F : Type 0} → (F → List ℕ) → List F → Bool
have_bytes text ones = list_all (λ one. nat_le 1 (length (text one))) ones
