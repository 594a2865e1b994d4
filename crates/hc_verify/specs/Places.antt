-- Places of names in lists, as a search finds them.
use Rattle.std.specs.Prelude.{ℕ, ◌+◌, ◌==◌, Bool, false, if◌then◌else◌, List, [], ◌∷◌, nat_eq, Option, Some, None}
use Rattle.std.specs.Cmp.Lexicographic.{pointwise}
use Rattle.hc_term.specs.declared.system.Process.{Process}

-- the number of the first process of this name, where the first of all has number n
abbrev pub process_from : List ℕ → ℕ → List Process → Option ℕ
process_from name n [] = None
process_from name n (p ∷ ps) = if pointwise nat_eq p.name name then Some n else process_from name (n + 1) ps

-- the number of the first of the names that is this one
abbrev pub name_from : List ℕ → ℕ → List (List ℕ) → Option ℕ
name_from name n [] = None
name_from name n (x ∷ xs) = if pointwise nat_eq x name then Some n else name_from name (n + 1) xs

-- both are there, and the same
abbrev pub is_both : Option ℕ → Option ℕ → Bool
is_both None other = false
is_both (Some p) None = false
is_both (Some p) (Some q) = p == q
