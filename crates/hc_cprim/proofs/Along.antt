-- Values that are worked out along a list of formulas, each into its place.
use Rattle.std.proofs.Common.{◌≡◌, ℕ, ◌≤◌, Bool, List, ◌++◌, length, take, drop, Ok, Err}
use Rattle.std.specs.Prelude.{ℤ}
use Rattle.hc_cmach.specs.Expression.{Values}
use Rattle.hc_ccode.specs.declared.code.Formula.{Formula}
use Rattle.hc_cprim.specs.Worth.{worths_at}

-- these values in front of others
abbrev pub in_front : List ℤ → Values → Values
in_front zs (Err k) = Err k
in_front zs (Ok ws) = Ok (zs ++ ws)

-- the values of all formulas are those so far, in front of the values of the rest
abbrev pub IsAlong : List ℤ → Bool → List (List ℤ) → List Formula → List ℤ → ℕ → Type 0
IsAlong values owns arrays fs into i =
    length fs ≤ length into → worths_at values owns arrays fs ≡ in_front (take i into) (worths_at values owns arrays (drop i fs))
