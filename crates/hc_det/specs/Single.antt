-- Branches of which there is at most one.
use Rattle.std.specs.Prelude.{Bool, true, false, List, [], ◌∷◌}
use Rattle.std.specs.List.{list_all}
use Rattle.hc_term.specs.declared.stmt.Branch.{Branch, out-Branch}
use Rattle.hc_order.specs.Determinate.{is_single}

-- there is at most one branch, and the statements behind it are single
abbrev pub one_branch : List Branch → Bool
one_branch [] = true
one_branch (b ∷ []) = list_all is_single (out-Branch b).body
one_branch (b ∷ c ∷ bs) = false
