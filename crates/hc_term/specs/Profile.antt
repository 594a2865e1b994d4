-- The rules that a checked system keeps, as tests: expressions, communications and evolutions.
use Rattle.std.specs.Prelude.{ℕ, ◌+◌, Bool, true, false, not, ◌&&◌, ◌==◌, nat_le, nat_lt, max, List, [], ◌∷◌, length, map, replicate, slice_set, Some, None}
use Rattle.std.specs.List.{list_all, list_any}
use Rattle.hc_limits.specs.Limits.{most_nodes, most_guards}
use Rattle.hc_rational.specs.Words.{zero_ℚ}
use Rattle.hc_term.specs.declared.expr.Expr.{Expr, fold-Expr}
use Rattle.hc_term.specs.declared.expr.Expr.TheOpen.{Expr-F}
use Rattle.hc_term.specs.declared.expr.Cond.{Cond, fold-Cond}
use Rattle.hc_term.specs.declared.expr.Cond.TheOpen.{Cond-F}
use Rattle.hc_term.specs.declared.stmt.Io.{Io}
use Rattle.hc_term.specs.declared.stmt.Io.TheVariants.{Send, Receive}
use Rattle.hc_term.specs.declared.stmt.Rate.{Rate}
use Rattle.hc_term.specs.declared.stmt.Branch.{Branch, out-Branch}
use Rattle.hc_term.specs.Motion.{Rates, form}
use Rattle.hc_term.specs.EndMoment.{is_domain}

-- ---- expressions and conditions

-- the signs, numbers and variables of an expression
abbrev pub nodes_layer : Expr-F ℕ → ℕ
nodes_layer (Expr-F.Number q) = 1
nodes_layer (Expr-F.Variable x) = 1
nodes_layer (Expr-F.Neg a) = 1 + a
nodes_layer (Expr-F.Binary op a b) = 1 + a + b

abbrev pub nodes : Expr → ℕ
nodes e = fold-Expr ℕ nodes_layer e

abbrev pub nodes_in_layer : Cond-F ℕ → ℕ
nodes_in_layer Cond-F.True = 1
nodes_in_layer Cond-F.False = 1
nodes_in_layer (Cond-F.Compare how a b) = 1 + nodes a + nodes b
nodes_in_layer (Cond-F.Not c) = 1 + c
nodes_in_layer (Cond-F.And b c) = 1 + b + c
nodes_in_layer (Cond-F.Or b c) = 1 + b + c

-- those of a condition, its expressions counted
abbrev pub nodes_in : Cond → ℕ
nodes_in c = fold-Cond ℕ nodes_in_layer c

abbrev pub reach_layer : Expr-F ℕ → ℕ
reach_layer (Expr-F.Number q) = 0
reach_layer (Expr-F.Variable x) = x + 1
reach_layer (Expr-F.Neg a) = a
reach_layer (Expr-F.Binary op a b) = max a b

-- one more than the greatest variable
abbrev pub reach : Expr → ℕ
reach e = fold-Expr ℕ reach_layer e

abbrev pub reach_in_layer : Cond-F ℕ → ℕ
reach_in_layer Cond-F.True = 0
reach_in_layer Cond-F.False = 0
reach_in_layer (Cond-F.Compare how a b) = max (reach a) (reach b)
reach_in_layer (Cond-F.Not c) = c
reach_in_layer (Cond-F.And b c) = max b c
reach_in_layer (Cond-F.Or b c) = max b c

abbrev pub reach_in : Cond → ℕ
reach_in c = fold-Cond ℕ reach_in_layer c

-- an expression over n variables, within the limit of nodes, whose divisors are numbers other than 0; so a condition
abbrev pub is_expr : ℕ → Expr → Bool
is_expr n e = nat_le (nodes e) most_nodes && nat_le (reach e) n && (form [] e).affine

abbrev pub is_cond : ℕ → Cond → Bool
is_cond n c = nat_le (nodes_in c) most_nodes && nat_le (reach_in c) n && is_domain [] c

-- ---- communications and evolutions

-- a communication of a process with n variables, in a system with so many channels
abbrev pub is_io : ℕ → ℕ → Io → Bool
is_io channels n (Send channel value) = nat_lt channel channels && is_expr n value
is_io channels n (Receive channel variable) = nat_lt channel channels && nat_lt variable n

abbrev pub is_same_io : Io → Io → Bool
is_same_io (Send c e) (Send d f) = c == d
is_same_io (Receive c x) (Receive d y) = c == d
is_same_io _ _ = false

abbrev pub all_apart : {A : Type 0} → (A → A → Bool) → List A → Bool
all_apart same [] = true
all_apart same (x ∷ xs) = not (list_any (same x) xs) && all_apart same xs

-- the communications of branches
abbrev pub ios_in : List Branch → List Io
ios_in bs = map (λ b. (out-Branch b).io) bs

-- few guards, no channel guarded twice in one direction
abbrev pub are_guards : ℕ → ℕ → List Io → Bool
are_guards channels n ios = nat_le (length ios) most_guards && list_all (is_io channels n) ios && all_apart is_same_io ios

-- which of n variables evolve
abbrev pub pattern_from : Rates → List Rate → Rates
pattern_from before [] = before
pattern_from before (r ∷ rs) = pattern_from (slice_set before r.variable (Some zero_ℚ)) rs

abbrev pub pattern_of : ℕ → List Rate → Rates
pattern_of n rs = pattern_from (replicate n None) rs

abbrev pub same_variable : Rate → Rate → Bool
same_variable r q = r.variable == q.variable

abbrev pub is_rate : ℕ → Rates → Rate → Bool
is_rate n pattern r = nat_lt r.variable n && is_expr n r.value && not (form pattern r.value).moves

abbrev pub sends_affine : Rates → Io → Bool
sends_affine pattern (Send channel value) = (form pattern value).affine
sends_affine pattern (Receive channel variable) = true

-- the rates of an evolution: at least one, of different variables
abbrev pub are_rates : ℕ → Rates → List Rate → Bool
are_rates n pattern rates = nat_le 1 (length rates) && all_apart same_variable rates && list_all (is_rate n pattern) rates

-- the domain of an evolution: any condition over affine expressions
abbrev pub is_moving_domain : ℕ → Rates → Cond → Bool
is_moving_domain n pattern domain = is_cond n domain && is_domain pattern domain

-- an evolution of the constant-rate profile
abbrev pub is_evolution : ℕ → List Rate → Cond → List Io → Bool
is_evolution n rates domain ios =
    are_rates n (pattern_of n rates) rates && is_moving_domain n (pattern_of n rates) domain && list_all (sends_affine (pattern_of n rates)) ios
