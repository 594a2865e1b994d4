-- The rules that a checked system keeps, as tests: statements, processes and the system.
use Rattle.std.specs.Prelude.{ℕ, zero, suc, ◌+◌, Bool, true, false, not, ◌&&◌, ◌||◌, ◌==◌, nat_eq, nat_le, sum, sum_by, count_by, map, List, length}
use Rattle.std.specs.List.{list_all, list_any}
use Rattle.std.specs.Cmp.Lexicographic.{pointwise}
use Rattle.hc_limits.specs.Limits.{most_variables, most_processes, most_channels, most_statements, most_nodes_in_all}
use Rattle.hc_term.specs.declared.stmt.Io.{Io}
use Rattle.hc_term.specs.declared.stmt.Io.TheVariants.{Send, Receive}
use Rattle.hc_term.specs.declared.stmt.Stmt.{Stmt, fold-Stmt}
use Rattle.hc_term.specs.declared.stmt.Stmt.TheOpen.{Stmt-F, Branch-F}
use Rattle.hc_term.specs.declared.system.Process.{Process}
use Rattle.hc_term.specs.Profile.{nodes, nodes_in, is_expr, is_cond, is_io, are_guards, is_evolution, all_apart}

-- ---- statements: one level, where each statement inside stands for its own answer

-- a branch: its communication, and whether its statements keep the rules
pub record Guard : Type 0 where
  pub io : Io
  pub is_ruled : Bool

abbrev pub ios_of : List Guard → List Io
ios_of gs = map (λ g. g.io) gs

abbrev pub all_ruled : List Guard → Bool
all_ruled gs = list_all (λ g. g.is_ruled) gs

abbrev pub rule_layer : ℕ → ℕ → Stmt-F Bool Guard → Bool
rule_layer channels n Stmt-F.Skip = true
rule_layer channels n (Stmt-F.Assign x e) = nat_le (x + 1) n && is_expr n e
rule_layer channels n (Stmt-F.Wait e) = is_expr n e
rule_layer channels n (Stmt-F.Io io) = is_io channels n io
rule_layer channels n (Stmt-F.Log e) = is_expr n e
rule_layer channels n (Stmt-F.If test first second) = is_cond n test && list_all (λ b. b) first && list_all (λ b. b) second
rule_layer channels n (Stmt-F.Pick left right) = list_all (λ b. b) left && list_all (λ b. b) right
rule_layer channels n (Stmt-F.Forever body) = list_all (λ b. b) body
rule_layer channels n (Stmt-F.Loop test body) = is_cond n test && list_all (λ b. b) body
rule_layer channels n (Stmt-F.Choice guards) = nat_le 1 (length guards) && are_guards channels n (ios_of guards) && all_ruled guards
rule_layer channels n (Stmt-F.Evolve rates domain guards) =
    is_evolution n rates domain (ios_of guards) && are_guards channels n (ios_of guards) && all_ruled guards

abbrev pub guard_layer : Branch-F Bool Guard → Guard
guard_layer b = record { io = b.io; is_ruled = list_all (λ r. r) b.body }

-- a statement of a process with n variables, in a system with so many channels
abbrev pub is_stmt : ℕ → ℕ → Stmt → Bool
is_stmt channels n s = fold-Stmt Bool Guard (rule_layer channels n) guard_layer s

abbrev pub count_layer : Stmt-F ℕ ℕ → ℕ
count_layer (Stmt-F.If test first second) = 1 + sum first + sum second
count_layer (Stmt-F.Pick left right) = 1 + sum left + sum right
count_layer (Stmt-F.Forever body) = 1 + sum body
count_layer (Stmt-F.Loop test body) = 1 + sum body
count_layer (Stmt-F.Choice guards) = 1 + sum guards
count_layer (Stmt-F.Evolve rates domain guards) = 1 + sum guards
count_layer _ = 1

-- one for each statement, with those inside it; guards count none
abbrev pub statements : Stmt → ℕ
statements s = fold-Stmt ℕ ℕ count_layer (λ b. sum b.body) s

abbrev pub sent_nodes : Io → ℕ
sent_nodes (Send channel value) = nodes value
sent_nodes (Receive channel variable) = 0

abbrev pub size_layer : Stmt-F ℕ ℕ → ℕ
size_layer Stmt-F.Skip = 0
size_layer (Stmt-F.Assign x e) = nodes e
size_layer (Stmt-F.Wait e) = nodes e
size_layer (Stmt-F.Io io) = sent_nodes io
size_layer (Stmt-F.Log e) = nodes e
size_layer (Stmt-F.If test first second) = nodes_in test + sum first + sum second
size_layer (Stmt-F.Pick left right) = sum left + sum right
size_layer (Stmt-F.Forever body) = sum body
size_layer (Stmt-F.Loop test body) = nodes_in test + sum body
size_layer (Stmt-F.Choice guards) = sum guards
size_layer (Stmt-F.Evolve rates domain guards) = sum_by (λ r. nodes r.value) rates + nodes_in domain + sum guards

-- the nodes of all expressions and conditions of a statement
abbrev pub size : Stmt → ℕ
size s = fold-Stmt ℕ ℕ size_layer (λ b. sent_nodes b.io + sum b.body) s

-- whether a communication sends, or receives, on channel c
abbrev pub is_on : Bool → ℕ → Io → Bool
is_on true c (Send channel value) = channel == c
is_on false c (Receive channel variable) = channel == c
is_on _ c _ = false

abbrev pub use_layer : Bool → ℕ → Stmt-F Bool Bool → Bool
use_layer sending c (Stmt-F.Io io) = is_on sending c io
use_layer sending c (Stmt-F.If test first second) = list_any (λ b. b) first || list_any (λ b. b) second
use_layer sending c (Stmt-F.Pick left right) = list_any (λ b. b) left || list_any (λ b. b) right
use_layer sending c (Stmt-F.Forever body) = list_any (λ b. b) body
use_layer sending c (Stmt-F.Loop test body) = list_any (λ b. b) body
use_layer sending c (Stmt-F.Choice guards) = list_any (λ b. b) guards
use_layer sending c (Stmt-F.Evolve rates domain guards) = list_any (λ b. b) guards
use_layer sending c _ = false

-- whether a statement sends, or receives, on channel c
abbrev pub uses : Bool → ℕ → Stmt → Bool
uses sending c s = fold-Stmt Bool Bool (use_layer sending c) (λ b. is_on sending c b.io || list_any (λ u. u) b.body) s

-- ---- processes

-- few variables, at least one statement
abbrev pub is_process : ℕ → Process → Bool
is_process channels p =
    nat_le (length p.variables) most_variables && nat_le 1 (length p.body) && list_all (is_stmt channels (length p.variables)) p.body

abbrev pub is_user : Bool → ℕ → Process → Bool
is_user sending c p = list_any (uses sending c) p.body

abbrev pub same_name : Process → Process → Bool
same_name p q = pointwise nat_eq p.name q.name

-- ---- the system

-- at most one process sends on the channel and at most one receives, and they differ
abbrev pub is_joined : List Process → ℕ → Bool
is_joined ps c =
    nat_le (count_by (is_user true c) ps) 1 && nat_le (count_by (is_user false c) ps) 1 &&
    not (list_any (λ p. is_user true c p && is_user false c p) ps)

-- the statements of a process, and the nodes of its expressions
abbrev pub body_statements : Process → ℕ
body_statements p = sum_by statements p.body

abbrev pub body_size : Process → ℕ
body_size p = sum_by size p.body

abbrev pub all_below : ℕ → (ℕ → Bool) → Bool
all_below zero f = true
all_below (suc n) f = all_below n f && f n

-- at least one process, and few processes and channels
abbrev pub are_few : List Process → List (List ℕ) → Bool
are_few ps channels = nat_le 1 (length ps) && nat_le (length ps) most_processes && nat_le (length channels) most_channels

-- processes and channels of different names, within the limits of statements and of nodes in all, all of which keep the rules
abbrev pub keeps_rules : List Process → List (List ℕ) → Bool
keeps_rules ps channels =
    are_few ps channels &&
    (all_apart same_name ps && all_apart (pointwise nat_eq) channels) &&
    (nat_le (sum_by body_statements ps) most_statements && nat_le (sum_by body_size ps) most_nodes_in_all) &&
    (list_all (is_process (length channels)) ps && all_below (length channels) (is_joined ps))
