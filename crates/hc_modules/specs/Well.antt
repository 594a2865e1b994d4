-- What every list of processes from a tree that the grammar has keeps.
use Rattle.std.specs.Prelude.{◌≡◌, ◌≤◌, Bool, true, not, ◌&&◌, nat_le, List, [], ◌∷◌, length, Option, Some, None, IsTrue}
use Rattle.std.specs.List.{list_all, list_any}
use Rattle.hc_limits.specs.Limits.{most_processes, most_statements, most_nodes_in_all}
use Rattle.hc_ast.specs.declared.stmt.StmtKind.TheOpen.{StmtKind-F}
use Rattle.hc_ast.specs.declared.stmt.StmtTree.{StmtTree, fold-StmtTree}
use Rattle.hc_ast.specs.declared.stmt.BranchTree.{BranchTree, fold-BranchTree}
use Rattle.hc_modules.specs.declared.flat.Flat.{Flat}
use Rattle.hc_modules.specs.declared.flat.FlatProcess.{FlatProcess}
use Rattle.hc_modules.specs.Bindings.{same_word}
use Rattle.hc_modules.specs.Sizes.{all_statements}
use Rattle.hc_modules.specs.Outermost.{all_outermost, total_size}
use Rattle.hc_modules.specs.Refusals.{IsFlat}

-- at least one, and all of them full
abbrev pub some_full : List Bool → Bool
some_full bs = nat_le 1 (length bs) && list_all (λ b. b) bs

abbrev pub else_full : Option (List Bool) → Bool
else_full None = true
else_full (Some bs) = some_full bs

abbrev pub full_layer : StmtKind-F Bool Bool Bool → Bool
full_layer StmtKind-F.Skip = true
full_layer (StmtKind-F.Assign target value) = true
full_layer (StmtKind-F.Wait time) = true
full_layer (StmtKind-F.Io x) = true
full_layer (StmtKind-F.Log value) = true
full_layer (StmtKind-F.If test first second) = some_full first && else_full second
full_layer (StmtKind-F.Pick left right) = some_full left && some_full right
full_layer (StmtKind-F.Forever body) = some_full body
full_layer (StmtKind-F.Loop test body) = some_full body
full_layer (StmtKind-F.Choice branches) = some_full branches
full_layer (StmtKind-F.Evolve rates domain branches) = nat_le 1 (length rates) && list_all (λ b. b) branches

-- whether no list inside a statement is empty where the grammar wants an element: only an evolution may have no branches
abbrev pub is_full : StmtTree → Bool
is_full x = fold-StmtTree Bool Bool Bool full_layer (λ b. some_full b.body) (λ t. t.kind) x

abbrev pub is_full_branch : BranchTree → Bool
is_full_branch x = fold-BranchTree Bool Bool Bool full_layer (λ b. some_full b.body) (λ t. t.kind) x

-- at least one statement, and all of them full
abbrev pub is_full_process : FlatProcess → Bool
is_full_process p = nat_le 1 (length p.body) && list_all is_full p.body

-- no two have one name
abbrev pub names_apart : List FlatProcess → Bool
names_apart [] = true
names_apart (p ∷ ps) = not (list_any (λ q. same_word p.name q.name) ps) && names_apart ps

-- at least one process, of different names, each of them full, within the limits of processes, statements and nodes
pub record IsWell (flat : Flat) : Type 0 where
  pub some : 1 ≤ length flat.processes
  pub few : length flat.processes ≤ most_processes
  pub apart : IsTrue (names_apart flat.processes)
  pub full : IsTrue (list_all is_full_process flat.processes)
  pub counted : flat.statements ≡ all_statements flat.processes
  pub statements : all_statements flat.processes ≤ most_statements
  pub nodes : total_size (all_outermost flat.processes) ≤ most_nodes_in_all

abbrev pub FlatsAreWell : Type 0
FlatsAreWell = (flat : Flat) → IsFlat flat → IsWell flat
