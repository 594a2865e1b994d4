-- How many statements there are, and how many nodes an expression has.
use Rattle.std.specs.Prelude.{ℕ, ◌+◌, List, sum, sum_by, Option, Some, None}
use Rattle.hc_ast.specs.declared.expr.ExprKind.TheOpen.{ExprKind-F}
use Rattle.hc_ast.specs.declared.expr.ExprTree.{ExprTree, fold-ExprTree}
use Rattle.hc_ast.specs.declared.expr.CondKind.TheOpen.{CondKind-F}
use Rattle.hc_ast.specs.declared.expr.CondTree.{CondTree, fold-CondTree}
use Rattle.hc_ast.specs.declared.stmt.StmtKind.TheOpen.{StmtKind-F}
use Rattle.hc_ast.specs.declared.stmt.StmtTree.{StmtTree, fold-StmtTree}
use Rattle.hc_ast.specs.declared.stmt.BranchTree.{BranchTree, fold-BranchTree}
use Rattle.hc_modules.specs.declared.flat.FlatProcess.{FlatProcess}

-- the signs, numbers and names of an expression
abbrev pub nodes_layer : ExprKind-F ℕ ℕ → ℕ
nodes_layer (ExprKind-F.Number d) = 1
nodes_layer (ExprKind-F.Name x) = 1
nodes_layer (ExprKind-F.Neg a) = 1 + a
nodes_layer (ExprKind-F.Binary op a b) = 1 + a + b

abbrev pub nodes : ExprTree → ℕ
nodes a = fold-ExprTree ℕ ℕ nodes_layer (λ t. t.kind) a

-- those of a condition, its expressions counted
abbrev pub cond_nodes_layer : CondKind-F ℕ ℕ → ℕ
cond_nodes_layer CondKind-F.True = 1
cond_nodes_layer CondKind-F.False = 1
cond_nodes_layer (CondKind-F.Compare how a b) = 1 + nodes a + nodes b
cond_nodes_layer (CondKind-F.Not x) = 1 + x
cond_nodes_layer (CondKind-F.And x y) = 1 + x + y
cond_nodes_layer (CondKind-F.Or x y) = 1 + x + y

abbrev pub cond_nodes : CondTree → ℕ
cond_nodes x = fold-CondTree ℕ ℕ cond_nodes_layer (λ t. t.kind) x

-- a missing else part has no statements
abbrev pub else_count : Option (List ℕ) → ℕ
else_count None = 0
else_count (Some ns) = sum ns

abbrev pub count_layer : StmtKind-F ℕ ℕ ℕ → ℕ
count_layer StmtKind-F.Skip = 1
count_layer (StmtKind-F.Assign target value) = 1
count_layer (StmtKind-F.Wait time) = 1
count_layer (StmtKind-F.Io x) = 1
count_layer (StmtKind-F.Log value) = 1
count_layer (StmtKind-F.If test first second) = 1 + sum first + else_count second
count_layer (StmtKind-F.Pick left right) = 1 + sum left + sum right
count_layer (StmtKind-F.Forever body) = 1 + sum body
count_layer (StmtKind-F.Loop test body) = 1 + sum body
count_layer (StmtKind-F.Choice branches) = 1 + sum branches
count_layer (StmtKind-F.Evolve rates domain branches) = 1 + sum branches

-- a statement is one, with those inside it besides; guards are none
abbrev pub statements : StmtTree → ℕ
statements x = fold-StmtTree ℕ ℕ ℕ count_layer (λ b. sum b.body) (λ t. t.kind) x

abbrev pub branch_statements : BranchTree → ℕ
branch_statements x = fold-BranchTree ℕ ℕ ℕ count_layer (λ b. sum b.body) (λ t. t.kind) x

-- those of a process, and of all
abbrev pub process_statements : FlatProcess → ℕ
process_statements p = sum_by statements p.body

abbrev pub all_statements : List FlatProcess → ℕ
all_statements ps = sum_by process_statements ps
