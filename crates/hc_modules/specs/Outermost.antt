-- The outermost expressions and conditions of statements, and what statements write, in the order of the text.
use Rattle.std.specs.Prelude.{ℕ, List, [], ◌∷◌, ◌++◌, map, flat_map, sum_by, Option, Some, None}
use Rattle.hc_frac.specs.declared.place.Place.{Place}
use Rattle.hc_ast.specs.declared.expr.ExprTree.{ExprTree}
use Rattle.hc_ast.specs.declared.expr.CondTree.{CondTree}
use Rattle.hc_ast.specs.declared.stmt.IoTree.{IoTree}
use Rattle.hc_ast.specs.declared.stmt.IoTree.TheVariants as io_of
use Rattle.hc_ast.specs.declared.stmt.RateTree.{RateTree}
use Rattle.hc_ast.specs.declared.stmt.StmtKind.TheOpen.{StmtKind-F, BranchTree-F}
use Rattle.hc_ast.specs.declared.stmt.StmtTree.{StmtTree, fold-StmtTree}
use Rattle.hc_ast.specs.declared.stmt.BranchTree.{BranchTree, fold-BranchTree}
use Rattle.hc_ast.specs.Bare.{Word}
use Rattle.hc_modules.specs.declared.flat.FlatProcess.{FlatProcess}
use Rattle.hc_modules.specs.Sizes.{nodes, cond_nodes}

-- the lists in a row
abbrev pub in_a_row : {X : Type 0} → List (List X) → List X
in_a_row xss = flat_map (λ xs. xs) xss

-- a missing else part has nothing
abbrev pub else_in_a_row : {X : Type 0} → Option (List (List X)) → List X
else_in_a_row None = []
else_in_a_row (Some xss) = in_a_row xss

-- ---- outermost expressions

-- an outermost expression, or a condition with its expressions: the place of its root, and its nodes
pub record Outermost : Type 0 where
  pub place : Place
  pub size : ℕ

abbrev pub of_expr : ExprTree → Outermost
of_expr a = record { place = a.place; size = nodes a }

abbrev pub of_cond : CondTree → Outermost
of_cond x = record { place = x.place; size = cond_nodes x }

abbrev pub of_io : IoTree → List Outermost
of_io (io_of.Send channel value) = of_expr value ∷ []
of_io (io_of.Receive channel target) = []

-- one level of a statement; a loop's test stands behind its body
abbrev pub outermost_layer : StmtKind-F (List Outermost) (List Outermost) (List Outermost) → List Outermost
outermost_layer StmtKind-F.Skip = []
outermost_layer (StmtKind-F.Assign target value) = of_expr value ∷ []
outermost_layer (StmtKind-F.Wait time) = of_expr time ∷ []
outermost_layer (StmtKind-F.Io x) = of_io x
outermost_layer (StmtKind-F.Log value) = of_expr value ∷ []
outermost_layer (StmtKind-F.If test first second) = of_cond test ∷ in_a_row first ++ else_in_a_row second
outermost_layer (StmtKind-F.Pick left right) = in_a_row left ++ in_a_row right
outermost_layer (StmtKind-F.Forever body) = in_a_row body
outermost_layer (StmtKind-F.Loop test body) = in_a_row body ++ of_cond test ∷ []
outermost_layer (StmtKind-F.Choice branches) = in_a_row branches
outermost_layer (StmtKind-F.Evolve rates domain branches) =
    map (λ r. of_expr r.value) rates ++ of_cond domain ∷ in_a_row branches

abbrev pub outermost_branch : BranchTree-F (List Outermost) (List Outermost) (List Outermost) → List Outermost
outermost_branch b = of_io b.io ++ in_a_row b.body

abbrev pub outermost : StmtTree → List Outermost
outermost x =
    fold-StmtTree (List Outermost) (List Outermost) (List Outermost) outermost_layer outermost_branch (λ t. t.kind) x

abbrev pub branch_outermost : BranchTree → List Outermost
branch_outermost x =
    fold-BranchTree (List Outermost) (List Outermost) (List Outermost) outermost_layer outermost_branch (λ t. t.kind) x

-- those of all processes, in order
abbrev pub all_outermost : List FlatProcess → List Outermost
all_outermost ps = flat_map (λ p. flat_map outermost p.body) ps

-- how many nodes they have together
abbrev pub total_size : List Outermost → ℕ
total_size xs = sum_by (λ x. x.size) xs

-- ---- what is written

-- a variable that is written, and the place of the statement, branch or rate that does
pub record Written : Type 0 where
  pub place : Place
  pub variable : Word

abbrev pub written_at : Place → Word → Written
written_at p x = record { place = p; variable = x }

abbrev pub by_io : IoTree → Place → List Written
by_io (io_of.Send channel value) p = []
by_io (io_of.Receive channel target) p = written_at p target ∷ []

abbrev pub by_rate : RateTree → Written
by_rate r = written_at r.place r.variable

-- one level of a statement at a place
abbrev pub written_layer : StmtKind-F (Place → List Written) (List Written) (List Written) → Place → List Written
written_layer StmtKind-F.Skip p = []
written_layer (StmtKind-F.Assign target value) p = written_at p target ∷ []
written_layer (StmtKind-F.Wait time) p = []
written_layer (StmtKind-F.Io x) p = by_io x p
written_layer (StmtKind-F.Log value) p = []
written_layer (StmtKind-F.If test first second) p = in_a_row first ++ else_in_a_row second
written_layer (StmtKind-F.Pick left right) p = in_a_row left ++ in_a_row right
written_layer (StmtKind-F.Forever body) p = in_a_row body
written_layer (StmtKind-F.Loop test body) p = in_a_row body
written_layer (StmtKind-F.Choice branches) p = in_a_row branches
written_layer (StmtKind-F.Evolve rates domain branches) p = map by_rate rates ++ in_a_row branches

abbrev pub written_branch : BranchTree-F (Place → List Written) (List Written) (List Written) → List Written
written_branch b = by_io b.io b.place ++ in_a_row b.body

abbrev pub written : StmtTree → List Written
written x =
    fold-StmtTree (Place → List Written) (List Written) (List Written) written_layer written_branch (λ t. t.kind t.place) x

abbrev pub branch_written : BranchTree → List Written
branch_written x =
    fold-BranchTree (Place → List Written) (List Written) (List Written) written_layer written_branch (λ t. t.kind t.place) x
