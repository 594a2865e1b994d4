-- A module's statements in a call: arguments stand where parameters stood.
use Rattle.std.specs.Prelude.{map, Option, Some, None}
use Rattle.hc_frac.specs.declared.place.Place.{Place}
use Rattle.hc_ast.specs.declared.expr.ExprKind.TheOpen.{ExprKind-F}
use Rattle.hc_ast.specs.declared.expr.ExprKind.TheVariants as e
use Rattle.hc_ast.specs.declared.expr.ExprTree.{ExprTree, fold-ExprTree}
use Rattle.hc_ast.specs.declared.expr.CondKind.{CondKind, fold-CondKind}
use Rattle.hc_ast.specs.declared.expr.CondKind.TheOpen.{CondKind-F}
use Rattle.hc_ast.specs.declared.expr.CondKind.TheVariants as c
use Rattle.hc_ast.specs.declared.expr.CondTree.{CondTree, fold-CondTree}
use Rattle.hc_ast.specs.declared.stmt.IoTree.{IoTree}
use Rattle.hc_ast.specs.declared.stmt.IoTree.TheVariants as io_of
use Rattle.hc_ast.specs.declared.stmt.RateTree.{RateTree}
use Rattle.hc_ast.specs.declared.stmt.StmtKind.{StmtKind, fold-StmtKind}
use Rattle.hc_ast.specs.declared.stmt.StmtKind.TheOpen.{StmtKind-F, BranchTree-F}
use Rattle.hc_ast.specs.declared.stmt.StmtKind.TheVariants as s
use Rattle.hc_ast.specs.declared.stmt.StmtTree.{StmtTree, fold-StmtTree}
use Rattle.hc_ast.specs.declared.stmt.BranchTree.{BranchTree, fold-BranchTree}
use Rattle.hc_ast.specs.Bare.{Word}
use Rattle.hc_ast.specs.Exprs.{expr_at}
use Rattle.hc_ast.specs.Conds.{cond_at}
use Rattle.hc_ast.specs.StmtTrees.{stmt_at, branch_at}
use Rattle.hc_modules.specs.Bindings.{Bindings, channel_for, value_for}

-- the argument where there is one, else the name at its own place
abbrev pub name_or : Option ExprTree → Word → Place → ExprTree
name_or (Some argument) x p = argument
name_or None x p = expr_at p (e.Name x)

-- one level of an expression, whose parts have their arguments already, at a place
abbrev pub expr_layer : Bindings → ExprKind-F (Place → ExprTree) ExprTree → Place → ExprTree
expr_layer bs (ExprKind-F.Number d) p = expr_at p (e.Number d)
expr_layer bs (ExprKind-F.Name x) p = name_or (value_for bs x) x p
expr_layer bs (ExprKind-F.Neg a) p = expr_at p (e.Neg a)
expr_layer bs (ExprKind-F.Binary op a b) p = expr_at p (e.Binary op a b)

-- an expression in a call; what stands for a parameter keeps its own places
abbrev pub expr_in : Bindings → ExprTree → ExprTree
expr_in bs a = fold-ExprTree (Place → ExprTree) ExprTree (expr_layer bs) (λ t. t.kind t.place) a

abbrev pub cond_layer : Bindings → CondKind-F CondKind CondTree → CondKind
cond_layer bs CondKind-F.True = c.True
cond_layer bs CondKind-F.False = c.False
cond_layer bs (CondKind-F.Compare how a b) = c.Compare how (expr_in bs a) (expr_in bs b)
cond_layer bs (CondKind-F.Not x) = c.Not x
cond_layer bs (CondKind-F.And x y) = c.And x y
cond_layer bs (CondKind-F.Or x y) = c.Or x y

abbrev pub cond_in : Bindings → CondTree → CondTree
cond_in bs x = fold-CondTree CondKind CondTree (cond_layer bs) (λ t. cond_at t.place t.kind) x

abbrev pub cond_kind_in : Bindings → CondKind → CondKind
cond_kind_in bs x = fold-CondKind CondKind CondTree (cond_layer bs) (λ t. cond_at t.place t.kind) x

-- channels and variables are two name spaces, and a variable that is received stays
abbrev pub io_in : Bindings → IoTree → IoTree
io_in bs (io_of.Send channel value) = io_of.Send (channel_for bs channel) (expr_in bs value)
io_in bs (io_of.Receive channel target) = io_of.Receive (channel_for bs channel) target

abbrev pub rate_in : Bindings → RateTree → RateTree
rate_in bs r = record { place = r.place; variable = r.variable; value = expr_in bs r.value }

-- one level of a statement, whose statements and branches have their arguments already
abbrev pub stmt_layer : Bindings → StmtKind-F StmtKind BranchTree StmtTree → StmtKind
stmt_layer bs StmtKind-F.Skip = s.Skip
stmt_layer bs (StmtKind-F.Assign target value) = s.Assign target (expr_in bs value)
stmt_layer bs (StmtKind-F.Wait time) = s.Wait (expr_in bs time)
stmt_layer bs (StmtKind-F.Io x) = s.Io (io_in bs x)
stmt_layer bs (StmtKind-F.Log value) = s.Log (expr_in bs value)
stmt_layer bs (StmtKind-F.If test first second) = s.If (cond_in bs test) first second
stmt_layer bs (StmtKind-F.Pick left right) = s.Pick left right
stmt_layer bs (StmtKind-F.Forever body) = s.Forever body
stmt_layer bs (StmtKind-F.Loop test body) = s.Loop (cond_in bs test) body
stmt_layer bs (StmtKind-F.Choice branches) = s.Choice branches
stmt_layer bs (StmtKind-F.Evolve rates domain branches) =
    s.Evolve (map (rate_in bs) rates) (cond_in bs domain) branches

abbrev pub branch_layer : Bindings → BranchTree-F StmtKind BranchTree StmtTree → BranchTree
branch_layer bs b = branch_at b.place (io_in bs b.io) b.body

-- a statement in a call
abbrev pub stmt_in : Bindings → StmtTree → StmtTree
stmt_in bs x =
    fold-StmtTree StmtKind BranchTree StmtTree (stmt_layer bs) (branch_layer bs) (λ t. stmt_at t.place t.kind) x

abbrev pub stmt_kind_in : Bindings → StmtKind → StmtKind
stmt_kind_in bs x =
    fold-StmtKind StmtKind BranchTree StmtTree (stmt_layer bs) (branch_layer bs) (λ t. stmt_at t.place t.kind) x

abbrev pub branch_in : Bindings → BranchTree → BranchTree
branch_in bs x =
    fold-BranchTree StmtKind BranchTree StmtTree (stmt_layer bs) (branch_layer bs) (λ t. stmt_at t.place t.kind) x
