-- The system of an expanded source: its names by their numbers, its numbers as fractions.
use Rattle.std.specs.Prelude.{◌^◌, List, [], map, Option, Some, None}
use Rattle.hc_frac.specs.Words.{quotient}
use Rattle.hc_frac.specs.declared.decimal.Decimal.{Decimal}
use Rattle.hc_ast.specs.Bare.{Word}
use Rattle.hc_ast.specs.declared.expr.Op as written
use Rattle.hc_ast.specs.declared.expr.Op.TheVariants as sign
use Rattle.hc_ast.specs.declared.expr.Comparison as compared
use Rattle.hc_ast.specs.declared.expr.Comparison.TheVariants as by
use Rattle.hc_ast.specs.declared.expr.ExprKind.TheOpen.{ExprKind-F}
use Rattle.hc_ast.specs.declared.expr.ExprTree.{ExprTree, fold-ExprTree}
use Rattle.hc_ast.specs.declared.expr.CondKind.TheOpen.{CondKind-F}
use Rattle.hc_ast.specs.declared.expr.CondTree.{CondTree, fold-CondTree}
use Rattle.hc_ast.specs.declared.stmt.IoTree.{IoTree}
use Rattle.hc_ast.specs.declared.stmt.IoTree.TheVariants as io_of
use Rattle.hc_ast.specs.declared.stmt.RateTree.{RateTree}
use Rattle.hc_ast.specs.declared.stmt.StmtKind.TheOpen.{StmtKind-F, BranchTree-F}
use Rattle.hc_ast.specs.declared.stmt.StmtTree.{StmtTree, fold-StmtTree}
use Rattle.hc_ast.specs.declared.stmt.BranchTree.{BranchTree, fold-BranchTree}
use Rattle.hc_modules.specs.declared.flat.FlatProcess.{FlatProcess}
use Rattle.hc_term.specs.declared.expr.Op.{Op}
use Rattle.hc_term.specs.declared.expr.Op.TheVariants.{Add, Sub, Mul, Div}
use Rattle.hc_term.specs.declared.expr.Comparison.{Comparison}
use Rattle.hc_term.specs.declared.expr.Comparison.TheVariants.{Less, AtMost, Equal, NotEqual, AtLeast, Greater}
use Rattle.hc_term.specs.declared.expr.Expr.{Expr}
use Rattle.hc_term.specs.declared.expr.Expr.TheVariants as an
use Rattle.hc_term.specs.declared.expr.Cond.{Cond}
use Rattle.hc_term.specs.declared.expr.Cond.TheVariants as test
use Rattle.hc_term.specs.declared.stmt.Io.{Io}
use Rattle.hc_term.specs.declared.stmt.Io.TheVariants as io
use Rattle.hc_term.specs.declared.stmt.Rate.{Rate}
use Rattle.hc_term.specs.declared.stmt.Branch.{Branch, roll-Branch}
use Rattle.hc_term.specs.declared.stmt.Stmt.{Stmt}
use Rattle.hc_term.specs.declared.stmt.Stmt.TheVariants as a
use Rattle.hc_term.specs.declared.system.Process.{Process}
use Rattle.hc_finds.specs.Names.{number_in}
use Rattle.hc_finds.specs.Limits.{variables_of}

-- ---- signs

abbrev pub op_of : written.Op → Op
op_of sign.Add = Add
op_of sign.Sub = Sub
op_of sign.Mul = Mul
op_of sign.Div = Div

abbrev pub comparison_of : compared.Comparison → Comparison
comparison_of by.Less = Less
comparison_of by.AtMost = AtMost
comparison_of by.Equal = Equal
comparison_of by.NotEqual = NotEqual
comparison_of by.AtLeast = AtLeast
comparison_of by.Greater = Greater

-- ---- over these variables

-- a number: its digits by ten to its places
abbrev pub value_of : Decimal → Expr
value_of d = an.Number (quotient d.digits (10 ^ d.places))

abbrev pub expr_layer : List Word → ExprKind-F Expr Expr → Expr
expr_layer xs (ExprKind-F.Number d) = value_of d
expr_layer xs (ExprKind-F.Name x) = an.Variable (number_in xs x)
expr_layer xs (ExprKind-F.Neg e) = an.Neg e
expr_layer xs (ExprKind-F.Binary op e f) = an.Binary (op_of op) e f

abbrev pub expr_over : List Word → ExprTree → Expr
expr_over xs e = fold-ExprTree Expr Expr (expr_layer xs) (λ t. t.kind) e

abbrev pub cond_layer : List Word → CondKind-F Cond Cond → Cond
cond_layer xs CondKind-F.True = test.True
cond_layer xs CondKind-F.False = test.False
cond_layer xs (CondKind-F.Compare how e f) = test.Compare (comparison_of how) (expr_over xs e) (expr_over xs f)
cond_layer xs (CondKind-F.Not c) = test.Not c
cond_layer xs (CondKind-F.And c d) = test.And c d
cond_layer xs (CondKind-F.Or c d) = test.Or c d

abbrev pub cond_over : List Word → CondTree → Cond
cond_over xs c = fold-CondTree Cond Cond (cond_layer xs) (λ t. t.kind) c

abbrev pub rate_over : List Word → RateTree → Rate
rate_over xs r = record { variable = number_in xs r.variable; value = expr_over xs r.value }

-- ---- over these channels and variables

abbrev pub io_over : List Word → List Word → IoTree → Io
io_over cs xs (io_of.Send channel value) = io.Send (number_in cs channel) (expr_over xs value)
io_over cs xs (io_of.Receive channel target) = io.Receive (number_in cs channel) (number_in xs target)

-- a missing else part is an empty list
abbrev pub else_of : Option (List Stmt) → List Stmt
else_of None = []
else_of (Some ss) = ss

abbrev pub stmt_layer : List Word → List Word → StmtKind-F Stmt Branch Stmt → Stmt
stmt_layer cs xs StmtKind-F.Skip = a.Skip
stmt_layer cs xs (StmtKind-F.Assign target value) = a.Assign (number_in xs target) (expr_over xs value)
stmt_layer cs xs (StmtKind-F.Wait time) = a.Wait (expr_over xs time)
stmt_layer cs xs (StmtKind-F.Io i) = a.Io (io_over cs xs i)
stmt_layer cs xs (StmtKind-F.Log value) = a.Log (expr_over xs value)
stmt_layer cs xs (StmtKind-F.If c body other) = a.If (cond_over xs c) body (else_of other)
stmt_layer cs xs (StmtKind-F.Pick left right) = a.Pick left right
stmt_layer cs xs (StmtKind-F.Forever body) = a.Forever body
stmt_layer cs xs (StmtKind-F.Loop c body) = a.Loop (cond_over xs c) body
stmt_layer cs xs (StmtKind-F.Choice branches) = a.Choice branches
stmt_layer cs xs (StmtKind-F.Evolve rates c branches) = a.Evolve (map (rate_over xs) rates) (cond_over xs c) branches

abbrev pub branch_layer : List Word → List Word → BranchTree-F Stmt Branch Stmt → Branch
branch_layer cs xs b = roll-Branch (record { io = io_over cs xs b.io; body = b.body })

abbrev pub stmt_over : List Word → List Word → StmtTree → Stmt
stmt_over cs xs s = fold-StmtTree Stmt Branch Stmt (stmt_layer cs xs) (branch_layer cs xs) (λ t. t.kind) s

abbrev pub branch_over : List Word → List Word → BranchTree → Branch
branch_over cs xs b = fold-BranchTree Stmt Branch Stmt (stmt_layer cs xs) (branch_layer cs xs) (λ t. t.kind) b

-- ---- the system

-- a process over these channels
abbrev pub process_over : List Word → FlatProcess → Process
process_over cs p = record {
  name = p.name;
  variables = variables_of p;
  body = map (stmt_over cs (variables_of p)) p.body;
}
