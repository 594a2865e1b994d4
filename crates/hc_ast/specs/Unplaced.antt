-- What each tree says when its places are left out.
use Rattle.std.specs.Prelude.{List, [], ◌∷◌, map, Option, Some, None}
use Rattle.hc_ast.specs.Bare.{BareExpr, number, name, neg, binary, BareCond, always, never, compare, negation, both, either}
use Rattle.hc_ast.specs.Bare.{BareIo, send, receive, BareRate, BareStmt, BareStmts, no_more, then, BareBranches, no_other, or_else}
use Rattle.hc_ast.specs.Bare.{skip, assign, wait, io, log, when, choose, pick, forever, loop, choice, evolve}
use Rattle.hc_ast.specs.Bare.{BareParam, BareModule, BareBody, inline, call, BareProcess, BareTree}
use Rattle.hc_ast.specs.declared.expr.ExprKind.TheOpen.{ExprKind-F}
use Rattle.hc_ast.specs.declared.expr.ExprTree.{ExprTree, fold-ExprTree}
use Rattle.hc_ast.specs.declared.expr.CondKind.TheOpen.{CondKind-F}
use Rattle.hc_ast.specs.declared.expr.CondTree.{CondTree, fold-CondTree}
use Rattle.hc_ast.specs.declared.stmt.IoTree.{IoTree}
use Rattle.hc_ast.specs.declared.stmt.IoTree.TheVariants as io_of
use Rattle.hc_ast.specs.declared.stmt.RateTree.{RateTree}
use Rattle.hc_ast.specs.declared.stmt.StmtKind.TheOpen.{StmtKind-F, BranchTree-F}
use Rattle.hc_ast.specs.declared.stmt.StmtTree.{StmtTree, fold-StmtTree}
use Rattle.hc_ast.specs.declared.stmt.BranchTree.{BranchTree, fold-BranchTree}
use Rattle.hc_ast.specs.declared.tree.Param.{Param}
use Rattle.hc_ast.specs.declared.tree.ModuleDef.{ModuleDef}
use Rattle.hc_ast.specs.declared.tree.Body.{Body}
use Rattle.hc_ast.specs.declared.tree.Body.TheVariants as body_of
use Rattle.hc_ast.specs.declared.tree.ProcessDef.{ProcessDef}
use Rattle.hc_ast.specs.declared.tree.Tree.{Tree}

-- one level of an expression, where each part is bare already
abbrev pub expr_layer : ExprKind-F BareExpr BareExpr → BareExpr
expr_layer (ExprKind-F.Number d) = number d.digits d.places
expr_layer (ExprKind-F.Name x) = name x
expr_layer (ExprKind-F.Neg x) = neg x
expr_layer (ExprKind-F.Binary op x y) = binary op x y

abbrev pub bare_expr : ExprTree → BareExpr
bare_expr t = fold-ExprTree BareExpr BareExpr expr_layer (λ x. x.kind) t

abbrev pub cond_layer : CondKind-F BareCond BareCond → BareCond
cond_layer CondKind-F.True = always
cond_layer CondKind-F.False = never
cond_layer (CondKind-F.Compare how x y) = compare how (bare_expr x) (bare_expr y)
cond_layer (CondKind-F.Not c) = negation c
cond_layer (CondKind-F.And b c) = both b c
cond_layer (CondKind-F.Or b c) = either b c

abbrev pub bare_cond : CondTree → BareCond
bare_cond t = fold-CondTree BareCond BareCond cond_layer (λ x. x.kind) t

abbrev pub bare_io : IoTree → BareIo
bare_io (io_of.Send channel value) = send channel (bare_expr value)
bare_io (io_of.Receive channel target) = receive channel target

abbrev pub bare_rate : RateTree → BareRate
bare_rate r = record { variable = r.variable; value = bare_expr r.value }

-- bare statements, one after another
abbrev pub in_order : List BareStmt → BareStmts
in_order [] = no_more
in_order (s ∷ ss) = then s (in_order ss)

-- bare branches: a communication with what follows it
abbrev pub among : List (BareIo × BareStmts) → BareBranches
among [] = no_other
among (b ∷ bs) = or_else b.0 b.1 (among bs)

abbrev pub bare_if : BareCond → List BareStmt → Option (List BareStmt) → BareStmt
bare_if test body None = when test (in_order body)
bare_if test body (Some other) = choose test (in_order body) (in_order other)

-- one level of a statement, where each statement and branch inside is bare already
abbrev pub stmt_layer : StmtKind-F BareStmt (BareIo × BareStmts) BareStmt → BareStmt
stmt_layer StmtKind-F.Skip = skip
stmt_layer (StmtKind-F.Assign target value) = assign target (bare_expr value)
stmt_layer (StmtKind-F.Wait time) = wait (bare_expr time)
stmt_layer (StmtKind-F.Io x) = io (bare_io x)
stmt_layer (StmtKind-F.Log value) = log (bare_expr value)
stmt_layer (StmtKind-F.If test body other) = bare_if (bare_cond test) body other
stmt_layer (StmtKind-F.Pick left right) = pick (in_order left) (in_order right)
stmt_layer (StmtKind-F.Forever body) = forever (in_order body)
stmt_layer (StmtKind-F.Loop test body) = loop (bare_cond test) (in_order body)
stmt_layer (StmtKind-F.Choice branches) = choice (among branches)
stmt_layer (StmtKind-F.Evolve rates domain branches) = evolve (map bare_rate rates) (bare_cond domain) (among branches)

abbrev pub branch_layer : BranchTree-F BareStmt (BareIo × BareStmts) BareStmt → BareIo × BareStmts
branch_layer b = (bare_io b.io, in_order b.body)

abbrev pub bare_stmt : StmtTree → BareStmt
bare_stmt s = fold-StmtTree BareStmt (BareIo × BareStmts) BareStmt stmt_layer branch_layer (λ x. x.kind) s

abbrev pub bare_stmts : List StmtTree → BareStmts
bare_stmts ss = in_order (map bare_stmt ss)

abbrev pub bare_branch : BranchTree → BareIo × BareStmts
bare_branch b = fold-BranchTree BareStmt (BareIo × BareStmts) BareStmt stmt_layer branch_layer (λ x. x.kind) b

abbrev pub bare_branches : List BranchTree → BareBranches
bare_branches bs = among (map bare_branch bs)

abbrev pub bare_param : Param → BareParam
bare_param p = record { kind = p.kind; name = p.name }

abbrev pub bare_module : ModuleDef → BareModule
bare_module m = record { name = m.name; params = map bare_param m.params; body = bare_stmts m.body }

abbrev pub bare_body : Body → BareBody
bare_body (body_of.Inline ss) = inline (bare_stmts ss)
bare_body (body_of.Call place named arguments) = call named (map bare_expr arguments)

abbrev pub bare_process : ProcessDef → BareProcess
bare_process p = record { name = p.name; body = bare_body p.body }

-- a whole source without its places
abbrev pub bare : Tree → BareTree
bare t = record { modules = map bare_module t.modules; processes = map bare_process t.processes }
