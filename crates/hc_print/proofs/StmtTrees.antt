-- The trees of statements say that.
use Rattle.std.proofs.Common.{rules, ◌≡◌, refl, ap, ap₂, ◌∙◌, List, ◌∷◌, map}
use Rattle.hc_frac.specs.declared.place.Place.{Place}
use Rattle.hc_ast.specs.Bare.{Word, BareExpr, BareCond, BareIo, BareRate, BareStmt, BareStmts, then, BareBranches, or_else}
use Rattle.hc_ast.specs.Bare as b
use Rattle.hc_ast.specs.Unplaced.{stmt_layer, branch_layer, bare_expr, bare_io, bare_rate, bare_stmt, bare_stmts, bare_branch, bare_branches}
use Rattle.hc_ast.specs.declared.expr.ExprTree.{ExprTree}
use Rattle.hc_ast.specs.declared.stmt.IoTree.{IoTree}
use Rattle.hc_ast.specs.declared.stmt.StmtKind.{the_lemmas}
use Rattle.hc_ast.specs.declared.stmt.StmtKind.TheVariants as s
use Rattle.hc_ast.specs.declared.stmt.StmtKind.TheFolds.{fold-roll-BranchTree}
use Rattle.hc_ast.specs.declared.stmt.StmtTree.{StmtTree}
use Rattle.hc_ast.specs.declared.stmt.BranchTree.{BranchTree}
use Rattle.hc_ast.specs.Exprs.{expr_tree}
use Rattle.hc_ast.specs.Conds.{cond_tree}
use Rattle.hc_ast.specs.Stmts as g
use Rattle.hc_ast.specs.StmtTrees.{io_place, io_tree, rate_tree, rates_tree, branch_at, seq_tree, more_tree, stmt_tree, interrupt_tree, branches_tree, branch_tree}
use Rattle.hc_ast.proofs.BareForms.{bare_stmt-when, bare_stmt-choose, bare_stmt-pick, bare_stmt-forever, bare_stmt-loop, bare_stmt-choice, bare_stmt-evolve}
use Rattle.hc_print.proofs.BareExprs.{cond_bare}
use Rattle.hc_print.proofs.BareTrees.{expr_same, cond_same}
use Rattle.hc_print.proofs.BareStmts.{io_bare, rate_bare, rates_bare, seq_bare, more_bare, stmt_bare, interrupt_bare, branches_bare}

bare_skip : (t : StmtTree) → t.kind ≡ s.Skip → bare_stmt t ≡ b.skip
bare_skip t e = search (rules, the_lemmas)

bare_assign : (t : StmtTree) (x : Word) (y : ExprTree) → t.kind ≡ s.Assign x y → bare_stmt t ≡ b.assign x (bare_expr y)
bare_assign t x y e = search (rules, the_lemmas)

bare_wait : (t : StmtTree) (y : ExprTree) → t.kind ≡ s.Wait y → bare_stmt t ≡ b.wait (bare_expr y)
bare_wait t y e = search (rules, the_lemmas)

bare_log : (t : StmtTree) (y : ExprTree) → t.kind ≡ s.Log y → bare_stmt t ≡ b.log (bare_expr y)
bare_log t y e = search (rules, the_lemmas)

bare_communicate : (t : StmtTree) (i : IoTree) → t.kind ≡ s.Io i → bare_stmt t ≡ b.io (bare_io i)
bare_communicate t i e = search (rules, the_lemmas)

bare_branch-at : (p : Place) (i : IoTree) (ss : List StmtTree) → bare_branch (branch_at p i ss) ≡ (let x : BareIo × BareStmts = (bare_io i, bare_stmts ss) in x)
bare_branch-at p i ss =
    fold-roll-BranchTree BareStmt (BareIo × BareStmts) BareStmt stmt_layer branch_layer (λ x. x.kind) (record { place = p; io = i; body = ss })

pub io_same : (x : g.Io) → bare_io (io_tree x) ≡ io_bare x
io_same (g.send x t e) = ap (b.send x.1) (expr_same e)
io_same (g.receive x t y) = refl

rate_same : (x : g.Rate) → bare_rate (rate_tree x) ≡ rate_bare x
rate_same (g.rate x t e) =
    ap (λ (v : BareExpr). let r : BareRate = record { variable = x.1; value = v } in r) (expr_same e)

rates_same : (xs : g.Rates) → map bare_rate (rates_tree xs) ≡ rates_bare xs
rates_same g.no_rate = refl
rates_same (g.next_rate t x xs) = ap₂ ◌∷◌ (rate_same x) (rates_same xs)

-- a branch in front of others
with_branch : (x : BranchTree) (xs : List BranchTree) (i : BareIo) (ss : BareStmts) (bs : BareBranches)
    → bare_branch x ≡ (i, ss) → bare_branches xs ≡ bs → bare_branches (x ∷ xs) ≡ or_else i ss bs
with_branch x xs i ss bs e f = ap₂ (λ (p : BareIo × BareStmts) rest. or_else p.0 p.1 rest) e f

branch_same : (i : g.Io) (ss : List StmtTree) (bs : BareStmts) → bare_stmts ss ≡ bs
    → bare_branch (branch_at (io_place i) (io_tree i) ss) ≡ (io_bare i, bs)
branch_same i ss bs e =
    bare_branch-at (io_place i) (io_tree i) ss ∙ ap₂ (λ (x : BareIo) (y : BareStmts). (x, y)) (io_same i) e

mutual
  pub seq_same : (x : g.Seq) → bare_stmts (seq_tree x) ≡ seq_bare x
  seq_same (g.seq x xs) = ap₂ then (stmt_same x) (more_same xs)

  pub more_same : (x : g.More) → bare_stmts (more_tree x) ≡ more_bare x
  more_same g.no_more = refl
  more_same (g.next t x xs) = ap₂ then (stmt_same x) (more_same xs)

  pub stmt_same : (x : g.Stmt) → bare_stmt (stmt_tree x) ≡ stmt_bare x
  stmt_same (g.skip t) = bare_skip (stmt_tree (g.skip t)) refl
  stmt_same (g.assign x t e) =
      bare_assign (stmt_tree (g.assign x t e)) x.1 (expr_tree e) refl ∙ ap (b.assign x.1) (expr_same e)
  stmt_same (g.wait t a e z) = bare_wait (stmt_tree (g.wait t a e z)) (expr_tree e) refl ∙ ap b.wait (expr_same e)
  stmt_same (g.log t a e z) = bare_log (stmt_tree (g.log t a e z)) (expr_tree e) refl ∙ ap b.log (expr_same e)
  stmt_same (g.communicate i) = bare_communicate (stmt_tree (g.communicate i)) (io_tree i) refl ∙ ap b.io (io_same i)
  stmt_same (g.when t c u x z) =
      bare_stmt-when (stmt_tree (g.when t c u x z)) (cond_tree c) (seq_tree x) refl ∙ ap₂ b.when (cond_same c) (seq_same x)
  stmt_same (g.choose t c u x v y z) =
      bare_stmt-choose (stmt_tree (g.choose t c u x v y z)) (cond_tree c) (seq_tree x) (seq_tree y) refl
      ∙ ap₂ (λ c ss. b.choose c ss (bare_stmts (seq_tree y))) (cond_same c) (seq_same x)
      ∙ ap (b.choose (cond_bare c) (seq_bare x)) (seq_same y)
  stmt_same (g.pick a x z t u y v) =
      bare_stmt-pick (stmt_tree (g.pick a x z t u y v)) (seq_tree x) (seq_tree y) refl ∙ ap₂ b.pick (seq_same x) (seq_same y)
  stmt_same (g.forever a x z t) =
      bare_stmt-forever (stmt_tree (g.forever a x z t)) (seq_tree x) refl ∙ ap b.forever (seq_same x)
  stmt_same (g.loop a x z u c v t) =
      bare_stmt-loop (stmt_tree (g.loop a x z u c v t)) (cond_tree c) (seq_tree x) refl ∙ ap₂ b.loop (cond_same c) (seq_same x)
  stmt_same (g.select (g.choice t a (g.branch i y x) xs z)) =
      bare_stmt-choice (stmt_tree (g.select (g.choice t a (g.branch i y x) xs z))) (branch_tree (g.branch i y x) ∷ branches_tree xs) refl
      ∙ ap b.choice (with_branch (branch_tree (g.branch i y x)) (branches_tree xs) (io_bare i) (seq_bare x) (branches_bare xs)
      (branch_same i (seq_tree x) (seq_bare x) (seq_same x)) (branches_same xs))
  stmt_same (g.evolve a x xs t c z i) =
      bare_stmt-evolve (stmt_tree (g.evolve a x xs t c z i)) (rate_tree x ∷ rates_tree xs) (cond_tree c) (interrupt_tree i) refl
      ∙ ap₂ (λ rs c. b.evolve rs c (bare_branches (interrupt_tree i))) (ap₂ ◌∷◌ (rate_same x) (rates_same xs)) (cond_same c)
      ∙ ap (b.evolve (rate_bare x ∷ rates_bare xs) (cond_bare c)) (interrupt_same i)

  interrupt_same : (x : g.Interrupt) → bare_branches (interrupt_tree x) ≡ interrupt_bare x
  interrupt_same g.none = refl
  interrupt_same (g.on u (g.choice t a (g.branch i y x) xs z)) =
      with_branch (branch_tree (g.branch i y x)) (branches_tree xs) (io_bare i) (seq_bare x) (branches_bare xs)
      (branch_same i (seq_tree x) (seq_bare x) (seq_same x)) (branches_same xs)

  branches_same : (x : g.Branches) → bare_branches (branches_tree x) ≡ branches_bare x
  branches_same g.no_other = refl
  branches_same (g.other t (g.branch i y x) xs) =
      with_branch (branch_tree (g.branch i y x)) (branches_tree xs) (io_bare i) (seq_bare x) (branches_bare xs)
      (branch_same i (seq_tree x) (seq_bare x) (seq_same x)) (branches_same xs)
