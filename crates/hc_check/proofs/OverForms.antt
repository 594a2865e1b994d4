-- What each form of a statement is over channels and variables.
use Rattle.std.proofs.Common.{rules, ◌≡◌, ap, ◌∙◌, List, [], map, Option, None, Some}
use Rattle.hc_ast.specs.declared.expr.ExprTree.{ExprTree}
use Rattle.hc_ast.specs.declared.expr.CondTree.{CondTree}
use Rattle.hc_ast.specs.declared.stmt.IoTree.{IoTree}
use Rattle.hc_ast.specs.declared.stmt.RateTree.{RateTree}
use Rattle.hc_ast.specs.declared.stmt.StmtKind.{the_lemmas}
use Rattle.hc_ast.specs.declared.stmt.StmtKind.TheVariants as plain
use Rattle.hc_ast.specs.declared.stmt.StmtKind.TheViews as seen
use Rattle.hc_ast.specs.declared.stmt.StmtTree.{StmtTree}
use Rattle.hc_ast.specs.declared.stmt.BranchTree.{BranchTree, out-BranchTree}
use Rattle.hc_ast.specs.Bare.{Word}
use Rattle.hc_term.specs.declared.stmt.Branch.{Branch, roll-Branch, out-Branch}
use Rattle.hc_term.specs.declared.stmt.Stmt.{Stmt}
use Rattle.hc_term.specs.declared.stmt.Stmt.TheVariants as a
use Rattle.hc_term.specs.declared.stmt.Stmt.TheViews.{out-roll-Branch}
use Rattle.hc_modules.proofs.Folds.{fold-choose}
use Rattle.hc_finds.specs.Names.{number_in}
use Rattle.hc_check.specs.Numbered.{expr_over, cond_over, rate_over, io_over, stmt_layer, branch_layer, stmt_over, branch_over}

-- an else part, which is empty where it is missing
abbrev pub else_over : List Word → List Word → Option (List StmtTree) → List Stmt
else_over cs xs None = []
else_over cs xs (Some ss) = map (stmt_over cs xs) ss

module _ (cs xs : List Word) (s : StmtTree) where
  pub over-Skip : s.kind ≡ plain.Skip → stmt_over cs xs s ≡ a.Skip
  over-Skip e = search (rules, the_lemmas)

  pub over-Assign : (x : Word) (v : ExprTree) → s.kind ≡ plain.Assign x v → stmt_over cs xs s ≡ a.Assign (number_in xs x) (expr_over xs v)
  over-Assign x v e = search (rules, the_lemmas)

  pub over-Wait : (v : ExprTree) → s.kind ≡ plain.Wait v → stmt_over cs xs s ≡ a.Wait (expr_over xs v)
  over-Wait v e = search (rules, the_lemmas)

  pub over-Io : (i : IoTree) → s.kind ≡ plain.Io i → stmt_over cs xs s ≡ a.Io (io_over cs xs i)
  over-Io i e = search (rules, the_lemmas)

  pub over-Log : (v : ExprTree) → s.kind ≡ plain.Log v → stmt_over cs xs s ≡ a.Log (expr_over xs v)
  over-Log v e = search (rules, the_lemmas)

  pub over-If : (c : CondTree) (ss : List StmtTree) (no : Option (List StmtTree)) → s.kind ≡ seen.If c ss no
      → stmt_over cs xs s ≡ a.If (cond_over xs c) (map (stmt_over cs xs) ss) (else_over cs xs no)
  over-If c ss None e = search (rules, the_lemmas)
  over-If c ss (Some rs) e = fold-choose Stmt Branch Stmt (stmt_layer cs xs) (branch_layer cs xs) (λ t. t.kind) s c ss rs e

  pub over-Pick : (ss rs : List StmtTree) → s.kind ≡ seen.Pick ss rs
      → stmt_over cs xs s ≡ a.Pick (map (stmt_over cs xs) ss) (map (stmt_over cs xs) rs)
  over-Pick ss rs e = search (rules, the_lemmas)

  pub over-Forever : (ss : List StmtTree) → s.kind ≡ seen.Forever ss → stmt_over cs xs s ≡ a.Forever (map (stmt_over cs xs) ss)
  over-Forever ss e = search (rules, the_lemmas)

  pub over-Loop : (c : CondTree) (ss : List StmtTree) → s.kind ≡ seen.Loop c ss
      → stmt_over cs xs s ≡ a.Loop (cond_over xs c) (map (stmt_over cs xs) ss)
  over-Loop c ss e = search (rules, the_lemmas)

  pub over-Choice : (bs : List BranchTree) → s.kind ≡ seen.Choice bs → stmt_over cs xs s ≡ a.Choice (map (branch_over cs xs) bs)
  over-Choice bs e = search (rules, the_lemmas)

  pub over-Evolve : (rs : List RateTree) (c : CondTree) (bs : List BranchTree) → s.kind ≡ seen.Evolve rs c bs
      → stmt_over cs xs s ≡ a.Evolve (map (rate_over xs) rs) (cond_over xs c) (map (branch_over cs xs) bs)
  over-Evolve rs c bs e = search (rules, the_lemmas)

-- a branch
module _ (cs xs : List Word) (b : BranchTree) where
  over-branch : branch_over cs xs b
      ≡ roll-Branch (record { io = io_over cs xs (out-BranchTree b).io; body = map (stmt_over cs xs) (out-BranchTree b).body })
  over-branch = search (rules, the_lemmas)

  pub io-over-branch : (out-Branch (branch_over cs xs b)).io ≡ io_over cs xs (out-BranchTree b).io
  io-over-branch = ap (λ x. (out-Branch x).io) over-branch
      ∙ ap (λ x. x.io) (out-roll-Branch (record { io = io_over cs xs (out-BranchTree b).io; body = map (stmt_over cs xs) (out-BranchTree b).body }))

  pub body-over-branch : (out-Branch (branch_over cs xs b)).body ≡ map (stmt_over cs xs) (out-BranchTree b).body
  body-over-branch = ap (λ x. (out-Branch x).body) over-branch
      ∙ ap (λ x. x.body) (out-roll-Branch (record { io = io_over cs xs (out-BranchTree b).io; body = map (stmt_over cs xs) (out-BranchTree b).body }))
