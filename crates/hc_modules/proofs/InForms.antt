-- What each form of a statement is in a call.
use Rattle.std.proofs.Common.{rules, ◌≡◌, List, map, Option, Some, None, option_map}
use Rattle.hc_ast.specs.declared.expr.ExprTree.{ExprTree}
use Rattle.hc_ast.specs.declared.expr.CondTree.{CondTree}
use Rattle.hc_ast.specs.declared.stmt.IoTree.{IoTree}
use Rattle.hc_ast.specs.declared.stmt.RateTree.{RateTree}
use Rattle.hc_ast.specs.declared.stmt.StmtKind.{StmtKind, the_lemmas}
use Rattle.hc_ast.specs.declared.stmt.StmtKind.TheVariants as plain
use Rattle.hc_ast.specs.declared.stmt.StmtKind.TheViews as seen
use Rattle.hc_ast.specs.declared.stmt.StmtTree.{StmtTree}
use Rattle.hc_ast.specs.declared.stmt.BranchTree.{BranchTree, out-BranchTree}
use Rattle.hc_ast.specs.Bare.{Word}
use Rattle.hc_ast.specs.StmtTrees.{stmt_at, branch_at}
use Rattle.hc_modules.specs.Bindings.{Bindings}
use Rattle.hc_modules.specs.Replaced.{expr_in, cond_in, io_in, rate_in, stmt_in, branch_in, stmt_layer, branch_layer}
use Rattle.hc_modules.proofs.Folds.{fold-choose}

module _ (bs : Bindings) (s : StmtTree) where
  pub in-Skip : s.kind ≡ plain.Skip → stmt_in bs s ≡ stmt_at s.place plain.Skip
  in-Skip e = search (rules, the_lemmas)

  pub in-Assign : (x : Word) (a : ExprTree) → s.kind ≡ plain.Assign x a → stmt_in bs s ≡ stmt_at s.place (plain.Assign x (expr_in bs a))
  in-Assign x a e = search (rules, the_lemmas)

  pub in-Wait : (a : ExprTree) → s.kind ≡ plain.Wait a → stmt_in bs s ≡ stmt_at s.place (plain.Wait (expr_in bs a))
  in-Wait a e = search (rules, the_lemmas)

  pub in-Io : (i : IoTree) → s.kind ≡ plain.Io i → stmt_in bs s ≡ stmt_at s.place (plain.Io (io_in bs i))
  in-Io i e = search (rules, the_lemmas)

  pub in-Log : (a : ExprTree) → s.kind ≡ plain.Log a → stmt_in bs s ≡ stmt_at s.place (plain.Log (expr_in bs a))
  in-Log a e = search (rules, the_lemmas)

  pub in-If : (c : CondTree) (ss : List StmtTree) (no : Option (List StmtTree)) → s.kind ≡ seen.If c ss no
      → stmt_in bs s ≡ stmt_at s.place (seen.If (cond_in bs c) (map (stmt_in bs) ss) (option_map (map (stmt_in bs)) no))
  in-If c ss None e = search (rules, the_lemmas)
  in-If c ss (Some rs) e =
      fold-choose StmtKind BranchTree StmtTree (stmt_layer bs) (branch_layer bs) (λ t. stmt_at t.place t.kind) s c ss rs e

  pub in-Pick : (ss rs : List StmtTree) → s.kind ≡ seen.Pick ss rs
      → stmt_in bs s ≡ stmt_at s.place (seen.Pick (map (stmt_in bs) ss) (map (stmt_in bs) rs))
  in-Pick ss rs e = search (rules, the_lemmas)

  pub in-Forever : (ss : List StmtTree) → s.kind ≡ seen.Forever ss
      → stmt_in bs s ≡ stmt_at s.place (seen.Forever (map (stmt_in bs) ss))
  in-Forever ss e = search (rules, the_lemmas)

  pub in-Loop : (c : CondTree) (ss : List StmtTree) → s.kind ≡ seen.Loop c ss
      → stmt_in bs s ≡ stmt_at s.place (seen.Loop (cond_in bs c) (map (stmt_in bs) ss))
  in-Loop c ss e = search (rules, the_lemmas)

  pub in-Choice : (brs : List BranchTree) → s.kind ≡ seen.Choice brs
      → stmt_in bs s ≡ stmt_at s.place (seen.Choice (map (branch_in bs) brs))
  in-Choice brs e = search (rules, the_lemmas)

  pub in-Evolve : (rs : List RateTree) (c : CondTree) (brs : List BranchTree) → s.kind ≡ seen.Evolve rs c brs
      → stmt_in bs s ≡ stmt_at s.place (seen.Evolve (map (rate_in bs) rs) (cond_in bs c) (map (branch_in bs) brs))
  in-Evolve rs c brs e = search (rules, the_lemmas)

pub in-branch : (bs : Bindings) (b : BranchTree)
    → branch_in bs b ≡ branch_at (out-BranchTree b).place (io_in bs (out-BranchTree b).io) (map (stmt_in bs) (out-BranchTree b).body)
in-branch bs b = search (rules, the_lemmas)
