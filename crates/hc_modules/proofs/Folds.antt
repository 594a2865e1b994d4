-- A fold at a test with an else part.
use Rattle.std.proofs.Common.{◌≡◌, ap, sym, ◌∙◌, List, map, Some}
use Rattle.hc_ast.specs.declared.expr.CondTree.{CondTree}
use Rattle.hc_ast.specs.declared.stmt.StmtKind.TheViews as seen
use Rattle.hc_ast.specs.declared.stmt.StmtKind.TheOpen.{StmtKind-F, BranchTree-F, StmtTree-F}
use Rattle.hc_ast.specs.declared.stmt.StmtKind.TheFolds.{fold-StmtKind, fold-roll-StmtKind, fold-roll-StmtTree}
use Rattle.hc_ast.specs.declared.stmt.StmtTree.{StmtTree, fold-StmtTree}

pub fold-choose : (K B T : Type 0) (kind_step : StmtKind-F K B T → K) (branch_step : BranchTree-F K B T → B) (tree_step : StmtTree-F K B T → T)
    (s : StmtTree) (c : CondTree) (ss rs : List StmtTree) → s.kind ≡ seen.If c ss (Some rs)
    → fold-StmtTree K B T kind_step branch_step tree_step s
    ≡ tree_step (record {
      place = s.place;
      kind = kind_step (StmtKind-F.If c (map (fold-StmtTree K B T kind_step branch_step tree_step) ss)
          (Some (map (fold-StmtTree K B T kind_step branch_step tree_step) rs)));
    })
fold-choose K B T kind_step branch_step tree_step s c ss rs e =
    fold-roll-StmtTree K B T kind_step branch_step tree_step (record { place = s.place; kind = s.kind })
    ∙ ap (λ k. tree_step (record { place = s.place; kind = k }))
    (ap (fold-StmtKind K B T kind_step branch_step tree_step) (e ∙ sym (seen.rolls-If c ss (Some rs)))
    ∙ fold-roll-StmtKind K B T kind_step branch_step tree_step (StmtKind-F.If c ss (Some rs)))
