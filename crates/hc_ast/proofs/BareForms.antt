-- What each form of a statement says without places.
use Rattle.std.proofs.Common.{rules, ◌≡◌, ap, sym, ◌∙◌, List, map, Option, Some, None}
use Rattle.hc_ast.specs.Bare.{BareIo, BareStmt, BareStmts, when, choose, pick, forever, loop, choice, evolve}
use Rattle.hc_ast.specs.Unplaced.{stmt_layer, branch_layer, bare_cond, bare_io, bare_rate, bare_stmt, bare_stmts, bare_branch, bare_branches}
use Rattle.hc_ast.specs.declared.expr.CondTree.{CondTree}
use Rattle.hc_ast.specs.declared.stmt.StmtKind.{the_lemmas}
use Rattle.hc_ast.specs.declared.stmt.StmtKind.TheViews as seen
use Rattle.hc_ast.specs.declared.stmt.StmtKind.TheOpen.{StmtKind-F}
use Rattle.hc_ast.specs.declared.stmt.StmtKind.TheFolds.{fold-StmtKind, fold-roll-StmtKind, fold-roll-StmtTree}
use Rattle.hc_ast.specs.declared.stmt.StmtTree.{StmtTree}
use Rattle.hc_ast.specs.declared.stmt.BranchTree.{BranchTree, out-BranchTree}
use Rattle.hc_ast.specs.declared.stmt.RateTree.{RateTree}

pub bare_stmt-when : (s : StmtTree) (c : CondTree) (ss : List StmtTree) → s.kind ≡ seen.If c ss None
    → bare_stmt s ≡ when (bare_cond c) (bare_stmts ss)
bare_stmt-when s c ss e = search (rules, the_lemmas)

pub bare_stmt-choose : (s : StmtTree) (c : CondTree) (ss rs : List StmtTree) → s.kind ≡ seen.If c ss (Some rs)
    → bare_stmt s ≡ choose (bare_cond c) (bare_stmts ss) (bare_stmts rs)
bare_stmt-choose s c ss rs e =
    fold-roll-StmtTree BareStmt (BareIo × BareStmts) BareStmt stmt_layer branch_layer (λ x. x.kind) (record { place = s.place; kind = s.kind })
    ∙ ap (fold-StmtKind BareStmt (BareIo × BareStmts) BareStmt stmt_layer branch_layer (λ x. x.kind)) (e ∙ sym (seen.rolls-If c ss (Some rs)))
    ∙ fold-roll-StmtKind BareStmt (BareIo × BareStmts) BareStmt stmt_layer branch_layer (λ x. x.kind) (StmtKind-F.If c ss (Some rs))

pub bare_stmt-pick : (s : StmtTree) (ss rs : List StmtTree) → s.kind ≡ seen.Pick ss rs
    → bare_stmt s ≡ pick (bare_stmts ss) (bare_stmts rs)
bare_stmt-pick s ss rs e = search (rules, the_lemmas)

pub bare_stmt-forever : (s : StmtTree) (ss : List StmtTree) → s.kind ≡ seen.Forever ss → bare_stmt s ≡ forever (bare_stmts ss)
bare_stmt-forever s ss e = search (rules, the_lemmas)

pub bare_stmt-loop : (s : StmtTree) (c : CondTree) (ss : List StmtTree) → s.kind ≡ seen.Loop c ss
    → bare_stmt s ≡ loop (bare_cond c) (bare_stmts ss)
bare_stmt-loop s c ss e = search (rules, the_lemmas)

pub bare_stmt-choice : (s : StmtTree) (bs : List BranchTree) → s.kind ≡ seen.Choice bs → bare_stmt s ≡ choice (bare_branches bs)
bare_stmt-choice s bs e = search (rules, the_lemmas)

pub bare_stmt-evolve : (s : StmtTree) (rs : List RateTree) (c : CondTree) (bs : List BranchTree) → s.kind ≡ seen.Evolve rs c bs
    → bare_stmt s ≡ evolve (map bare_rate rs) (bare_cond c) (bare_branches bs)
bare_stmt-evolve s rs c bs e = search (rules, the_lemmas)

pub bare_branch-is : (b : BranchTree) → bare_branch b ≡ (let p : BareIo × BareStmts = (bare_io (out-BranchTree b).io, bare_stmts (out-BranchTree b).body) in p)
bare_branch-is b = search (rules, the_lemmas)

-- equal tests have equal first parts, with an else part or without
pub same_first : (s t : StmtTree) (c d : CondTree) (ss rs : List StmtTree) (no other : Option (List StmtTree))
    → s.kind ≡ seen.If c ss no → t.kind ≡ seen.If d rs other → bare_stmt s ≡ bare_stmt t → bare_stmts ss ≡ bare_stmts rs
same_first s t c d ss rs None None e f g = cc (bare_stmt-when s c ss e, bare_stmt-when t d rs f)
same_first s t c d ss rs None (Some other) e f g = absurd (cc (bare_stmt-when s c ss e, bare_stmt-choose t d rs other f))
same_first s t c d ss rs (Some more) None e f g = absurd (cc (bare_stmt-choose s c ss more e, bare_stmt-when t d rs f))
same_first s t c d ss rs (Some more) (Some other) e f g = cc (bare_stmt-choose s c ss more e, bare_stmt-choose t d rs other f)

-- equal picks have equal first parts
pub same_left : (s t : StmtTree) (ss rs us vs : List StmtTree) → s.kind ≡ seen.Pick ss rs → t.kind ≡ seen.Pick us vs
    → bare_stmt s ≡ bare_stmt t → bare_stmts ss ≡ bare_stmts us
same_left s t ss rs us vs e f g = cc (bare_stmt-pick s ss rs e, bare_stmt-pick t us vs f)

pub ruleset forms = (bare_stmt-when, bare_stmt-choose, bare_stmt-pick, bare_stmt-forever, bare_stmt-loop, bare_stmt-choice, bare_stmt-evolve, bare_branch-is)
