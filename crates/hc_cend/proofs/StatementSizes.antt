-- How many statements each form has. The equations are those of hc_cstep/proofs/Sizes, where they are private.
use Rattle.std.specs.Prelude.{◌≡◌, ℕ, ◌+◌, List, Option, Some, None}
use Rattle.std.proofs.Common.{rules, sym, ap, ◌∙◌}
use Rattle.hc_cast.specs.declared.expr.CExpr.{CExpr}
use Rattle.hc_cast.specs.declared.stmt.CStmt.{CStmt, fold-CStmt, the_lemmas}
use Rattle.hc_cast.specs.declared.stmt.CStmt.TheVariants as a
use Rattle.hc_cast.specs.declared.stmt.CStmt.TheOpen.{CStmt-F}
use Rattle.hc_cast.specs.declared.stmt.CStmt.TheFolds.{fold-roll-CStmt}
use Rattle.hc_cmach.specs.State.{Word}
use Rattle.hc_cstep.specs.Size.{size_layer, case_layer, size, sizes}

pub size-Set : (x : Word) (e : CExpr) → size (a.Set x e) ≡ 1
size-Set x e = search (rules, the_lemmas)

pub size-Call : (target : Option Word) (what : Word) (es : List CExpr) → size (a.Call target what es) ≡ 1
size-Call target what es = search (rules, the_lemmas)

pub size-While : (e : CExpr) (ss : List CStmt) → size (a.While e ss) ≡ 1 + sizes ss
size-While e ss = search (rules, the_lemmas)

pub size-When : (e : CExpr) (ss : List CStmt) → size (a.If e ss None) ≡ 1 + sizes ss + 0
size-When e ss =
    ap (fold-CStmt ℕ ℕ size_layer case_layer) (sym (a.rolls-If e ss None)) ∙ fold-roll-CStmt ℕ ℕ size_layer case_layer (CStmt-F.If e ss None)

pub size-If : (e : CExpr) (ss rs : List CStmt) → size (a.If e ss (Some rs)) ≡ 1 + sizes ss + sizes rs
size-If e ss rs =
    ap (fold-CStmt ℕ ℕ size_layer case_layer) (sym (a.rolls-If e ss (Some rs))) ∙ fold-roll-CStmt ℕ ℕ size_layer case_layer (CStmt-F.If e ss (Some rs))

pub ruleset sized = (size-Set, size-Call, size-While, size-When, size-If)
