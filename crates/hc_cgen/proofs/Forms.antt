-- How many statements each form has. The equations are those of hc_cstep/proofs/Sizes, where they are private.
use Rattle.std.specs.Prelude.{pos, ◌≡◌, ℕ, ◌+◌, List, map, Option, Some, None}
use Rattle.std.proofs.Common.{rules, sym, ap, ◌∙◌}
use Rattle.hc_cast.specs.declared.expr.CExpr.{CExpr}
use Rattle.hc_cast.specs.declared.stmt.CStmt.{CStmt, fold-CStmt, the_lemmas}
use Rattle.hc_cast.specs.declared.stmt.CStmt.TheVariants as a
use Rattle.hc_cast.specs.declared.stmt.CStmt.TheOpen.{CStmt-F}
use Rattle.hc_cast.specs.declared.stmt.CStmt.TheFolds.{fold-roll-CStmt, fold-roll-CCase}
use Rattle.hc_cast.specs.declared.stmt.CCase.{CCase}
use Rattle.hc_clogic.specs.Cases.{case_of}
use Rattle.hc_cmach.specs.State.{Word}
use Rattle.hc_cstep.specs.Size.{total, size_layer, case_layer, size, case_size, sizes}

pub size-Set : (x : Word) (v : CExpr) → size (a.Set x v) ≡ 1
size-Set x v = search (rules, the_lemmas)

pub size-Store : (x : Word) (i v : CExpr) → size (a.Store x i v) ≡ 1
size-Store x i v = search (rules, the_lemmas)

pub size-Call : (x : Option Word) (f : Word) (es : List CExpr) → size (a.Call x f es) ≡ 1
size-Call x f es = search (rules, the_lemmas)

pub size-Return : (v : CExpr) → size (a.Return (Some v)) ≡ 1
size-Return v =
    ap (fold-CStmt ℕ ℕ size_layer case_layer) (sym (a.rolls-Return (Some v))) ∙ fold-roll-CStmt ℕ ℕ size_layer case_layer (CStmt-F.Return (Some v))

pub size-When : (t : CExpr) (ss : List CStmt) → size (a.If t ss None) ≡ 1 + sizes ss + 0
size-When t ss =
    ap (fold-CStmt ℕ ℕ size_layer case_layer) (sym (a.rolls-If t ss None)) ∙ fold-roll-CStmt ℕ ℕ size_layer case_layer (CStmt-F.If t ss None)

pub size-If : (t : CExpr) (ss rs : List CStmt) → size (a.If t ss (Some rs)) ≡ 1 + sizes ss + sizes rs
size-If t ss rs =
    ap (fold-CStmt ℕ ℕ size_layer case_layer) (sym (a.rolls-If t ss (Some rs))) ∙ fold-roll-CStmt ℕ ℕ size_layer case_layer (CStmt-F.If t ss (Some rs))

pub size-While : (t : CExpr) (ss : List CStmt) → size (a.While t ss) ≡ 1 + sizes ss
size-While t ss = search (rules, the_lemmas)

pub size-Switch : (on : CExpr) (cs : List CCase) (ss : List CStmt) → size (a.Switch on cs ss) ≡ 1 + total (map case_size cs) + sizes ss
size-Switch on cs ss = search (rules, the_lemmas)

pub case_is : (n : ℕ) (ss : List CStmt) → case_size (case_of n ss) ≡ sizes ss
case_is n ss = fold-roll-CCase ℕ ℕ size_layer case_layer (record { number = pos n; body = ss })

pub ruleset all_forms = (size-Set, size-Store, size-Call, size-Return, size-When, size-If, size-While, size-Switch)
