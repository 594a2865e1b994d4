-- How each form of a statement is spelled.
use Rattle.std.proofs.Common.{rules, ◌≡◌, ap, sym, ◌∙◌, List, map, Option, Some, None}
use Rattle.hc_cast.specs.declared.expr.CExpr.{CExpr}
use Rattle.hc_cast.specs.declared.stmt.CStmt.{CStmt, fold-CStmt, the_lemmas}
use Rattle.hc_cast.specs.declared.stmt.CStmt.TheVariants as s
use Rattle.hc_cast.specs.declared.stmt.CStmt.TheOpen.{CStmt-F}
use Rattle.hc_cast.specs.declared.stmt.CStmt.TheFolds.{fold-roll-CStmt}
use Rattle.hc_cast.specs.declared.stmt.CCase.{CCase, out-CCase}
use Rattle.hc_cgrammar.specs.Leaves.{Word}
use Rattle.hc_cspell.specs.Stmts.{Spells, stmt_layer, case_layer, stmt, a_case}

pub spelled-Set : (t : CStmt) (x : Word) (e : CExpr) → t ≡ s.Set x e → stmt t ≡ stmt_layer (CStmt-F.Set x e)
spelled-Set t x e h = search (rules, the_lemmas)

pub spelled-Store : (t : CStmt) (a : Word) (i e : CExpr) → t ≡ s.Store a i e → stmt t ≡ stmt_layer (CStmt-F.Store a i e)
spelled-Store t a i e h = search (rules, the_lemmas)

pub spelled-Call : (t : CStmt) (x : Option Word) (f : Word) (es : List CExpr) → t ≡ s.Call x f es
    → stmt t ≡ stmt_layer (CStmt-F.Call x f es)
spelled-Call t x f es h = search (rules, the_lemmas)

pub spelled-when : (t : CStmt) (e : CExpr) (ss : List CStmt) → t ≡ s.If e ss None
    → stmt t ≡ stmt_layer (CStmt-F.If e (map stmt ss) None)
spelled-when t e ss h =
    ap (fold-CStmt Spells Spells stmt_layer case_layer) (h ∙ sym (s.rolls-If e ss None))
    ∙ fold-roll-CStmt Spells Spells stmt_layer case_layer (CStmt-F.If e ss None)

pub spelled-choose : (t : CStmt) (e : CExpr) (ss rs : List CStmt) → t ≡ s.If e ss (Some rs)
    → stmt t ≡ stmt_layer (CStmt-F.If e (map stmt ss) (Some (map stmt rs)))
spelled-choose t e ss rs h =
    ap (fold-CStmt Spells Spells stmt_layer case_layer) (h ∙ sym (s.rolls-If e ss (Some rs)))
    ∙ fold-roll-CStmt Spells Spells stmt_layer case_layer (CStmt-F.If e ss (Some rs))

pub spelled-While : (t : CStmt) (e : CExpr) (ss : List CStmt) → t ≡ s.While e ss
    → stmt t ≡ stmt_layer (CStmt-F.While e (map stmt ss))
spelled-While t e ss h = search (rules, the_lemmas)

pub spelled-Switch : (t : CStmt) (e : CExpr) (cs : List CCase) (ss : List CStmt) → t ≡ s.Switch e cs ss
    → stmt t ≡ stmt_layer (CStmt-F.Switch e (map a_case cs) (map stmt ss))
spelled-Switch t e cs ss h = search (rules, the_lemmas)

pub spelled-Return : (t : CStmt) (e : Option CExpr) → t ≡ s.Return e → stmt t ≡ stmt_layer (CStmt-F.Return e)
spelled-Return t e h = search (rules, the_lemmas)

pub spelled-case : (c : CCase)
    → a_case c ≡ case_layer (record { number = (out-CCase c).number; body = map stmt (out-CCase c).body })
spelled-case c = search (rules, the_lemmas)

pub ruleset forms = (spelled-Set, spelled-Store, spelled-Call, spelled-when, spelled-choose, spelled-While, spelled-Switch, spelled-Return, spelled-case)
