-- A call without parameters changes nothing.
use Rattle.std.proofs.Common.{rules, ◌≡◌, refl, ap, sym, ◌∙◌, subst, List, [], ◌∷◌, map, Option, Some, None, option_map}
use Rattle.hc_ast.specs.declared.expr.ExprKind.{ExprKind, the_lemmas as expr_lemmas}
use Rattle.hc_ast.specs.declared.expr.ExprKind.TheFolds.{ind-ExprTree, map-ExprKind}
use Rattle.hc_ast.specs.declared.expr.ExprKind.TheViews.{roll-ExprKind, roll-ExprTree}
use Rattle.hc_ast.specs.declared.expr.ExprKind.TheOpen.{ExprKind-F}
use Rattle.hc_ast.specs.declared.expr.ExprTree.{ExprTree}
use Rattle.hc_ast.specs.declared.expr.CondKind.{CondKind, the_lemmas as cond_lemmas}
use Rattle.hc_ast.specs.declared.expr.CondKind.TheFolds.{ind-CondTree, map-CondKind}
use Rattle.hc_ast.specs.declared.expr.CondKind.TheViews.{roll-CondKind, roll-CondTree}
use Rattle.hc_ast.specs.declared.expr.CondKind.TheOpen.{CondKind-F}
use Rattle.hc_ast.specs.declared.expr.CondTree.{CondTree}
use Rattle.hc_ast.specs.declared.stmt.IoTree.{IoTree}
use Rattle.hc_ast.specs.declared.stmt.IoTree.TheVariants as io_of
use Rattle.hc_ast.specs.declared.stmt.RateTree.{RateTree}
use Rattle.hc_ast.specs.declared.stmt.StmtKind.{StmtKind}
use Rattle.hc_ast.specs.declared.stmt.StmtKind.TheVariants as plain
use Rattle.hc_ast.specs.declared.stmt.StmtKind.TheViews as seen
use Rattle.hc_ast.specs.declared.stmt.StmtKind.TheViews.{roll-out-BranchTree}
use Rattle.hc_ast.specs.declared.stmt.StmtTree.{StmtTree}
use Rattle.hc_ast.specs.declared.stmt.BranchTree.{BranchTree, out-BranchTree}
use Rattle.hc_ast.specs.Conds.{cond_at}
use Rattle.hc_ast.specs.StmtTrees.{stmt_at, branch_at}
use Rattle.hc_modules.proofs.Induction.{Each, EachElse, EachBehind, Steps, by_induction}
use Rattle.hc_modules.proofs.InForms.{in-Skip, in-Assign, in-Wait, in-Io, in-Log, in-If, in-Pick, in-Forever, in-Loop, in-Choice, in-Evolve, in-branch}
use Rattle.hc_frac.specs.declared.place.Place.{Place}
use Rattle.hc_ast.specs.Exprs.{expr_at}
use Rattle.hc_modules.specs.Replaced.{expr_in, cond_in, io_in, rate_in, stmt_in, branch_in}

abbrev KindWith : Type 0
KindWith = (k : ExprKind) × ((p : Place) → expr_in [] (expr_at p k) ≡ expr_at p k)

abbrev ExprWith : Type 0
ExprWith = (a : ExprTree) × (expr_in [] a ≡ a)

kind_unbound : (y : ExprKind-F KindWith ExprWith) (p : Place)
    → expr_in [] (expr_at p (roll-ExprKind (map-ExprKind KindWith ExprWith ExprKind ExprTree (λ e. e.0) (λ e. e.0) y)))
    ≡ expr_at p (roll-ExprKind (map-ExprKind KindWith ExprWith ExprKind ExprTree (λ e. e.0) (λ e. e.0) y))
kind_unbound (ExprKind-F.Number d) p = search (rules, expr_lemmas)
kind_unbound (ExprKind-F.Name x) p = search (rules, expr_lemmas)
kind_unbound (ExprKind-F.Neg a) p = let e = a.1 in search (rules, expr_lemmas)
kind_unbound (ExprKind-F.Binary op a b) p = let e = a.1 in let f = b.1 in search (rules, expr_lemmas)

pub expr_unbound : (a : ExprTree) → expr_in [] a ≡ a
expr_unbound = ind-ExprTree (λ k. (p : Place) → expr_in [] (expr_at p k) ≡ expr_at p k) (λ a. expr_in [] a ≡ a)
    (λ x y is. subst (λ z. (p : Place) → expr_in [] (expr_at p (roll-ExprKind z)) ≡ expr_at p (roll-ExprKind z)) is (kind_unbound y))
    (λ x y is. subst (λ z. expr_in [] (roll-ExprTree z) ≡ roll-ExprTree z) is (y.kind.1 y.place))

abbrev CondKindWith : Type 0
CondKindWith = (k : CondKind) × ((p : Place) → cond_in [] (cond_at p k) ≡ cond_at p k)

abbrev CondWith : Type 0
CondWith = (c : CondTree) × (cond_in [] c ≡ c)

cond_kind_unbound : (y : CondKind-F CondKindWith CondWith) (p : Place)
    → cond_in [] (cond_at p (roll-CondKind (map-CondKind CondKindWith CondWith CondKind CondTree (λ e. e.0) (λ e. e.0) y)))
    ≡ cond_at p (roll-CondKind (map-CondKind CondKindWith CondWith CondKind CondTree (λ e. e.0) (λ e. e.0) y))
cond_kind_unbound CondKind-F.True p = search (rules, cond_lemmas)
cond_kind_unbound CondKind-F.False p = search (rules, cond_lemmas)
cond_kind_unbound (CondKind-F.Compare how a b) p = let e = expr_unbound a in let f = expr_unbound b in search (rules, cond_lemmas)
cond_kind_unbound (CondKind-F.Not c) p = let e = c.1 in search (rules, cond_lemmas)
cond_kind_unbound (CondKind-F.And c d) p = let e = c.1 in let f = d.1 in search (rules, cond_lemmas)
cond_kind_unbound (CondKind-F.Or c d) p = let e = c.1 in let f = d.1 in search (rules, cond_lemmas)

pub cond_unbound : (c : CondTree) → cond_in [] c ≡ c
cond_unbound = ind-CondTree (λ k. (p : Place) → cond_in [] (cond_at p k) ≡ cond_at p k) (λ c. cond_in [] c ≡ c)
    (λ x y is. subst (λ z. (p : Place) → cond_in [] (cond_at p (roll-CondKind z)) ≡ cond_at p (roll-CondKind z)) is (cond_kind_unbound y))
    (λ x y is. subst (λ z. cond_in [] (roll-CondTree z) ≡ roll-CondTree z) is (y.kind.1 y.place))

io_unbound : (i : IoTree) → io_in [] i ≡ i
io_unbound (io_of.Send x a) = ap (io_of.Send x) (expr_unbound a)
io_unbound (io_of.Receive x y) = refl

rates_unbound : (rs : List RateTree) → map (rate_in []) rs ≡ rs
rates_unbound [] = refl
rates_unbound (r ∷ rs) =
    ap (λ a. with_value r a ∷ map (rate_in []) rs) (expr_unbound r.value) ∙ ap (λ us. r ∷ us) (rates_unbound rs)
  where
    with_value : RateTree → ExprTree → RateTree
    with_value r a = record { place = r.place; variable = r.variable; value = a }

abbrev IsUnbound : StmtTree → Type 0
IsUnbound s = stmt_in [] s ≡ s

all_unbound : (ss : List StmtTree) → Each IsUnbound ss → map (stmt_in []) ss ≡ ss
all_unbound [] es = refl
all_unbound (s ∷ ss) es = let e = es.0 in let f = all_unbound ss es.1 in cc

branch_unbound : (b : BranchTree) → EachBehind IsUnbound b → branch_in [] b ≡ b
branch_unbound b es =
    in-branch [] b ∙ ap (λ i. branch_at (out-BranchTree b).place i (map (stmt_in []) (out-BranchTree b).body)) (io_unbound (out-BranchTree b).io)
    ∙ ap (branch_at (out-BranchTree b).place (out-BranchTree b).io) (all_unbound (out-BranchTree b).body es)
    ∙ roll-out-BranchTree b

branches_unbound : (bs : List BranchTree) → Each (EachBehind IsUnbound) bs → map (branch_in []) bs ≡ bs
branches_unbound [] es = refl
branches_unbound (b ∷ bs) es = let e = branch_unbound b es.0 in let f = branches_unbound bs es.1 in cc

-- a statement at its own place
itself : (s : StmtTree) (k : StmtKind) → s.kind ≡ k → stmt_at s.place k ≡ s
itself s k e = ap (stmt_at s.place) (sym e)

else_unbound : (no : Option (List StmtTree)) → EachElse IsUnbound no → option_map (map (stmt_in [])) no ≡ no
else_unbound None es = refl
else_unbound (Some ss) es = ap Some (all_unbound ss es)

unbound_steps : Steps IsUnbound
unbound_steps = record {
  skip = λ s e. in-Skip [] s e ∙ itself s _ e;
  assign = λ s x a e. in-Assign [] s x a e ∙ ap (λ b. stmt_at s.place (plain.Assign x b)) (expr_unbound a) ∙ itself s _ e;
  wait = λ s a e. in-Wait [] s a e ∙ ap (λ b. stmt_at s.place (plain.Wait b)) (expr_unbound a) ∙ itself s _ e;
  io = λ s i e. in-Io [] s i e ∙ ap (λ j. stmt_at s.place (plain.Io j)) (io_unbound i) ∙ itself s _ e;
  log = λ s a e. in-Log [] s a e ∙ ap (λ b. stmt_at s.place (plain.Log b)) (expr_unbound a) ∙ itself s _ e;
  when = λ s c ss no e f g. in-If [] s c ss no e
      ∙ ap (λ d. stmt_at s.place (seen.If d (map (stmt_in []) ss) (option_map (map (stmt_in [])) no))) (cond_unbound c)
      ∙ ap (λ rs. stmt_at s.place (seen.If c rs (option_map (map (stmt_in [])) no))) (all_unbound ss f)
      ∙ ap (λ o. stmt_at s.place (seen.If c ss o)) (else_unbound no g) ∙ itself s _ e;
  pick = λ s ss rs e f g. in-Pick [] s ss rs e ∙ ap (λ us. stmt_at s.place (seen.Pick us (map (stmt_in []) rs))) (all_unbound ss f)
      ∙ ap (λ us. stmt_at s.place (seen.Pick ss us)) (all_unbound rs g) ∙ itself s _ e;
  forever = λ s ss e f. in-Forever [] s ss e ∙ ap (λ us. stmt_at s.place (seen.Forever us)) (all_unbound ss f) ∙ itself s _ e;
  loop = λ s c ss e f. in-Loop [] s c ss e ∙ ap (λ d. stmt_at s.place (seen.Loop d (map (stmt_in []) ss))) (cond_unbound c)
      ∙ ap (λ us. stmt_at s.place (seen.Loop c us)) (all_unbound ss f) ∙ itself s _ e;
  choice = λ s bs e f. in-Choice [] s bs e ∙ ap (λ us. stmt_at s.place (seen.Choice us)) (branches_unbound bs f) ∙ itself s _ e;
  evolve = λ s rs c bs e f. in-Evolve [] s rs c bs e
      ∙ ap (λ us. stmt_at s.place (seen.Evolve us (cond_in [] c) (map (branch_in []) bs))) (rates_unbound rs)
      ∙ ap (λ d. stmt_at s.place (seen.Evolve rs d (map (branch_in []) bs))) (cond_unbound c)
      ∙ ap (λ us. stmt_at s.place (seen.Evolve rs c us)) (branches_unbound bs f) ∙ itself s _ e;
}

pub stmt_unbound : (s : StmtTree) → stmt_in [] s ≡ s
stmt_unbound = by_induction IsUnbound unbound_steps

pub stmts_unbound : (ss : List StmtTree) → map (stmt_in []) ss ≡ ss
stmts_unbound [] = refl
stmts_unbound (s ∷ ss) = let e = stmt_unbound s in let f = stmts_unbound ss in cc
