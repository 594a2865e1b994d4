-- Each tree that the grammar has is full, in a call too.
use Rattle.std.proofs.Common.{rules, ◌≡◌, refl, ap, ◌∙◌, Bool, true, ◌&&◌, map, Some, None}
use Rattle.std.specs.List.{list_all}
use Rattle.hc_ast.specs.declared.stmt.StmtKind.{the_lemmas}
use Rattle.hc_ast.specs.Stmts as g
use Rattle.hc_ast.specs.StmtTrees.{seq_tree, more_tree, stmt_tree, interrupt_tree, branches_tree, branch_tree, rate_tree, rates_tree}
use Rattle.hc_modules.specs.Bindings.{Bindings}
use Rattle.hc_modules.specs.Replaced.{rate_in, stmt_in, branch_in}
use Rattle.hc_modules.specs.Well.{is_full, is_full_branch}
use Rattle.hc_modules.proofs.Full.{all_full, full-If, full-Pick, full-Forever, full-Loop, full-Choice, full-Evolve, branch_full_of, not_empty}
use Rattle.hc_modules.proofs.InForms.{in-If, in-Pick, in-Forever, in-Loop, in-Choice, in-Evolve}

both_true : {a b : Bool} → a ≡ true → b ≡ true → (a && b) ≡ true
both_true e f = cc

mutual
  pub seq_full : (bs : Bindings) (x : g.Seq) → all_full (map (stmt_in bs) (seq_tree x)) ≡ true
  seq_full bs (g.seq s ss) = both_true (not_empty (stmt_in bs (stmt_tree s)) (map (stmt_in bs) (more_tree ss))) (both_true (stmt_full bs s) (more_full bs ss))

  pub more_full : (bs : Bindings) (x : g.More) → list_all is_full (map (stmt_in bs) (more_tree x)) ≡ true
  more_full bs g.no_more = refl
  more_full bs (g.next t s ss) = both_true (stmt_full bs s) (more_full bs ss)

  pub stmt_full : (bs : Bindings) (x : g.Stmt) → is_full (stmt_in bs (stmt_tree x)) ≡ true
  stmt_full bs (g.skip t) = search (rules, the_lemmas)
  stmt_full bs (g.assign x t e) = search (rules, the_lemmas)
  stmt_full bs (g.wait t a e b) = search (rules, the_lemmas)
  stmt_full bs (g.log t a e b) = search (rules, the_lemmas)
  stmt_full bs (g.communicate i) = search (rules, the_lemmas)
  stmt_full bs (g.when t c u x b) =
      ap is_full (in-If bs (stmt_tree (g.when t c u x b)) _ _ None refl) ∙ full-If _ _ _ None refl ∙ both_true (seq_full bs x) refl
  stmt_full bs (g.choose t c u x v y b) =
      ap is_full (in-If bs (stmt_tree (g.choose t c u x v y b)) _ _ (Some (seq_tree y)) refl)
      ∙ full-If _ _ _ (Some (map (stmt_in bs) (seq_tree y))) refl ∙ both_true (seq_full bs x) (seq_full bs y)
  stmt_full bs (g.pick a x b t u y v) =
      ap is_full (in-Pick bs (stmt_tree (g.pick a x b t u y v)) _ _ refl) ∙ full-Pick _ _ _ refl ∙ both_true (seq_full bs x) (seq_full bs y)
  stmt_full bs (g.forever a x b t) =
      ap is_full (in-Forever bs (stmt_tree (g.forever a x b t)) _ refl) ∙ full-Forever _ _ refl ∙ seq_full bs x
  stmt_full bs (g.loop a x b u c v t) =
      ap is_full (in-Loop bs (stmt_tree (g.loop a x b u c v t)) _ _ refl) ∙ full-Loop _ _ _ refl ∙ seq_full bs x
  stmt_full bs (g.select (g.choice t a x xs b)) =
      ap is_full (in-Choice bs (stmt_tree (g.select (g.choice t a x xs b))) _ refl) ∙ full-Choice _ _ refl
      ∙ both_true (not_empty (branch_in bs (branch_tree x)) (map (branch_in bs) (branches_tree xs))) (both_true (branch_full bs x) (branches_full bs xs))
  stmt_full bs (g.evolve a x xs t c b i) =
      ap is_full (in-Evolve bs (stmt_tree (g.evolve a x xs t c b i)) _ _ _ refl) ∙ full-Evolve _ _ _ _ refl
      ∙ both_true (not_empty (rate_in bs (rate_tree x)) (map (rate_in bs) (rates_tree xs))) (interrupt_full bs i)

  pub interrupt_full : (bs : Bindings) (x : g.Interrupt) → list_all is_full_branch (map (branch_in bs) (interrupt_tree x)) ≡ true
  interrupt_full bs g.none = refl
  interrupt_full bs (g.on u (g.choice t a x xs b)) = both_true (branch_full bs x) (branches_full bs xs)

  pub branches_full : (bs : Bindings) (x : g.Branches) → list_all is_full_branch (map (branch_in bs) (branches_tree x)) ≡ true
  branches_full bs g.no_other = refl
  branches_full bs (g.other t x xs) = both_true (branch_full bs x) (branches_full bs xs)

  pub branch_full : (bs : Bindings) (x : g.Branch) → is_full_branch (branch_in bs (branch_tree x)) ≡ true
  branch_full bs (g.branch i t x) = branch_full_of bs _ _ (seq_tree x) ∙ seq_full bs x
