-- Numbering changes no number of statements.
use Rattle.std.proofs.Common.{rules, arith, ◌≡◌, refl, ap, sym, ◌∙◌, ℕ, ◌+◌, List, [], ◌∷◌, map, sum_by, Option, Some, None}
use Rattle.std.proofs.lemmas.List.Sums.{sum_by-cons}
use Rattle.hc_ast.specs.Bare.{Word}
use Rattle.hc_ast.specs.declared.stmt.StmtTree.{StmtTree}
use Rattle.hc_ast.specs.declared.stmt.BranchTree.{BranchTree, out-BranchTree}
use Rattle.hc_ast.specs.declared.stmt.StmtKind.{the_lemmas}
use Rattle.hc_term.specs.declared.stmt.Stmt.{the_lemmas as stmt_lemmas}
use Rattle.hc_term.specs.declared.stmt.Branch.{out-Branch}
use Rattle.hc_term.specs.Rules as numbered
use Rattle.hc_term.proofs.Sizes as forms
use Rattle.hc_modules.specs.declared.flat.FlatProcess.{FlatProcess}
use Rattle.hc_modules.specs.Sizes.{statements, all_statements, process_statements}
use Rattle.hc_modules.proofs.Induction.{Each, EachElse, EachBehind, Steps, by_induction}
use Rattle.hc_modules.proofs.Shapes.{total, else_total, branch_total, statements-If, statements-Pick, statements-Forever, statements-Loop, statements-Choice, statements-Evolve}
use Rattle.hc_finds.specs.Limits.{variables_of}
use Rattle.hc_check.specs.Numbered.{cond_over, rate_over, stmt_over, branch_over, process_over}
use Rattle.hc_check.proofs.OverForms.{else_over, over-Skip, over-Assign, over-Wait, over-Io, over-Log, over-If, over-Pick, over-Forever, over-Loop, over-Choice, over-Evolve, body-over-branch}

-- sums agree where each pair does
pub sums_agree : {X Y : Type 0} (f : X → Y) (g : Y → ℕ) (h : X → ℕ) (xs : List X) → Each (λ x. g (f x) ≡ h x) xs → sum_by g (map f xs) ≡ sum_by h xs
sums_agree f g h [] es = refl
sums_agree f g h (x ∷ xs) es =
    sum_by-cons g (f x) (map f xs) ∙ ap (λ n. n + sum_by g (map f xs)) es.0 ∙ ap (λ n. h x + n) (sums_agree f g h xs es.1) ∙ sym (sum_by-cons h x xs)

-- what holds of all holds of each
pub each_of : {X : Type 0} (P : X → Type 0) → ((x : X) → P x) → (xs : List X) → Each P xs
each_of P h [] = tt
each_of P h (x ∷ xs) = (h x, each_of P h xs)

module _ (cs xs : List Word) where
  abbrev IsSame : StmtTree → Type 0
  IsSame s = numbered.statements (stmt_over cs xs s) ≡ statements s

  all_same : (ss : List StmtTree) → Each IsSame ss → forms.all_statements (map (stmt_over cs xs) ss) ≡ total ss
  all_same ss es = sums_agree (stmt_over cs xs) numbered.statements statements ss es

  else_same : (no : Option (List StmtTree)) → EachElse IsSame no → forms.all_statements (else_over cs xs no) ≡ else_total no
  else_same None es = refl
  else_same (Some ss) es = all_same ss es

  behind_same : (bs : List BranchTree) → Each (EachBehind IsSame) bs
      → Each (λ b. sum_by numbered.statements (out-Branch (branch_over cs xs b)).body ≡ total (out-BranchTree b).body) bs
  behind_same [] es = tt
  behind_same (b ∷ bs) es =
      (ap (sum_by numbered.statements) (body-over-branch cs xs b) ∙ all_same (out-BranchTree b).body es.0, behind_same bs es.1)

  branches_same : (bs : List BranchTree) → Each (EachBehind IsSame) bs → forms.branch_statements (map (branch_over cs xs) bs) ≡ branch_total bs
  branches_same bs es =
      sums_agree (branch_over cs xs) (λ b. sum_by numbered.statements (out-Branch b).body) (λ b. total (out-BranchTree b).body) bs (behind_same bs es)

  same_steps : Steps IsSame
  same_steps = record {
    skip = λ s e. let o = over-Skip cs xs s e in search (rules, the_lemmas, stmt_lemmas);
    assign = λ s x v e. let o = over-Assign cs xs s x v e in search (rules, the_lemmas, stmt_lemmas);
    wait = λ s v e. let o = over-Wait cs xs s v e in search (rules, the_lemmas, stmt_lemmas);
    io = λ s i e. let o = over-Io cs xs s i e in search (rules, the_lemmas, stmt_lemmas);
    log = λ s v e. let o = over-Log cs xs s v e in search (rules, the_lemmas, stmt_lemmas);
    when = λ s c ss no e f g.
        let h = forms.statements-If _ (cond_over xs c) (map (stmt_over cs xs) ss) (else_over cs xs no) (over-If cs xs s c ss no e) in
        omega (arith, h, statements-If s c ss no e, all_same ss f, else_same no g);
    pick = λ s ss rs e f g.
        let h = forms.statements-Pick _ (map (stmt_over cs xs) ss) (map (stmt_over cs xs) rs) (over-Pick cs xs s ss rs e) in
        omega (arith, h, statements-Pick s ss rs e, all_same ss f, all_same rs g);
    forever = λ s ss e f.
        let h = forms.statements-Forever _ (map (stmt_over cs xs) ss) (over-Forever cs xs s ss e) in
        omega (arith, h, statements-Forever s ss e, all_same ss f);
    loop = λ s c ss e f.
        let h = forms.statements-Loop _ (cond_over xs c) (map (stmt_over cs xs) ss) (over-Loop cs xs s c ss e) in
        omega (arith, h, statements-Loop s c ss e, all_same ss f);
    choice = λ s bs e f.
        let h = forms.statements-Choice _ (map (branch_over cs xs) bs) (over-Choice cs xs s bs e) in
        omega (arith, h, statements-Choice s bs e, branches_same bs f);
    evolve = λ s rs c bs e f.
        let h = forms.statements-Evolve _ (map (rate_over xs) rs) (cond_over xs c) (map (branch_over cs xs) bs) (over-Evolve cs xs s rs c bs e) in
        omega (arith, h, statements-Evolve s rs c bs e, branches_same bs f);
  }

  pub statements_same : (s : StmtTree) → numbered.statements (stmt_over cs xs s) ≡ statements s
  statements_same = by_induction IsSame same_steps

-- of all processes
pub all_statements_same : (cs : List Word) (ps : List FlatProcess) → sum_by numbered.body_statements (map (process_over cs) ps) ≡ all_statements ps
all_statements_same cs ps =
    sums_agree (process_over cs) numbered.body_statements process_statements ps (each_of (λ p. numbered.body_statements (process_over cs p) ≡ process_statements p) process_same ps)
  where
    process_same : (p : FlatProcess) → numbered.body_statements (process_over cs p) ≡ process_statements p
    process_same p =
        sums_agree (stmt_over cs (variables_of p)) numbered.statements statements p.body
        (each_of (λ s. numbered.statements (stmt_over cs (variables_of p) s) ≡ statements s) (statements_same cs (variables_of p)) p.body)
