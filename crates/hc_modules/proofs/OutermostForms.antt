-- The outermost expressions of each form of a statement in a call.
use Rattle.std.proofs.Common.{rules, ◌≡◌, refl, ap, ◌∙◌, List, [], ◌∷◌, ◌++◌, map, flat_map, fold, Option, Some, None}
use Rattle.std.proofs.lemmas.List.{append-nil}
use Rattle.hc_ast.specs.declared.expr.ExprTree.{ExprTree}
use Rattle.hc_ast.specs.declared.expr.CondTree.{CondTree}
use Rattle.hc_ast.specs.declared.stmt.IoTree.{IoTree}
use Rattle.hc_ast.specs.declared.stmt.RateTree.{RateTree}
use Rattle.hc_ast.specs.declared.stmt.StmtKind.{StmtKind, the_lemmas}
use Rattle.hc_ast.specs.declared.stmt.StmtKind.TheVariants as plain
use Rattle.hc_ast.specs.declared.stmt.StmtKind.TheViews as seen
use Rattle.hc_ast.specs.declared.stmt.StmtKind.TheViews.{out-roll-BranchTree}
use Rattle.hc_ast.specs.declared.stmt.StmtKind.TheOpen.{BranchTree-F}
use Rattle.hc_ast.specs.declared.stmt.StmtTree.{StmtTree}
use Rattle.hc_ast.specs.declared.stmt.BranchTree.{BranchTree, out-BranchTree}
use Rattle.hc_ast.specs.Bare.{Word}
use Rattle.hc_modules.specs.declared.nodes.NodeCount.{NodeCount}
use Rattle.hc_modules.specs.Bindings.{Bindings}
use Rattle.hc_modules.specs.Counted.{add}
use Rattle.hc_modules.specs.Replaced.{expr_in, cond_in, io_in, rate_in, stmt_in, branch_in}
use Rattle.hc_modules.specs.Outermost.{Outermost, of_expr, of_cond, of_io, in_a_row, outermost, branch_outermost, outermost_layer, outermost_branch}
use Rattle.hc_modules.proofs.Rows.{rows, both_rows}
use Rattle.hc_modules.proofs.Folds.{fold-choose}
use Rattle.hc_modules.proofs.InForms.{in-Skip, in-Assign, in-Wait, in-Io, in-Log, in-If, in-Pick, in-Forever, in-Loop, in-Choice, in-Evolve, in-branch}

pub fold-append : {A B : Type 0} (f : B → A → B) (a : B) (xs ys : List A) → fold f a (xs ++ ys) ≡ fold f (fold f a xs) ys
fold-append f a [] ys = refl
fold-append f a (x ∷ xs) ys = fold-append f (f a x) xs ys

abbrev pub all_outermost_of : List StmtTree → List Outermost
all_outermost_of ss = flat_map outermost ss

-- each form by itself
module _ (s : StmtTree) where
  outermost-when : (c : CondTree) (ss : List StmtTree) → s.kind ≡ seen.If c ss None → outermost s ≡ of_cond c ∷ in_a_row (map outermost ss) ++ []
  outermost-when c ss e = search (rules, the_lemmas)

  outermost-Pick : (ss rs : List StmtTree) → s.kind ≡ seen.Pick ss rs → outermost s ≡ in_a_row (map outermost ss) ++ in_a_row (map outermost rs)
  outermost-Pick ss rs e = search (rules, the_lemmas)

  outermost-Forever : (ss : List StmtTree) → s.kind ≡ seen.Forever ss → outermost s ≡ in_a_row (map outermost ss)
  outermost-Forever ss e = search (rules, the_lemmas)

  outermost-Loop : (c : CondTree) (ss : List StmtTree) → s.kind ≡ seen.Loop c ss → outermost s ≡ in_a_row (map outermost ss) ++ of_cond c ∷ []
  outermost-Loop c ss e = search (rules, the_lemmas)

  outermost-Choice : (bs : List BranchTree) → s.kind ≡ seen.Choice bs → outermost s ≡ in_a_row (map branch_outermost bs)
  outermost-Choice bs e = search (rules, the_lemmas)

  outermost-Evolve : (rs : List RateTree) (c : CondTree) (bs : List BranchTree) → s.kind ≡ seen.Evolve rs c bs
      → outermost s ≡ map (λ r. of_expr r.value) rs ++ of_cond c ∷ in_a_row (map branch_outermost bs)
  outermost-Evolve rs c bs e = search (rules, the_lemmas)

-- the count along each form in a call
module _ (b : Bindings) (n : NodeCount) where
  abbrev pub counted : StmtTree → NodeCount
  counted s = fold add n (outermost (stmt_in b s))

  abbrev pub all_counted : NodeCount → List StmtTree → NodeCount
  all_counted m ss = fold add m (flat_map outermost (map (stmt_in b) ss))

  abbrev pub branches_counted : NodeCount → List BranchTree → NodeCount
  branches_counted m bs = fold add m (flat_map branch_outermost (map (branch_in b) bs))

  abbrev pub else_counted : NodeCount → Option (List StmtTree) → NodeCount
  else_counted m None = m
  else_counted m (Some ss) = all_counted m ss

  along : (s t : StmtTree) (os : List Outermost) → stmt_in b s ≡ t → outermost t ≡ os → counted s ≡ fold add n os
  along s t os e f = ap (λ u. fold add n (outermost u)) e ∙ ap (fold add n) f

  pub counted-Skip : (s : StmtTree) → s.kind ≡ plain.Skip → counted s ≡ n
  counted-Skip s e = along s _ [] (in-Skip b s e) (search (rules, the_lemmas))

  pub counted-Assign : (s : StmtTree) (x : Word) (a : ExprTree) → s.kind ≡ plain.Assign x a → counted s ≡ add n (of_expr (expr_in b a))
  counted-Assign s x a e = along s _ (of_expr (expr_in b a) ∷ []) (in-Assign b s x a e) (search (rules, the_lemmas))

  pub counted-Wait : (s : StmtTree) (a : ExprTree) → s.kind ≡ plain.Wait a → counted s ≡ add n (of_expr (expr_in b a))
  counted-Wait s a e = along s _ (of_expr (expr_in b a) ∷ []) (in-Wait b s a e) (search (rules, the_lemmas))

  pub counted-Log : (s : StmtTree) (a : ExprTree) → s.kind ≡ plain.Log a → counted s ≡ add n (of_expr (expr_in b a))
  counted-Log s a e = along s _ (of_expr (expr_in b a) ∷ []) (in-Log b s a e) (search (rules, the_lemmas))

  pub counted-Io : (s : StmtTree) (i : IoTree) → s.kind ≡ plain.Io i → counted s ≡ fold add n (of_io (io_in b i))
  counted-Io s i e = along s _ (of_io (io_in b i)) (in-Io b s i e) (search (rules, the_lemmas))

  pub counted-If : (s : StmtTree) (c : CondTree) (ss : List StmtTree) (no : Option (List StmtTree)) → s.kind ≡ seen.If c ss no
      → counted s ≡ else_counted (all_counted (add n (of_cond (cond_in b c))) ss) no
  counted-If s c ss None e =
      along s _ _ (in-If b s c ss None e)
      (outermost-when _ (cond_in b c) (map (stmt_in b) ss) refl
      ∙ ap (λ os. of_cond (cond_in b c) ∷ os) (append-nil (in_a_row (map outermost (map (stmt_in b) ss))) ∙ rows outermost (map (stmt_in b) ss)))
  counted-If s c ss (Some rs) e =
      along s _ _ (in-If b s c ss (Some rs) e)
      (fold-choose (List Outermost) (List Outermost) (List Outermost) outermost_layer outermost_branch (λ t. t.kind)
      _ (cond_in b c) (map (stmt_in b) ss) (map (stmt_in b) rs) refl
      ∙ ap (λ os. of_cond (cond_in b c) ∷ os) (both_rows outermost (map (stmt_in b) ss) (map (stmt_in b) rs)))
      ∙ fold-append add (add n (of_cond (cond_in b c))) (flat_map outermost (map (stmt_in b) ss)) (flat_map outermost (map (stmt_in b) rs))

  pub counted-Pick : (s : StmtTree) (ss rs : List StmtTree) → s.kind ≡ seen.Pick ss rs → counted s ≡ all_counted (all_counted n ss) rs
  counted-Pick s ss rs e =
      along s _ _ (in-Pick b s ss rs e)
      (outermost-Pick _ (map (stmt_in b) ss) (map (stmt_in b) rs) refl ∙ both_rows outermost (map (stmt_in b) ss) (map (stmt_in b) rs))
      ∙ fold-append add n (flat_map outermost (map (stmt_in b) ss)) (flat_map outermost (map (stmt_in b) rs))

  pub counted-Forever : (s : StmtTree) (ss : List StmtTree) → s.kind ≡ seen.Forever ss → counted s ≡ all_counted n ss
  counted-Forever s ss e =
      along s _ _ (in-Forever b s ss e) (outermost-Forever _ (map (stmt_in b) ss) refl ∙ rows outermost (map (stmt_in b) ss))

  pub counted-Loop : (s : StmtTree) (c : CondTree) (ss : List StmtTree) → s.kind ≡ seen.Loop c ss
      → counted s ≡ add (all_counted n ss) (of_cond (cond_in b c))
  counted-Loop s c ss e =
      along s _ _ (in-Loop b s c ss e)
      (outermost-Loop _ (cond_in b c) (map (stmt_in b) ss) refl
      ∙ ap (λ os. os ++ of_cond (cond_in b c) ∷ []) (rows outermost (map (stmt_in b) ss)))
      ∙ fold-append add n (flat_map outermost (map (stmt_in b) ss)) (of_cond (cond_in b c) ∷ [])

  pub counted-Choice : (s : StmtTree) (bs : List BranchTree) → s.kind ≡ seen.Choice bs → counted s ≡ branches_counted n bs
  counted-Choice s bs e =
      along s _ _ (in-Choice b s bs e) (outermost-Choice _ (map (branch_in b) bs) refl ∙ rows branch_outermost (map (branch_in b) bs))

  pub counted-Evolve : (s : StmtTree) (rs : List RateTree) (c : CondTree) (bs : List BranchTree) → s.kind ≡ seen.Evolve rs c bs
      → counted s ≡ branches_counted (add (fold add n (map (λ r. of_expr r.value) (map (rate_in b) rs))) (of_cond (cond_in b c))) bs
  counted-Evolve s rs c bs e =
      along s _ _ (in-Evolve b s rs c bs e)
      (outermost-Evolve _ (map (rate_in b) rs) (cond_in b c) (map (branch_in b) bs) refl
      ∙ ap (λ os. map (λ r. of_expr r.value) (map (rate_in b) rs) ++ of_cond (cond_in b c) ∷ os) (rows branch_outermost (map (branch_in b) bs)))
      ∙ fold-append add n (map (λ r. of_expr r.value) (map (rate_in b) rs))
      (of_cond (cond_in b c) ∷ flat_map branch_outermost (map (branch_in b) bs))

  branch_outermost-is : (x : BranchTree)
      → branch_outermost x ≡ of_io (out-BranchTree x).io ++ in_a_row (map outermost (out-BranchTree x).body)
  branch_outermost-is x = search (rules, the_lemmas)

  pub counted-branch : (x : BranchTree)
      → fold add n (branch_outermost (branch_in b x)) ≡ all_counted (fold add n (of_io (io_in b (out-BranchTree x).io))) (out-BranchTree x).body
  counted-branch x =
      ap (λ y. fold add n (branch_outermost y)) (in-branch b x)
      ∙ ap (fold add n) (branch_outermost-is _
      ∙ ap (λ y. of_io y.io ++ in_a_row (map outermost y.body)) (out-roll-BranchTree (layer_in x))
      ∙ ap (λ os. of_io (io_in b (out-BranchTree x).io) ++ os) (rows outermost (map (stmt_in b) (out-BranchTree x).body)))
      ∙ fold-append add n (of_io (io_in b (out-BranchTree x).io)) (flat_map outermost (map (stmt_in b) (out-BranchTree x).body))
    where
      layer_in : BranchTree → BranchTree-F StmtKind BranchTree StmtTree
      layer_in x = record {
        place = (out-BranchTree x).place;
        io = io_in b (out-BranchTree x).io;
        body = map (stmt_in b) (out-BranchTree x).body;
      }

pub ruleset branch_forms = (counted-branch)
