-- No list of a tree that the grammar has is empty where the grammar wants an element, in a call either.
use Rattle.std.proofs.Common.{rules, arith, ◌≡◌, ap, ◌∙◌, Bool, true, ◌&&◌, nat_le, List, ◌∷◌, map, length, Option, Some, None}
use Rattle.std.specs.List.{list_all}
use Rattle.std.proofs.lemmas.List.{length-map}
use Rattle.std.proofs.lemmas.List.Folds.{list_all-map}
use Rattle.std.proofs.lemmas.Bool.{le-leb}
use Rattle.hc_frac.specs.declared.place.Place.{Place}
use Rattle.hc_ast.specs.declared.expr.CondTree.{CondTree}
use Rattle.hc_ast.specs.declared.stmt.IoTree.{IoTree}
use Rattle.hc_ast.specs.declared.stmt.RateTree.{RateTree}
use Rattle.hc_ast.specs.declared.stmt.StmtKind.{StmtKind, the_lemmas}
use Rattle.hc_ast.specs.declared.stmt.StmtKind.TheViews as seen
use Rattle.hc_ast.specs.declared.stmt.StmtKind.TheViews.{out-roll-BranchTree}
use Rattle.hc_ast.specs.declared.stmt.StmtKind.TheOpen.{BranchTree-F}
use Rattle.hc_ast.specs.declared.stmt.StmtTree.{StmtTree}
use Rattle.hc_ast.specs.declared.stmt.BranchTree.{BranchTree, out-BranchTree}
use Rattle.hc_ast.specs.StmtTrees.{branch_at}
use Rattle.hc_modules.specs.Bindings.{Bindings}
use Rattle.hc_modules.specs.Replaced.{io_in, stmt_in, branch_in}
use Rattle.hc_modules.specs.Well.{some_full, is_full, is_full_branch, full_layer}
use Rattle.hc_modules.proofs.Folds.{fold-choose}
use Rattle.hc_modules.proofs.InForms.{in-branch}

abbrev pub all_full : List StmtTree → Bool
all_full ss = nat_le 1 (length ss) && list_all is_full ss

abbrev pub else_full_of : Option (List StmtTree) → Bool
else_full_of None = true
else_full_of (Some ss) = all_full ss

pub mapped_full : {X : Type 0} (f : X → Bool) (xs : List X) → some_full (map f xs) ≡ (nat_le 1 (length xs) && list_all f xs)
mapped_full f xs =
    ap (λ n. nat_le 1 n && list_all (λ b. b) (map f xs)) (length-map xs f)
    ∙ ap (λ b. nat_le 1 (length xs) && b) (list_all-map (λ b. b) f xs)

module _ (s : StmtTree) where
  full-when : (c : CondTree) (ss : List StmtTree) → s.kind ≡ seen.If c ss None → is_full s ≡ (some_full (map is_full ss) && true)
  full-when c ss e = search (rules, the_lemmas)

  pub full-If : (c : CondTree) (ss : List StmtTree) (no : Option (List StmtTree)) → s.kind ≡ seen.If c ss no
      → is_full s ≡ (all_full ss && else_full_of no)
  full-If c ss None e = full-when c ss e ∙ ap (λ b. b && true) (mapped_full is_full ss)
  full-If c ss (Some rs) e =
      fold-choose Bool Bool Bool full_layer (λ b. some_full b.body) (λ t. t.kind) s c ss rs e
      ∙ ap (λ b. b && some_full (map is_full rs)) (mapped_full is_full ss) ∙ ap (λ b. all_full ss && b) (mapped_full is_full rs)

  pub full-Pick : (ss rs : List StmtTree) → s.kind ≡ seen.Pick ss rs → is_full s ≡ (all_full ss && all_full rs)
  full-Pick ss rs e =
      let h : is_full s ≡ (some_full (map is_full ss) && some_full (map is_full rs)) = search (rules, the_lemmas) in
      h ∙ ap (λ b. b && some_full (map is_full rs)) (mapped_full is_full ss) ∙ ap (λ b. all_full ss && b) (mapped_full is_full rs)

  pub full-Forever : (ss : List StmtTree) → s.kind ≡ seen.Forever ss → is_full s ≡ all_full ss
  full-Forever ss e = let h : is_full s ≡ some_full (map is_full ss) = search (rules, the_lemmas) in h ∙ mapped_full is_full ss

  pub full-Loop : (c : CondTree) (ss : List StmtTree) → s.kind ≡ seen.Loop c ss → is_full s ≡ all_full ss
  full-Loop c ss e = let h : is_full s ≡ some_full (map is_full ss) = search (rules, the_lemmas) in h ∙ mapped_full is_full ss

  pub full-Choice : (bs : List BranchTree) → s.kind ≡ seen.Choice bs
      → is_full s ≡ (nat_le 1 (length bs) && list_all is_full_branch bs)
  full-Choice bs e =
      let h : is_full s ≡ some_full (map is_full_branch bs) = search (rules, the_lemmas) in h ∙ mapped_full is_full_branch bs

  pub full-Evolve : (rs : List RateTree) (c : CondTree) (bs : List BranchTree) → s.kind ≡ seen.Evolve rs c bs
      → is_full s ≡ (nat_le 1 (length rs) && list_all is_full_branch bs)
  full-Evolve rs c bs e =
      let h : is_full s ≡ (nat_le 1 (length rs) && list_all (λ b. b) (map is_full_branch bs)) = search (rules, the_lemmas) in
      h ∙ ap (λ b. nat_le 1 (length rs) && b) (list_all-map (λ b. b) is_full_branch bs)

full_branch-is : (b : BranchTree) → is_full_branch b ≡ some_full (map is_full (out-BranchTree b).body)
full_branch-is b = search (rules, the_lemmas)

-- a branch in a call is full where its statements are
pub branch_full_of : (bs : Bindings) (p : Place) (i : IoTree) (ss : List StmtTree)
    → is_full_branch (branch_in bs (branch_at p i ss)) ≡ all_full (map (stmt_in bs) ss)
branch_full_of bs p i ss =
    ap is_full_branch (in-branch bs (branch_at p i ss))
    ∙ full_branch-is _
    ∙ ap (λ x. some_full (map is_full x.body)) (out-roll-BranchTree (layer_in (out-BranchTree (branch_at p i ss))))
    ∙ ap (λ x. some_full (map is_full (map (stmt_in bs) x.body))) (out-roll-BranchTree (record { place = p; io = i; body = ss }))
    ∙ mapped_full is_full (map (stmt_in bs) ss)
  where
    layer_in : BranchTree-F StmtKind BranchTree StmtTree → BranchTree-F StmtKind BranchTree StmtTree
    layer_in x = record { place = x.place; io = io_in bs x.io; body = map (stmt_in bs) x.body }

pub not_empty : {X : Type 0} (x : X) (xs : List X) → nat_le 1 (length (x ∷ xs)) ≡ true
not_empty x xs = le-leb 1 (length (x ∷ xs)) (omega arith)
