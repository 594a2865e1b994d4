-- How many statements each form of a statement has, and that a call changes none of them.
use Rattle.std.proofs.Common.{rules, arith, ◌≡◌, refl, ap, sym, ◌∙◌, ℕ, ◌+◌, List, [], ◌∷◌, map, sum, sum_by, Option, Some, None, option_map}
use Rattle.std.proofs.lemmas.List.Sums.{sum-map, sum_by-cons}
use Rattle.hc_ast.specs.declared.expr.CondTree.{CondTree}
use Rattle.hc_ast.specs.declared.stmt.RateTree.{RateTree}
use Rattle.hc_ast.specs.declared.stmt.StmtKind.{StmtKind, the_lemmas}
use Rattle.hc_ast.specs.declared.stmt.StmtKind.TheViews as seen
use Rattle.hc_ast.specs.declared.stmt.StmtKind.TheViews.{out-roll-BranchTree}
use Rattle.hc_ast.specs.declared.stmt.StmtKind.TheOpen.{BranchTree-F}
use Rattle.hc_ast.specs.declared.stmt.StmtTree.{StmtTree}
use Rattle.hc_ast.specs.declared.stmt.BranchTree.{BranchTree, out-BranchTree}
use Rattle.hc_modules.specs.Bindings.{Bindings}
use Rattle.hc_modules.specs.Replaced.{io_in, stmt_in, branch_in}
use Rattle.hc_modules.specs.Sizes.{statements, count_layer}
use Rattle.hc_modules.proofs.Induction.{Each, EachElse, EachBehind, Steps, by_induction}
use Rattle.hc_modules.proofs.InForms.{in-If, in-Pick, in-Forever, in-Loop, in-Choice, in-Evolve, in-branch}
use Rattle.hc_modules.proofs.Folds.{fold-choose}

abbrev pub total : List StmtTree → ℕ
total ss = sum_by statements ss

abbrev pub else_total : Option (List StmtTree) → ℕ
else_total None = 0
else_total (Some ss) = total ss

abbrev pub branch_total : List BranchTree → ℕ
branch_total bs = sum_by (λ b. total (out-BranchTree b).body) bs

pub statements-If : (s : StmtTree) (c : CondTree) (ss : List StmtTree) (no : Option (List StmtTree)) → s.kind ≡ seen.If c ss no
    → statements s ≡ 1 + total ss + else_total no
statements-If s c ss None e = search (rules, the_lemmas, sum-map)
statements-If s c ss (Some rs) e =
    let h = fold-choose ℕ ℕ ℕ count_layer (λ b. sum b.body) (λ t. t.kind) s c ss rs e in
    omega (arith, h, sum-map statements ss, sum-map statements rs)

pub statements-Pick : (s : StmtTree) (ss rs : List StmtTree) → s.kind ≡ seen.Pick ss rs → statements s ≡ 1 + total ss + total rs
statements-Pick s ss rs e = search (rules, the_lemmas, sum-map)

pub statements-Forever : (s : StmtTree) (ss : List StmtTree) → s.kind ≡ seen.Forever ss → statements s ≡ 1 + total ss
statements-Forever s ss e = search (rules, the_lemmas, sum-map)

pub statements-Loop : (s : StmtTree) (c : CondTree) (ss : List StmtTree) → s.kind ≡ seen.Loop c ss → statements s ≡ 1 + total ss
statements-Loop s c ss e = search (rules, the_lemmas, sum-map)

pub statements-Choice : (s : StmtTree) (bs : List BranchTree) → s.kind ≡ seen.Choice bs → statements s ≡ 1 + branch_total bs
statements-Choice s bs e = search (rules, the_lemmas, sum-map)

pub statements-Evolve : (s : StmtTree) (rs : List RateTree) (c : CondTree) (bs : List BranchTree) → s.kind ≡ seen.Evolve rs c bs
    → statements s ≡ 1 + branch_total bs
statements-Evolve s rs c bs e = search (rules, the_lemmas, sum-map)

one_more : {X Y : Type 0} (f : X → ℕ) (g : Y → ℕ) (x : X) (xs : List X) (y : Y) (ys : List Y) → f x ≡ g y → sum_by f xs ≡ sum_by g ys
    → sum_by f (x ∷ xs) ≡ sum_by g (y ∷ ys)
one_more f g x xs y ys e h =
    sum_by-cons f x xs ∙ ap (λ n. n + sum_by f xs) e ∙ ap (λ n. g y + n) h ∙ sym (sum_by-cons g y ys)

module _ (bs : Bindings) where
  abbrev IsCounted : StmtTree → Type 0
  IsCounted s = statements (stmt_in bs s) ≡ statements s

  all_counted : (ss : List StmtTree) → Each IsCounted ss → total (map (stmt_in bs) ss) ≡ total ss
  all_counted [] es = refl
  all_counted (s ∷ ss) es = one_more statements statements (stmt_in bs s) (map (stmt_in bs) ss) s ss es.0 (all_counted ss es.1)

  else_counted : (no : Option (List StmtTree)) → EachElse IsCounted no → else_total (option_map (map (stmt_in bs)) no) ≡ else_total no
  else_counted None es = refl
  else_counted (Some ss) es = all_counted ss es

  behind_counted : (b : BranchTree) → EachBehind IsCounted b → total (out-BranchTree (branch_in bs b)).body ≡ total (out-BranchTree b).body
  behind_counted b es =
      ap (λ x. total (out-BranchTree x).body) (in-branch bs b)
      ∙ ap (λ x. total x.body) (out-roll-BranchTree (layer_in b)) ∙ all_counted (out-BranchTree b).body es
    where
      layer_in : BranchTree → BranchTree-F StmtKind BranchTree StmtTree
      layer_in b = record {
        place = (out-BranchTree b).place;
        io = io_in bs (out-BranchTree b).io;
        body = map (stmt_in bs) (out-BranchTree b).body;
      }

  branches_counted : (brs : List BranchTree) → Each (EachBehind IsCounted) brs → branch_total (map (branch_in bs) brs) ≡ branch_total brs
  branches_counted [] es = refl
  branches_counted (b ∷ brs) es = one_more (λ x. total (out-BranchTree x).body) (λ x. total (out-BranchTree x).body) (branch_in bs b) (map (branch_in bs) brs) b brs
      (behind_counted b es.0) (branches_counted brs es.1)

  counted_steps : Steps IsCounted
  counted_steps = record {
    skip = λ s e. search (rules, the_lemmas);
    assign = λ s x a e. search (rules, the_lemmas);
    wait = λ s a e. search (rules, the_lemmas);
    io = λ s i e. search (rules, the_lemmas);
    log = λ s a e. search (rules, the_lemmas);
    when = λ s c ss no e f g.
        let h = ap statements (in-If bs s c ss no e) ∙ statements-If _ _ _ _ refl in
        omega (arith, h, statements-If s c ss no e, all_counted ss f, else_counted no g);
    pick = λ s ss rs e f g.
        let h = ap statements (in-Pick bs s ss rs e) ∙ statements-Pick _ _ _ refl in
        omega (arith, h, statements-Pick s ss rs e, all_counted ss f, all_counted rs g);
    forever = λ s ss e f.
        let h = ap statements (in-Forever bs s ss e) ∙ statements-Forever _ _ refl in
        omega (arith, h, statements-Forever s ss e, all_counted ss f);
    loop = λ s c ss e f.
        let h = ap statements (in-Loop bs s c ss e) ∙ statements-Loop _ _ _ refl in
        omega (arith, h, statements-Loop s c ss e, all_counted ss f);
    choice = λ s brs e f.
        let h = ap statements (in-Choice bs s brs e) ∙ statements-Choice _ _ refl in
        omega (arith, h, statements-Choice s brs e, branches_counted brs f);
    evolve = λ s rs c brs e f.
        let h = ap statements (in-Evolve bs s rs c brs e) ∙ statements-Evolve _ _ _ _ refl in
        omega (arith, h, statements-Evolve s rs c brs e, branches_counted brs f);
  }

  pub statements-in : (s : StmtTree) → statements (stmt_in bs s) ≡ statements s
  statements-in = by_induction IsCounted counted_steps

  pub total-in : (ss : List StmtTree) → total (map (stmt_in bs) ss) ≡ total ss
  total-in [] = refl
  total-in (s ∷ ss) = one_more statements statements (stmt_in bs s) (map (stmt_in bs) ss) s ss (statements-in s) (total-in ss)
