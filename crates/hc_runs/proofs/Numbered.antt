-- Whether the numbers of a statement are fractions, by its layer, and that those of what is inside it then are.
use Rattle.std.proofs.Common.{rules, ◌≡◌, refl, sym, ◌∙◌, Bool, true, ◌&&◌, List, [], ◌∷◌}
use Rattle.std.specs.List.{list_all}
use Rattle.std.proofs.lemmas.Bool.{and_parts, and_from}
use Rattle.std.proofs.lemmas.List.Folds.{list_all-map}
use Rattle.hc_term.specs.declared.expr.Cond.{Cond}
use Rattle.hc_term.specs.declared.stmt.Rate.{Rate}
use Rattle.hc_term.specs.declared.stmt.Stmt.{Stmt, out-Stmt, the_lemmas}
use Rattle.hc_term.specs.declared.stmt.Stmt.TheOpen.{Stmt-F}
use Rattle.hc_term.specs.declared.stmt.Stmt.TheViews as seen
use Rattle.hc_term.specs.declared.stmt.Branch.{Branch, out-Branch}
use Rattle.hc_term.specs.Process.{Layer}
use Rattle.hc_runs.specs.Fractions.{numbers, numbers_sent, numbers_in, all_numbers}
use Rattle.hc_runs.proofs.Inside.{all_in_branches, all_inside, PassesInside}

abbrev pub rate_numbers : List Rate → Bool
rate_numbers rs = list_all (λ r. numbers r.value) rs

abbrev pub branch_numbers : List Branch → Bool
branch_numbers bs = list_all (λ b. numbers_sent (out-Branch b).io && all_numbers (out-Branch b).body) bs

-- whether the numbers of a statement of this layer are fractions
abbrev pub numbers_here : Layer → Bool
numbers_here (Stmt-F.Assign x e) = numbers e
numbers_here (Stmt-F.Wait e) = numbers e
numbers_here (Stmt-F.Log e) = numbers e
numbers_here (Stmt-F.Io io) = numbers_sent io
numbers_here (Stmt-F.If test first second) = all_numbers first && all_numbers second
numbers_here (Stmt-F.Pick left right) = all_numbers left && all_numbers right
numbers_here (Stmt-F.Forever body) = all_numbers body
numbers_here (Stmt-F.Loop test body) = all_numbers body
numbers_here (Stmt-F.Choice branches) = branch_numbers branches
numbers_here (Stmt-F.Evolve rates domain branches) = rate_numbers rates && branch_numbers branches
numbers_here _ = true

module _ (s : Stmt) where
  layer_numbers : (l : Layer) → out-Stmt s ≡ l → numbers_in s ≡ numbers_here l
  layer_numbers Stmt-F.Skip e = search (rules, the_lemmas)
  layer_numbers (Stmt-F.Assign x a) e = search (rules, the_lemmas)
  layer_numbers (Stmt-F.Log a) e = search (rules, the_lemmas)
  layer_numbers (Stmt-F.Wait a) e = search (rules, the_lemmas)
  layer_numbers (Stmt-F.Io io) e = search (rules, the_lemmas)
  layer_numbers (Stmt-F.If test first second) e = search (rules, the_lemmas, list_all-map)
  layer_numbers (Stmt-F.Pick left right) e = search (rules, the_lemmas, list_all-map)
  layer_numbers (Stmt-F.Forever body) e = search (rules, the_lemmas, list_all-map)
  layer_numbers (Stmt-F.Loop test body) e = search (rules, the_lemmas, list_all-map)
  layer_numbers (Stmt-F.Choice branches) e = search (rules, the_lemmas, list_all-map)
  layer_numbers (Stmt-F.Evolve rates domain branches) e = search (rules, the_lemmas, list_all-map)

  pub numbers_is : numbers_in s ≡ numbers_here (out-Stmt s)
  numbers_is = layer_numbers (out-Stmt s) refl

-- the same where a statement is seen as one of its forms
module _ (s : Stmt) where
  pub numbers-If : (c : Cond) (ss rs : List Stmt) → s ≡ seen.If c ss rs → numbers_in s ≡ (all_numbers ss && all_numbers rs)
  numbers-If c ss rs e = search (rules, the_lemmas, list_all-map)

  pub numbers-Pick : (ss rs : List Stmt) → s ≡ seen.Pick ss rs → numbers_in s ≡ (all_numbers ss && all_numbers rs)
  numbers-Pick ss rs e = search (rules, the_lemmas, list_all-map)

  pub numbers-Forever : (ss : List Stmt) → s ≡ seen.Forever ss → numbers_in s ≡ all_numbers ss
  numbers-Forever ss e = search (rules, the_lemmas, list_all-map)

  pub numbers-Loop : (c : Cond) (ss : List Stmt) → s ≡ seen.Loop c ss → numbers_in s ≡ all_numbers ss
  numbers-Loop c ss e = search (rules, the_lemmas, list_all-map)

  pub numbers-Choice : (bs : List Branch) → s ≡ seen.Choice bs → numbers_in s ≡ branch_numbers bs
  numbers-Choice bs e = search (rules, the_lemmas, list_all-map)

  pub numbers-Evolve : (rs : List Rate) (c : Cond) (bs : List Branch) → s ≡ seen.Evolve rs c bs → numbers_in s ≡ (rate_numbers rs && branch_numbers bs)
  numbers-Evolve rs c bs e = search (rules, the_lemmas, list_all-map)

branches_inside : (bs : List Branch) → branch_numbers bs ≡ true → all_in_branches numbers_in bs ≡ true
branches_inside [] h = refl
branches_inside (b ∷ bs) h =
    let parts = and_parts (numbers_sent (out-Branch b).io && all_numbers (out-Branch b).body) (branch_numbers bs) h in
    and_from (all_numbers (out-Branch b).body) (all_in_branches numbers_in bs)
    (and_parts (numbers_sent (out-Branch b).io) (all_numbers (out-Branch b).body) parts.0).1 (branches_inside bs parts.1)

layer_inside : (l : Layer) → numbers_here l ≡ true → all_inside numbers_in l ≡ true
layer_inside (Stmt-F.If test first second) h = h
layer_inside (Stmt-F.Pick left right) h = h
layer_inside (Stmt-F.Forever body) h = h
layer_inside (Stmt-F.Loop test body) h = h
layer_inside (Stmt-F.Choice bs) h = branches_inside bs h
layer_inside (Stmt-F.Evolve rs c bs) h = branches_inside bs (and_parts (rate_numbers rs) (branch_numbers bs) h).1
layer_inside _ h = refl

pub numbered_inside : PassesInside numbers_in
numbered_inside s h = layer_inside (out-Stmt s) (sym (numbers_is s) ∙ h)
