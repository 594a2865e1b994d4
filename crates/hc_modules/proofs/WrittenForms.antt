-- What each form of a statement writes, as its parts do one after the other.
use Rattle.std.proofs.Common.{rules, ◌≡◌, ap, ◌∙◌, List, [], ◌++◌, map, flat_map, Option, Some, None, Result, Ok}
use Rattle.std.proofs.lemmas.List.{append-nil}
use Rattle.std.proofs.lemmas.List.Folds.{flat_map-map}
use Rattle.std.proofs.lemmas.Grind.{flat_map-append}
use Rattle.hc_frac.specs.declared.place.Place.{Place}
use Rattle.hc_ast.specs.declared.expr.CondTree.{CondTree}
use Rattle.hc_ast.specs.declared.stmt.StmtKind.{the_lemmas}
use Rattle.hc_ast.specs.declared.stmt.StmtKind.TheViews as seen
use Rattle.hc_ast.specs.declared.stmt.StmtTree.{StmtTree}
use Rattle.hc_ast.specs.declared.stmt.BranchTree.{BranchTree, out-BranchTree}
use Rattle.hc_ast.specs.declared.stmt.RateTree.{RateTree}
use Rattle.hc_modules.specs.Found.{first_of}
use Rattle.hc_modules.specs.Outermost.{in_a_row, Written, written, branch_written, written_layer, written_branch, by_rate, by_io}
use Rattle.hc_modules.proofs.Firsts.{first_then, first_of-append, nothing_then}
use Rattle.hc_modules.proofs.Rows.{rows, both_rows}
use Rattle.hc_modules.proofs.Folds.{fold-choose}

module _ (look : Written → List Place) where
  abbrev pub found : StmtTree → Result (Unit {0}) Place
  found s = first_of (flat_map look (written s))

  abbrev pub all_found : List StmtTree → Result (Unit {0}) Place
  all_found ss = first_of (flat_map look (flat_map written ss))

  abbrev pub branches_found : List BranchTree → Result (Unit {0}) Place
  branches_found bs = first_of (flat_map look (flat_map branch_written bs))

  both : (xs ys : List Written) → first_of (flat_map look (xs ++ ys)) ≡ first_then (first_of (flat_map look xs)) (first_of (flat_map look ys))
  both xs ys = ap first_of (flat_map-append look xs ys) ∙ first_of-append (flat_map look xs) (flat_map look ys)

  pub found-when : (s : StmtTree) (c : CondTree) (ss : List StmtTree) → s.kind ≡ seen.If c ss None → found s ≡ all_found ss
  found-when s c ss e =
      let h : written s ≡ in_a_row (map written ss) ++ [] = search (rules, the_lemmas) in
      ap (λ ws. first_of (flat_map look ws)) (h ∙ append-nil (in_a_row (map written ss)) ∙ rows written ss)

  found-choose : (s : StmtTree) (c : CondTree) (ss rs : List StmtTree) → s.kind ≡ seen.If c ss (Some rs)
      → found s ≡ first_then (all_found ss) (all_found rs)
  found-choose s c ss rs e =
      let h = fold-choose (Place → List Written) (List Written) (List Written) written_layer written_branch (λ t. t.kind t.place) s c ss rs e in
      ap (λ ws. first_of (flat_map look ws)) (h ∙ both_rows written ss rs) ∙ both (flat_map written ss) (flat_map written rs)

  abbrev pub else_found : Option (List StmtTree) → Result (Unit {0}) Place
  else_found None = Ok tt
  else_found (Some rs) = all_found rs

  pub found-If : (s : StmtTree) (c : CondTree) (ss : List StmtTree) (no : Option (List StmtTree)) → s.kind ≡ seen.If c ss no
      → found s ≡ first_then (all_found ss) (else_found no)
  found-If s c ss None e = found-when s c ss e ∙ nothing_then (all_found ss)
  found-If s c ss (Some rs) e = found-choose s c ss rs e

  pub found-Pick : (s : StmtTree) (ss rs : List StmtTree) → s.kind ≡ seen.Pick ss rs
      → found s ≡ first_then (all_found ss) (all_found rs)
  found-Pick s ss rs e =
      let h : written s ≡ in_a_row (map written ss) ++ in_a_row (map written rs) = search (rules, the_lemmas) in
      ap (λ ws. first_of (flat_map look ws)) (h ∙ both_rows written ss rs) ∙ both (flat_map written ss) (flat_map written rs)

  pub found-Forever : (s : StmtTree) (ss : List StmtTree) → s.kind ≡ seen.Forever ss → found s ≡ all_found ss
  found-Forever s ss e =
      let h : written s ≡ in_a_row (map written ss) = search (rules, the_lemmas) in
      ap (λ ws. first_of (flat_map look ws)) (h ∙ rows written ss)

  pub found-Loop : (s : StmtTree) (c : CondTree) (ss : List StmtTree) → s.kind ≡ seen.Loop c ss → found s ≡ all_found ss
  found-Loop s c ss e =
      let h : written s ≡ in_a_row (map written ss) = search (rules, the_lemmas) in
      ap (λ ws. first_of (flat_map look ws)) (h ∙ rows written ss)

  pub found-Choice : (s : StmtTree) (bs : List BranchTree) → s.kind ≡ seen.Choice bs → found s ≡ branches_found bs
  found-Choice s bs e =
      let h : written s ≡ in_a_row (map branch_written bs) = search (rules, the_lemmas) in
      ap (λ ws. first_of (flat_map look ws)) (h ∙ rows branch_written bs)

  pub found-Evolve : (s : StmtTree) (rs : List RateTree) (c : CondTree) (bs : List BranchTree) → s.kind ≡ seen.Evolve rs c bs
      → found s ≡ first_then (first_of (flat_map (λ r. look (by_rate r)) rs)) (branches_found bs)
  found-Evolve s rs c bs e =
      let h : written s ≡ map by_rate rs ++ in_a_row (map branch_written bs) = search (rules, the_lemmas) in
      ap (λ ws. first_of (flat_map look ws)) (h ∙ ap (λ ws. map by_rate rs ++ ws) (rows branch_written bs)) ∙ both (map by_rate rs) (flat_map branch_written bs)
      ∙ ap (λ ps. first_then (first_of ps) (branches_found bs)) (flat_map-map look by_rate rs)

  pub found-branch : (b : BranchTree)
      → first_of (flat_map look (branch_written b))
      ≡ first_then (first_of (flat_map look (by_io (out-BranchTree b).io (out-BranchTree b).place))) (all_found (out-BranchTree b).body)
  found-branch b =
      let h : branch_written b ≡ by_io (out-BranchTree b).io (out-BranchTree b).place ++ in_a_row (map written (out-BranchTree b).body) = search (rules, the_lemmas) in
      ap (λ ws. first_of (flat_map look ws)) (h ∙ ap (λ ws. by_io (out-BranchTree b).io (out-BranchTree b).place ++ ws) (rows written (out-BranchTree b).body))
      ∙ both (by_io (out-BranchTree b).io (out-BranchTree b).place) (flat_map written (out-BranchTree b).body)

pub ruleset found_forms = (found-when, found-Forever, found-Loop, found-Choice, found-branch)
