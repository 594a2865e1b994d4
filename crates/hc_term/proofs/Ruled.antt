-- When a statement keeps the rules, and when it uses a channel, one equation for each form.
use Rattle.std.proofs.Common.{rules, ◌≡◌, refl, ap, ap₂, ◌∙◌, ℕ, Bool, ◌&&◌, nat_le, List, [], ◌∷◌, map, length}
use Rattle.std.proofs.lemmas.List.{length-map}
use Rattle.std.specs.List.{list_all}
use Rattle.std.proofs.lemmas.List.Folds.{list_all-map}
use Rattle.hc_term.specs.declared.expr.Cond.{Cond}
use Rattle.hc_term.specs.declared.stmt.Io.{Io}
use Rattle.hc_term.specs.declared.stmt.Rate.{Rate}
use Rattle.hc_term.specs.declared.stmt.Stmt.{Stmt, the_lemmas}
use Rattle.hc_term.specs.declared.stmt.Stmt.TheOpen.{Stmt-F}
use Rattle.hc_term.specs.declared.stmt.Stmt.TheViews as seen
use Rattle.hc_term.specs.declared.stmt.Branch.{Branch, out-Branch}
use Rattle.hc_term.specs.declared.stmt.Stmt.TheFolds.{fold-Branch}
use Rattle.hc_term.specs.Profile.{is_cond, is_evolution, are_guards, ios_in}
use Rattle.hc_term.specs.Rules.{is_stmt, Guard, rule_layer, guard_layer, ios_of, all_ruled}

module _ (channels n : ℕ) where
  abbrev pub all_keep : List Stmt → Bool
  all_keep ss = list_all (is_stmt channels n) ss

  abbrev pub branches_keep : List Branch → Bool
  branches_keep bs = list_all (λ b. list_all (is_stmt channels n) (out-Branch b).body) bs

  pub is_stmt-If : (s : Stmt) (c : Cond) (ss rs : List Stmt) → s ≡ seen.If c ss rs → is_stmt channels n s ≡ (is_cond n c && all_keep ss && all_keep rs)
  is_stmt-If s c ss rs e = search (rules, the_lemmas, list_all-map)

  pub is_stmt-Pick : (s : Stmt) (ss rs : List Stmt) → s ≡ seen.Pick ss rs → is_stmt channels n s ≡ (all_keep ss && all_keep rs)
  is_stmt-Pick s ss rs e = search (rules, the_lemmas, list_all-map)

  pub is_stmt-Loop : (s : Stmt) (c : Cond) (ss : List Stmt) → s ≡ seen.Loop c ss → is_stmt channels n s ≡ (is_cond n c && all_keep ss)
  is_stmt-Loop s c ss e = search (rules, the_lemmas, list_all-map)

  pub is_stmt-Forever : (s : Stmt) (ss : List Stmt) → s ≡ seen.Forever ss → is_stmt channels n s ≡ all_keep ss
  is_stmt-Forever s ss e = search (rules, the_lemmas, list_all-map)

  abbrev folded : Branch → Guard
  folded b = fold-Branch Bool Guard (rule_layer channels n) guard_layer b

  folded-io : (b : Branch) → (folded b).io ≡ (out-Branch b).io
  folded-io b = search (rules, the_lemmas)

  folded-is_ruled : (b : Branch) → (folded b).is_ruled ≡ list_all (is_stmt channels n) (out-Branch b).body
  folded-is_ruled b = search (rules, the_lemmas, list_all-map)

  ios_of-folded : (bs : List Branch) → ios_of (map folded bs) ≡ ios_in bs
  ios_of-folded [] = refl
  ios_of-folded (b ∷ bs) = ap₂ (λ i is. i ∷ is) (folded-io b) (ios_of-folded bs)

  all_ruled-folded : (bs : List Branch) → all_ruled (map folded bs) ≡ branches_keep bs
  all_ruled-folded [] = refl
  all_ruled-folded (b ∷ bs) = ap₂ (λ x y. x && y) (folded-is_ruled b) (all_ruled-folded bs)

  choice_rule : (bs : List Branch) →
      rule_layer channels n (Stmt-F.Choice (map folded bs)) ≡ (nat_le 1 (length bs) && are_guards channels n (ios_in bs) && branches_keep bs)
  choice_rule bs =
      ap₂ (λ (a b : Bool). a && b)
      (ap₂ (λ (m : ℕ) (is : List Io). nat_le 1 m && are_guards channels n is) (length-map bs folded) (ios_of-folded bs))
      (all_ruled-folded bs)

  choice_folded : (s : Stmt) (bs : List Branch) → s ≡ seen.Choice bs → is_stmt channels n s ≡ rule_layer channels n (Stmt-F.Choice (map folded bs))
  choice_folded s bs e = search (rules, the_lemmas)

  pub is_stmt-Choice : (s : Stmt) (bs : List Branch) → s ≡ seen.Choice bs →
      is_stmt channels n s ≡ (nat_le 1 (length bs) && are_guards channels n (ios_in bs) && branches_keep bs)
  is_stmt-Choice s bs e = choice_folded s bs e ∙ choice_rule bs

  evolve_rule : (rs : List Rate) (c : Cond) (bs : List Branch) →
      rule_layer channels n (Stmt-F.Evolve rs c (map folded bs)) ≡
      (is_evolution n rs c (ios_in bs) && are_guards channels n (ios_in bs) && branches_keep bs)
  evolve_rule rs c bs =
      ap₂ (λ (a b : Bool). a && b)
      (ap (λ (is : List Io). is_evolution n rs c is && are_guards channels n is) (ios_of-folded bs))
      (all_ruled-folded bs)

  evolve_folded : (s : Stmt) (rs : List Rate) (c : Cond) (bs : List Branch) → s ≡ seen.Evolve rs c bs →
      is_stmt channels n s ≡ rule_layer channels n (Stmt-F.Evolve rs c (map folded bs))
  evolve_folded s rs c bs e = search (rules, the_lemmas)

  pub is_stmt-Evolve : (s : Stmt) (rs : List Rate) (c : Cond) (bs : List Branch) → s ≡ seen.Evolve rs c bs →
      is_stmt channels n s ≡ (is_evolution n rs c (ios_in bs) && are_guards channels n (ios_in bs) && branches_keep bs)
  is_stmt-Evolve s rs c bs e = evolve_folded s rs c bs e ∙ evolve_rule rs c bs
