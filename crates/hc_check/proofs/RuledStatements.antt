-- Statements against whose parts nothing is found keep the rules once their names are numbers.
use Rattle.std.proofs.Common.{rules, ◌≡◌, refl, ap, ap₂, sym, subst, ◌∙◌, nat_le, Bool, true, false, IsTrue, List, [], ◌∷◌, ◌++◌, length, map, Option, Some, None}
use Rattle.std.specs.List.{list_all}
use Rattle.std.proofs.lemmas.List.{length-map}
use Rattle.hc_ast.specs.Bare.{Word}
use Rattle.hc_ast.specs.declared.expr.ExprTree.{ExprTree}
use Rattle.hc_ast.specs.declared.expr.CondTree.{CondTree}
use Rattle.hc_ast.specs.declared.stmt.IoTree.{IoTree}
use Rattle.hc_ast.specs.declared.stmt.RateTree.{RateTree}
use Rattle.hc_ast.specs.declared.stmt.StmtKind.{the_lemmas}
use Rattle.hc_ast.specs.declared.stmt.StmtKind.TheVariants as plain
use Rattle.hc_ast.specs.declared.stmt.StmtKind.TheViews as seen
use Rattle.hc_ast.specs.declared.stmt.StmtTree.{StmtTree}
use Rattle.hc_ast.specs.declared.stmt.BranchTree.{BranchTree, out-BranchTree}
use Rattle.hc_modules.specs.Well.{some_full, is_full, is_full_branch}
use Rattle.hc_modules.proofs.Full.{all_full, mapped_full, full-If, full-Pick, full-Forever, full-Loop, full-Choice, full-Evolve}
use Rattle.hc_modules.proofs.Induction.{Each, EachElse, EachBehind, Steps, by_induction}
use Rattle.hc_term.specs.declared.stmt.Io.{Io}
use Rattle.hc_term.specs.Profile.{is_evolution, are_guards, ios_in}
use Rattle.hc_term.specs.Rules.{is_stmt}
use Rattle.hc_term.proofs.Ruled.{branches_keep, is_stmt-If, is_stmt-Pick, is_stmt-Loop, is_stmt-Forever, is_stmt-Choice, is_stmt-Evolve}
use Rattle.hc_finds.specs.Parts.{Part, Guard, assign, compute, test, communicate, domain, parts, parts_of, guard_of, guards_from, rates_from}
use Rattle.hc_finds.proofs.PartForms.{parts-if, parts-else, parts-pick, parts-forever, parts-choice, parts-evolve, parts-tested, parts-loop, guard-is}
use Rattle.hc_check.specs.Numbered.{cond_over, rate_over, io_over, stmt_over, branch_over}
use Rattle.hc_check.proofs.Clean.{IsClean}
use Rattle.hc_check.proofs.EachLists.{both, both_parts, each_both}
use Rattle.hc_check.proofs.PartFacts.{assign_ruled, compute_ruled, test_ruled, communicate_ruled}
use Rattle.hc_check.proofs.RuledGuards.{ios, AreClean, guards_ruled, insides}
use Rattle.hc_check.proofs.RuledEvolutions.{evolution_ruled}
use Rattle.hc_check.proofs.OverForms as over
use Rattle.hc_check.proofs.StatementForms as form

module _ (first : Bool) (s : StmtTree) where
  parts-Assign : (x : Word) (t : ExprTree) → s.kind ≡ plain.Assign x t → parts first s ≡ assign s.place x t ∷ []
  parts-Assign x t e = search (rules, the_lemmas)

  parts-Wait : (t : ExprTree) → s.kind ≡ plain.Wait t → parts first s ≡ compute s.place t ∷ []
  parts-Wait t e = search (rules, the_lemmas)

  parts-Io : (i : IoTree) → s.kind ≡ plain.Io i → parts first s ≡ communicate s.place i ∷ []
  parts-Io i e = search (rules, the_lemmas)

  parts-Log : (t : ExprTree) → s.kind ≡ plain.Log t → parts first s ≡ compute s.place t ∷ []
  parts-Log t e = search (rules, the_lemmas)

branch_full-is : (b : BranchTree) → is_full_branch b ≡ some_full (map is_full (out-BranchTree b).body)
branch_full-is b = search (rules, the_lemmas)

-- the statements of a branch are full where it is
body_full : (b : BranchTree) → IsTrue (is_full_branch b) → IsTrue (list_all is_full (out-BranchTree b).body)
body_full b h =
    (both_parts (nat_le 1 (length (out-BranchTree b).body)) (list_all is_full (out-BranchTree b).body)
    (sym (branch_full-is b ∙ mapped_full is_full (out-BranchTree b).body) ∙ h)).1

module _ (cs xs : List Word) (first : Bool) where
  abbrev AllClean : List Part → Type 0
  AllClean = Each (IsClean cs xs)

  abbrev IsRuled : StmtTree → Type 0
  IsRuled s = IsTrue (is_full s) → AllClean (parts first s) → IsTrue (is_stmt (length cs) (length xs) (stmt_over cs xs s))

  all_ruled : (ss : List StmtTree) → Each IsRuled ss → IsTrue (list_all is_full ss) → AllClean (parts_of first ss)
      → IsTrue (list_all (is_stmt (length cs) (length xs)) (map (stmt_over cs xs) ss))
  all_ruled [] each full clean = refl
  all_ruled (s ∷ ss) each full clean =
      let fulls = both_parts (is_full s) (list_all is_full ss) full in
      let cleans = each_both (IsClean cs xs) (parts first s) (parts_of first ss) clean in
      both (each.0 fulls.0 cleans.0) (all_ruled ss each.1 fulls.1 cleans.1)

  -- the statements of a list that isn't empty
  some_ruled : (ss : List StmtTree) → Each IsRuled ss → IsTrue (all_full ss) → AllClean (parts_of first ss)
      → IsTrue (list_all (is_stmt (length cs) (length xs)) (map (stmt_over cs xs) ss))
  some_ruled ss each full clean = all_ruled ss each (both_parts (nat_le 1 (length ss)) (list_all is_full ss) full).1 clean

  cleaned : (s : StmtTree) (ps : List Part) → parts first s ≡ ps → AllClean (parts first s) → AllClean ps
  cleaned s ps e h = subst (λ (qs : List Part). AllClean qs) e h

  assign_step : (s : StmtTree) (x : Word) (t : ExprTree) → s.kind ≡ plain.Assign x t → IsRuled s
  assign_step s x t e full clean =
      ap (is_stmt (length cs) (length xs)) (over.over-Assign cs xs s x t e) ∙ form.ruled-Assign (length cs) (length xs) _ _
      ∙ assign_ruled cs xs s.place x t (cleaned s (assign s.place x t ∷ []) (parts-Assign first s x t e) clean).0

  wait_step : (s : StmtTree) (t : ExprTree) → s.kind ≡ plain.Wait t → IsRuled s
  wait_step s t e full clean =
      ap (is_stmt (length cs) (length xs)) (over.over-Wait cs xs s t e) ∙ form.ruled-Wait (length cs) (length xs) _
      ∙ compute_ruled cs xs s.place t (cleaned s (compute s.place t ∷ []) (parts-Wait first s t e) clean).0

  io_step : (s : StmtTree) (i : IoTree) → s.kind ≡ plain.Io i → IsRuled s
  io_step s i e full clean =
      ap (is_stmt (length cs) (length xs)) (over.over-Io cs xs s i e) ∙ form.ruled-Io (length cs) (length xs) _
      ∙ communicate_ruled cs xs s.place i (cleaned s (communicate s.place i ∷ []) (parts-Io first s i e) clean).0

  log_step : (s : StmtTree) (t : ExprTree) → s.kind ≡ plain.Log t → IsRuled s
  log_step s t e full clean =
      ap (is_stmt (length cs) (length xs)) (over.over-Log cs xs s t e) ∙ form.ruled-Log (length cs) (length xs) _
      ∙ compute_ruled cs xs s.place t (cleaned s (compute s.place t ∷ []) (parts-Log first s t e) clean).0

  when_step : (s : StmtTree) (c : CondTree) (ss : List StmtTree) (no : Option (List StmtTree)) → s.kind ≡ seen.If c ss no
      → Each IsRuled ss → EachElse IsRuled no → IsRuled s
  when_step s c ss None e f g full clean =
      let fulls = both_parts (all_full ss) true (sym (full-If s c ss None e) ∙ full) in
      let here = cleaned s (test s.place c ∷ (parts_of first ss ++ [])) (parts-if first s c ss e) clean in
      let inner = each_both (IsClean cs xs) (parts_of first ss) [] here.1 in
      is_stmt-If (length cs) (length xs) (stmt_over cs xs s) _ _ _ (over.over-If cs xs s c ss None e)
      ∙ both (both (test_ruled cs xs s.place c here.0) (some_ruled ss f fulls.0 inner.0)) refl
  when_step s c ss (Some rs) e f g full clean =
      let fulls = both_parts (all_full ss) (all_full rs) (sym (full-If s c ss (Some rs) e) ∙ full) in
      let here = cleaned s (test s.place c ∷ (parts_of first ss ++ parts_of first rs)) (parts-else first s c ss rs e) clean in
      let inner = each_both (IsClean cs xs) (parts_of first ss) (parts_of first rs) here.1 in
      is_stmt-If (length cs) (length xs) (stmt_over cs xs s) _ _ _ (over.over-If cs xs s c ss (Some rs) e)
      ∙ both (both (test_ruled cs xs s.place c here.0) (some_ruled ss f fulls.0 inner.0)) (some_ruled rs g fulls.1 inner.1)

  pick_step : (s : StmtTree) (ss rs : List StmtTree) → s.kind ≡ seen.Pick ss rs → Each IsRuled ss → Each IsRuled rs → IsRuled s
  pick_step s ss rs e f g full clean =
      let fulls = both_parts (all_full ss) (all_full rs) (sym (full-Pick s ss rs e) ∙ full) in
      let inner = each_both (IsClean cs xs) (parts_of first ss) (parts_of first rs)
      (cleaned s (parts_of first ss ++ parts_of first rs) (parts-pick first s ss rs e) clean) in
      is_stmt-Pick (length cs) (length xs) (stmt_over cs xs s) _ _ (over.over-Pick cs xs s ss rs e)
      ∙ both (some_ruled ss f fulls.0 inner.0) (some_ruled rs g fulls.1 inner.1)

  forever_step : (s : StmtTree) (ss : List StmtTree) → s.kind ≡ seen.Forever ss → Each IsRuled ss → IsRuled s
  forever_step s ss e f full clean =
      is_stmt-Forever (length cs) (length xs) (stmt_over cs xs s) _ (over.over-Forever cs xs s ss e)
      ∙ some_ruled ss f (sym (full-Forever s ss e) ∙ full) (cleaned s (parts_of first ss) (parts-forever first s ss e) clean)

  guards_over : (bs : List BranchTree) → ios_in (map (branch_over cs xs) bs) ≡ map (io_over cs xs) (ios (map (guard_of first) bs))
  guards_over [] = refl
  guards_over (b ∷ bs) =
      ap₂ (λ (i : Io) (is : List Io). i ∷ is) (over.io-over-branch cs xs b ∙ ap (io_over cs xs) (sym (ap (λ (g : Guard). g.io) (guard-is first b))))
      (guards_over bs)

  branch_bodies : (bs : List BranchTree) → Each (EachBehind IsRuled) bs → IsTrue (list_all is_full_branch bs)
      → Each (λ g. AllClean g.inside) (map (guard_of first) bs) → IsTrue (branches_keep (length cs) (length xs) (map (branch_over cs xs) bs))
  branch_bodies [] f full clean = refl
  branch_bodies (b ∷ bs) f full clean =
      let fulls = both_parts (is_full_branch b) (list_all is_full_branch bs) full in
      let inside = subst (λ (ps : List Part). AllClean ps) (ap (λ (g : Guard). g.inside) (guard-is first b)) clean.0 in
      both (ap (list_all (is_stmt (length cs) (length xs))) (over.body-over-branch cs xs b)
      ∙ all_ruled (out-BranchTree b).body f.0 (body_full b fulls.0) inside)
      (branch_bodies bs f.1 fulls.1 clean.1)

  branches_guarded : (rs : List RateTree) (bs : List BranchTree) → AreClean cs xs rs [] (map (guard_of first) bs)
      → IsTrue (are_guards (length cs) (length xs) (ios_in (map (branch_over cs xs) bs)))
  branches_guarded rs bs clean =
      ap (are_guards (length cs) (length xs)) (guards_over bs) ∙ guards_ruled cs xs rs (map (guard_of first) bs) clean

  choice_step : (s : StmtTree) (bs : List BranchTree) → s.kind ≡ seen.Choice bs → Each (EachBehind IsRuled) bs → IsRuled s
  choice_step s bs e f full clean =
      let fulls = both_parts (nat_le 1 (length bs)) (list_all is_full_branch bs) (sym (full-Choice s bs e) ∙ full) in
      let guards : AreClean cs xs [] [] (map (guard_of first) bs) = cleaned s (guards_from [] [] (map (guard_of first) bs)) (parts-choice first s bs e) clean in
      is_stmt-Choice (length cs) (length xs) (stmt_over cs xs s) (map (branch_over cs xs) bs) (over.over-Choice cs xs s bs e)
      ∙ both (both (ap (nat_le 1) (length-map bs (branch_over cs xs)) ∙ fulls.0) (branches_guarded [] bs guards))
      (branch_bodies bs f fulls.1 (insides cs xs [] [] (map (guard_of first) bs) guards))

  evolve_step : (s : StmtTree) (rs : List RateTree) (c : CondTree) (bs : List BranchTree) → s.kind ≡ seen.Evolve rs c bs
      → Each (EachBehind IsRuled) bs → IsRuled s
  evolve_step s rs c bs e f full clean =
      let fulls = both_parts (nat_le 1 (length rs)) (list_all is_full_branch bs) (sym (full-Evolve s rs c bs e) ∙ full) in
      let here = each_both (IsClean cs xs) (rates_from rs [] rs) (domain rs s.place c ∷ guards_from rs [] (map (guard_of first) bs))
      (cleaned s (rates_from rs [] rs ++ domain rs s.place c ∷ guards_from rs [] (map (guard_of first) bs)) (parts-evolve first s rs c bs e) clean) in
      let guards : AreClean cs xs rs [] (map (guard_of first) bs) = here.1.1 in
      is_stmt-Evolve (length cs) (length xs) (stmt_over cs xs s) _ _ (map (branch_over cs xs) bs) (over.over-Evolve cs xs s rs c bs e)
      ∙ both (both (ap (is_evolution (length xs) (map (rate_over xs) rs) (cond_over xs c)) (guards_over bs)
      ∙ evolution_ruled cs xs rs s.place c (map (guard_of first) bs) fulls.0 here.0 here.1.0 guards)
      (branches_guarded rs bs guards))
      (branch_bodies bs f fulls.1 (insides cs xs rs [] (map (guard_of first) bs) guards))

-- a loop's test and body, in either order
loop_clean : (cs xs : List Word) (first : Bool) (s : StmtTree) (c : CondTree) (ss : List StmtTree) → s.kind ≡ seen.Loop c ss
    → AllClean cs xs first (parts first s) → IsClean cs xs (test s.place c) × AllClean cs xs first (parts_of first ss)
loop_clean cs xs true s c ss e clean = cleaned cs xs true s (test s.place c ∷ parts_of true ss) (parts-tested true s c ss e refl) clean
loop_clean cs xs false s c ss e clean =
    let r = each_both (IsClean cs xs) (parts_of false ss) (test s.place c ∷ [])
    (cleaned cs xs false s (parts_of false ss ++ test s.place c ∷ []) (parts-loop false s c ss e refl) clean) in
    (r.1.0, r.0)

module _ (cs xs : List Word) (first : Bool) where
  loop_step : (s : StmtTree) (c : CondTree) (ss : List StmtTree) → s.kind ≡ seen.Loop c ss → Each (IsRuled cs xs first) ss → IsRuled cs xs first s
  loop_step s c ss e f full clean =
      let here = loop_clean cs xs first s c ss e clean in
      is_stmt-Loop (length cs) (length xs) (stmt_over cs xs s) _ _ (over.over-Loop cs xs s c ss e)
      ∙ both (test_ruled cs xs s.place c here.0) (some_ruled cs xs first ss f (sym (full-Loop s c ss e) ∙ full) here.1)

  steps : Steps (IsRuled cs xs first)
  steps = record {
    skip = λ s e full clean. ap (is_stmt (length cs) (length xs)) (over.over-Skip cs xs s e) ∙ form.ruled-Skip (length cs) (length xs);
    assign = assign_step cs xs first;
    wait = wait_step cs xs first;
    io = io_step cs xs first;
    log = log_step cs xs first;
    when = when_step cs xs first;
    pick = pick_step cs xs first;
    forever = forever_step cs xs first;
    loop = loop_step;
    choice = choice_step cs xs first;
    evolve = evolve_step cs xs first;
  }

  each_ruled : (ss : List StmtTree) → Each (IsRuled cs xs first) ss
  each_ruled [] = tt
  each_ruled (s ∷ ss) = (by_induction (IsRuled cs xs first) steps s, each_ruled ss)

pub statements_ruled : (cs xs : List Word) (first : Bool) (ss : List StmtTree) → IsTrue (list_all is_full ss)
    → Each (IsClean cs xs) (parts_of first ss) → IsTrue (list_all (is_stmt (length cs) (length xs)) (map (stmt_over cs xs) ss))
statements_ruled cs xs first ss full clean = all_ruled cs xs first ss (each_ruled cs xs first ss) full clean
