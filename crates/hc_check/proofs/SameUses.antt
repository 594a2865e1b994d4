-- A numbered process uses a channel where the process does.
use Rattle.std.proofs.Common.{rules, ◌≡◌, refl, ap, ap₂, sym, ◌∙◌, ℕ, Bool, true, false, ◌&&◌, ◌||◌, List, [], ◌∷◌, ◌++◌, map, flat_map, Option, Some, None}
use Rattle.std.specs.Prelude.{◌==◌}
use Rattle.std.specs.List.{list_any}
use Rattle.std.proofs.lemmas.Grind.{flat_map-append}
use Rattle.std.proofs.lemmas.List.Folds.{list_any-append}
use Rattle.hc_frac.specs.declared.place.Place.{Place}
use Rattle.hc_ast.specs.Bare.{Word}
use Rattle.hc_ast.specs.declared.expr.CondTree.{CondTree}
use Rattle.hc_ast.specs.declared.stmt.IoTree.{IoTree}
use Rattle.hc_ast.specs.declared.stmt.IoTree.TheVariants as io_of
use Rattle.hc_ast.specs.declared.stmt.RateTree.{RateTree}
use Rattle.hc_ast.specs.declared.stmt.StmtTree.{StmtTree}
use Rattle.hc_ast.specs.declared.stmt.BranchTree.{BranchTree, out-BranchTree}
use Rattle.hc_ast.specs.declared.stmt.StmtKind.TheViews as seen
use Rattle.hc_term.specs.declared.stmt.Io.{Io}
use Rattle.hc_term.specs.declared.stmt.Stmt.{Stmt, the_lemmas}
use Rattle.hc_term.specs.declared.stmt.Stmt.TheVariants as a
use Rattle.hc_term.specs.declared.stmt.Branch.{Branch, out-Branch}
use Rattle.hc_term.specs.declared.expr.Expr.{Expr}
use Rattle.hc_term.specs.Rules.{is_on, uses, is_user}
use Rattle.hc_term.proofs.Used as forms
use Rattle.hc_modules.specs.declared.flat.FlatProcess.{FlatProcess}
use Rattle.hc_modules.proofs.Induction.{Each, EachElse, EachBehind, Steps, by_induction}
use Rattle.hc_finds.specs.Names.{number_in}
use Rattle.hc_finds.specs.Parts.{Part, test, domain, guards_from, rates_from, guard_of, parts, parts_of}
use Rattle.hc_finds.specs.Limits.{variables_of}
use Rattle.hc_finds.specs.Uses.{Use, use_at, uses_in, uses_of, goes}
use Rattle.hc_finds.proofs.PartForms.{parts-if, parts-else, parts-pick, parts-forever, parts-choice, parts-evolve, parts-loop}
use Rattle.hc_check.specs.Numbered.{cond_over, rate_over, io_over, stmt_over, branch_over, process_over}
use Rattle.hc_check.proofs.OverForms.{over-Skip, over-Assign, over-Wait, over-Io, over-Log, over-If, over-Pick, over-Forever, over-Loop, over-Choice, over-Evolve, io-over-branch, body-over-branch}
use Rattle.hc_check.proofs.InEitherOrder.{parts-skip, parts-assign, parts-wait, parts-io, parts-log, guards-cons}

-- a use of the channel with this number
abbrev pub is_use_at : List Word → ℕ → Bool → Use → Bool
is_use_at cs k sends u = goes sends u && number_in cs u.channel == k

or_false : (b : Bool) → (b || false) ≡ b
or_false true = refl
or_false false = refl

or_together : (a b c : Bool) → (a || b || c) ≡ (a || (b || c))
or_together true b c = refl
or_together false b c = refl

module _ (sends : Bool) (k : ℕ) where
  skip_uses : (t : Stmt) → t ≡ a.Skip → uses sends k t ≡ false
  skip_uses t e = search (rules, the_lemmas)

  assign_uses : (x : ℕ) (v : Expr) (t : Stmt) → t ≡ a.Assign x v → uses sends k t ≡ false
  assign_uses x v t e = search (rules, the_lemmas)

  wait_uses : (v : Expr) (t : Stmt) → t ≡ a.Wait v → uses sends k t ≡ false
  wait_uses v t e = search (rules, the_lemmas)

  log_uses : (v : Expr) (t : Stmt) → t ≡ a.Log v → uses sends k t ≡ false
  log_uses v t e = search (rules, the_lemmas)

  io_uses : (i : Io) (t : Stmt) → t ≡ a.Io i → uses sends k t ≡ is_on sends k i
  io_uses i t e = search (rules, the_lemmas)

module _ (cs : List Word) (k : ℕ) (sends : Bool) where
  -- whether one of these parts uses the channel
  abbrev used_in : List Part → Bool
  used_in us = list_any (is_use_at cs k sends) (flat_map uses_in us)

  used-append : (us vs : List Part) → used_in (us ++ vs) ≡ (used_in us || used_in vs)
  used-append us vs =
      ap (list_any (is_use_at cs k sends)) (flat_map-append uses_in us vs)
      ∙ list_any-append (is_use_at cs k sends) (flat_map uses_in us) (flat_map uses_in vs)

  rates_unused : (all earlier rs : List RateTree) → used_in (rates_from all earlier rs) ≡ false
  rates_unused all earlier [] = refl
  rates_unused all earlier (r ∷ rs) = rates_unused all (earlier ++ r ∷ []) rs

  module _ (xs : List Word) where
    io_same : (s : Bool) (p : Place) (i : IoTree) → is_on s k (io_over cs xs i) ≡ is_use_at cs k s (use_at p i)
    io_same true p (io_of.Send c v) = refl
    io_same true p (io_of.Receive c x) = refl
    io_same false p (io_of.Send c v) = refl
    io_same false p (io_of.Receive c x) = refl

    abbrev over : List StmtTree → List Stmt
    over ss = map (stmt_over cs xs) ss

    abbrev IsSame : StmtTree → Type 0
    IsSame s = uses sends k (stmt_over cs xs s) ≡ used_in (parts false s)

    row_same : (ss : List StmtTree) → Each IsSame ss → list_any (uses sends k) (over ss) ≡ used_in (parts_of false ss)
    row_same [] es = refl
    row_same (s ∷ ss) es = ap₂ (λ b c. b || c) es.0 (row_same ss es.1) ∙ sym (used-append (parts false s) (parts_of false ss))

    -- by what a form has, in the system and in the parts
    both_rows : (ss rs : List StmtTree) → Each IsSame ss → Each IsSame rs
        → (list_any (uses sends k) (over ss) || list_any (uses sends k) (over rs)) ≡ used_in (parts_of false ss ++ parts_of false rs)
    both_rows ss rs es fs = ap₂ (λ b c. b || c) (row_same ss es) (row_same rs fs) ∙ sym (used-append (parts_of false ss) (parts_of false rs))

    if_same : (s : StmtTree) (c : CondTree) (ss : List StmtTree) (no : Option (List StmtTree)) → s.kind ≡ seen.If c ss no
        → Each IsSame ss → EachElse IsSame no → IsSame s
    if_same s c ss None e es fs =
        forms.uses-If sends k _ (cond_over xs c) (over ss) [] (over-If cs xs s c ss None e)
        ∙ both_rows ss [] es tt ∙ sym (ap used_in (parts-if false s c ss e))
    if_same s c ss (Some rs) e es fs =
        forms.uses-If sends k _ (cond_over xs c) (over ss) (over rs) (over-If cs xs s c ss (Some rs) e)
        ∙ both_rows ss rs es fs ∙ sym (ap used_in (parts-else false s c ss rs e))

    -- a branch of the system
    abbrev branch_uses : Branch → Bool
    branch_uses b = is_on sends k (out-Branch b).io || list_any (uses sends k) (out-Branch b).body

    branch_same : (b : BranchTree) → EachBehind IsSame b
        → branch_uses (branch_over cs xs b)
        ≡ (is_use_at cs k sends (use_at (out-BranchTree b).place (out-BranchTree b).io) || used_in (parts_of false (out-BranchTree b).body))
    branch_same b es =
        ap₂ (λ i ss. is_on sends k i || list_any (uses sends k) ss) (io-over-branch cs xs b) (body-over-branch cs xs b)
        ∙ ap₂ (λ a c. a || c) (io_same sends (out-BranchTree b).place (out-BranchTree b).io) (row_same (out-BranchTree b).body es)

    branches_same : (rates : List RateTree) (earlier : List IoTree) (bs : List BranchTree) → Each (EachBehind IsSame) bs
        → list_any branch_uses (map (branch_over cs xs) bs) ≡ used_in (guards_from rates earlier (map (guard_of false) bs))
    branches_same rates earlier [] es = refl
    branches_same rates earlier (b ∷ bs) es =
        let here = is_use_at cs k sends (use_at (out-BranchTree b).place (out-BranchTree b).io) in
        let inside = parts_of false (out-BranchTree b).body in
        let later = guards_from rates (earlier ++ (out-BranchTree b).io ∷ []) (map (guard_of false) bs) in
        ap₂ (λ a c. a || c) (branch_same b es.0) (branches_same rates (earlier ++ (out-BranchTree b).io ∷ []) bs es.1)
        ∙ or_together here (used_in inside) (used_in later)
        ∙ ap (λ c. here || c) (sym (used-append inside later))
        ∙ sym (ap used_in (guards-cons false rates earlier b bs))

    same_steps : Steps IsSame
    same_steps = record {
      skip = λ s e. skip_uses sends k _ (over-Skip cs xs s e) ∙ sym (ap used_in (parts-skip false s e));
      assign = λ s x v e. assign_uses sends k _ _ _ (over-Assign cs xs s x v e) ∙ sym (ap used_in (parts-assign false s x v e));
      wait = λ s v e. wait_uses sends k _ _ (over-Wait cs xs s v e) ∙ sym (ap used_in (parts-wait false s v e));
      io = λ s i e.
          io_uses sends k _ _ (over-Io cs xs s i e) ∙ io_same sends s.place i ∙ sym (or_false (is_use_at cs k sends (use_at s.place i)))
          ∙ sym (ap used_in (parts-io false s i e));
      log = λ s v e. log_uses sends k _ _ (over-Log cs xs s v e) ∙ sym (ap used_in (parts-log false s v e));
      when = if_same;
      pick = λ s ss rs e es fs.
          forms.uses-Pick sends k _ (over ss) (over rs) (over-Pick cs xs s ss rs e)
          ∙ both_rows ss rs es fs ∙ sym (ap used_in (parts-pick false s ss rs e));
      forever = λ s ss e es.
          forms.uses-Forever sends k _ (over ss) (over-Forever cs xs s ss e)
          ∙ row_same ss es ∙ sym (ap used_in (parts-forever false s ss e));
      loop = λ s c ss e es.
          forms.uses-Loop sends k _ (cond_over xs c) (over ss) (over-Loop cs xs s c ss e)
          ∙ row_same ss es ∙ sym (or_false (used_in (parts_of false ss))) ∙ sym (used-append (parts_of false ss) (test s.place c ∷ []))
          ∙ sym (ap used_in (parts-loop false s c ss e refl));
      choice = λ s bs e es.
          forms.uses-Choice sends k _ (map (branch_over cs xs) bs) (over-Choice cs xs s bs e)
          ∙ branches_same [] [] bs es ∙ sym (ap used_in (parts-choice false s bs e));
      evolve = λ s rs c bs e es.
          let rates = rates_from rs [] rs in
          let guards = guards_from rs [] (map (guard_of false) bs) in
          forms.uses-Evolve sends k _ (map (rate_over xs) rs) (cond_over xs c) (map (branch_over cs xs) bs) (over-Evolve cs xs s rs c bs e)
          ∙ branches_same rs [] bs es
          ∙ sym (ap (λ b. b || used_in guards) (rates_unused rs [] rs))
          ∙ sym (used-append rates (domain rs s.place c ∷ guards))
          ∙ sym (ap used_in (parts-evolve false s rs c bs e));
    }

    each_same : (ss : List StmtTree) → Each IsSame ss
    each_same [] = tt
    each_same (s ∷ ss) = (by_induction IsSame same_steps s, each_same ss)

  pub same_user : (p : FlatProcess) → is_user sends k (process_over cs p) ≡ list_any (is_use_at cs k sends) (uses_of p)
  same_user p = row_same (variables_of p) p.body (each_same (variables_of p) p.body)
