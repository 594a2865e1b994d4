-- What holds of all parts in one order holds of all in the other.
use Rattle.std.proofs.Common.{rules, ◌≡◌, refl, ap, sym, Bool, true, false, List, [], ◌∷◌, ◌++◌, map, Option, Some, None}
use Rattle.hc_ast.specs.Bare.{Word}
use Rattle.hc_ast.specs.declared.expr.ExprTree.{ExprTree}
use Rattle.hc_ast.specs.declared.expr.CondTree.{CondTree}
use Rattle.hc_ast.specs.declared.stmt.IoTree.{IoTree}
use Rattle.hc_ast.specs.declared.stmt.RateTree.{RateTree}
use Rattle.hc_ast.specs.declared.stmt.StmtKind.{the_lemmas}
use Rattle.hc_ast.specs.declared.stmt.StmtKind.TheVariants as plain
use Rattle.hc_ast.specs.declared.stmt.StmtKind.TheViews as seen
use Rattle.hc_ast.specs.declared.stmt.StmtTree.{StmtTree}
use Rattle.hc_ast.specs.declared.stmt.BranchTree.{BranchTree, out-BranchTree}
use Rattle.hc_modules.proofs.Induction.{Each, EachElse, EachBehind, Steps, by_induction}
use Rattle.hc_finds.specs.Parts.{Part, assign, compute, test, communicate, domain, guard, guards_from, rates_from, guard_of, parts, parts_of}
use Rattle.hc_finds.proofs.PartForms.{parts-if, parts-else, parts-pick, parts-forever, parts-choice, parts-evolve, parts-tested, parts-loop, guard-is}
use Rattle.hc_check.proofs.EachLists.{each_both}
use Rattle.hc_check.proofs.Eachwise.{each-append, each-same}

-- the parts of the simple forms
module _ (tf : Bool) (s : StmtTree) where
  pub parts-skip : s.kind ≡ plain.Skip → parts tf s ≡ []
  parts-skip e = search (rules, the_lemmas)

  pub parts-assign : (x : Word) (a : ExprTree) → s.kind ≡ plain.Assign x a → parts tf s ≡ assign s.place x a ∷ []
  parts-assign x a e = search (rules, the_lemmas)

  pub parts-wait : (a : ExprTree) → s.kind ≡ plain.Wait a → parts tf s ≡ compute s.place a ∷ []
  parts-wait a e = search (rules, the_lemmas)

  pub parts-io : (i : IoTree) → s.kind ≡ plain.Io i → parts tf s ≡ communicate s.place i ∷ []
  parts-io i e = search (rules, the_lemmas)

  pub parts-log : (a : ExprTree) → s.kind ≡ plain.Log a → parts tf s ≡ compute s.place a ∷ []
  parts-log a e = search (rules, the_lemmas)

-- the parts of a branch, and of those behind it
pub guards-cons : (tf : Bool) (rates : List RateTree) (earlier : List IoTree) (b : BranchTree) (bs : List BranchTree)
    → guards_from rates earlier (map (guard_of tf) (b ∷ bs))
    ≡ guard rates earlier (out-BranchTree b).place (out-BranchTree b).io
    ∷ (parts_of tf (out-BranchTree b).body ++ guards_from rates (earlier ++ (out-BranchTree b).io ∷ []) (map (guard_of tf) bs))
guards-cons tf rates earlier b bs =
    ap (λ g. guard rates earlier g.place g.io ∷ (g.inside ++ guards_from rates (earlier ++ g.io ∷ []) (map (guard_of tf) bs))) (guard-is tf b)

module _ (P : Part → Type 0) where
  -- in the one order, then in the other
  abbrev Turns : StmtTree → Type 0
  Turns s = (f g : Bool) → Each P (parts f s) → Each P (parts g s)

  turn : (f g : Bool) (ss : List StmtTree) → Each Turns ss → Each P (parts_of f ss) → Each P (parts_of g ss)
  turn f g [] ts h = tt
  turn f g (s ∷ ss) ts h =
      each-append P (parts g s) (parts_of g ss) (ts.0 f g (each_both P (parts f s) (parts_of f ss) h).0)
      (turn f g ss ts.1 (each_both P (parts f s) (parts_of f ss) h).1)

  turn_branches : (f g : Bool) (rates : List RateTree) (earlier : List IoTree) (bs : List BranchTree) → Each (EachBehind Turns) bs
      → Each P (guards_from rates earlier (map (guard_of f) bs)) → Each P (guards_from rates earlier (map (guard_of g) bs))
  turn_branches f g rates earlier [] ts h = tt
  turn_branches f g rates earlier (b ∷ bs) ts h =
      let ss = (out-BranchTree b).body in
      let later = earlier ++ (out-BranchTree b).io ∷ [] in
      let old = each-same P _ _ (guards-cons f rates earlier b bs) h in
      each-same P _ _ (sym (guards-cons g rates earlier b bs)) (
        old.0,
        each-append P (parts_of g ss) (guards_from rates later (map (guard_of g) bs))
            (turn f g ss ts.0 (each_both P (parts_of f ss) (guards_from rates later (map (guard_of f) bs)) old.1).0)
            (turn_branches f g rates later bs ts.1 (each_both P (parts_of f ss) (guards_from rates later (map (guard_of f) bs)) old.1).1),
      )

  -- one list of parts in both orders
  alone : (s : StmtTree) (xs : List Part) → ((f : Bool) → parts f s ≡ xs) → Turns s
  alone s xs e f g h = each-same P xs (parts g s) (sym (e g)) (each-same P (parts f s) xs (e f) h)

  turn_if : (s : StmtTree) (c : CondTree) (ss : List StmtTree) (no : Option (List StmtTree)) → s.kind ≡ seen.If c ss no
      → Each Turns ss → EachElse Turns no → Turns s
  turn_if s c ss None e ts us f g h =
      let old = each-same P _ _ (parts-if f s c ss e) h in
      each-same P _ _ (sym (parts-if g s c ss e))
      (old.0, each-append P (parts_of g ss) [] (turn f g ss ts (each_both P (parts_of f ss) [] old.1).0) tt)
  turn_if s c ss (Some rs) e ts us f g h =
      let old = each-same P _ _ (parts-else f s c ss rs e) h in
      each-same P _ _ (sym (parts-else g s c ss rs e)) (
        old.0,
        each-append P (parts_of g ss) (parts_of g rs) (turn f g ss ts (each_both P (parts_of f ss) (parts_of f rs) old.1).0)
            (turn f g rs us (each_both P (parts_of f ss) (parts_of f rs) old.1).1),
      )

  turn_pick : (s : StmtTree) (ss rs : List StmtTree) → s.kind ≡ seen.Pick ss rs → Each Turns ss → Each Turns rs → Turns s
  turn_pick s ss rs e ts us f g h =
      let old = each-same P _ _ (parts-pick f s ss rs e) h in
      each-same P _ _ (sym (parts-pick g s ss rs e))
      (each-append P (parts_of g ss) (parts_of g rs) (turn f g ss ts (each_both P (parts_of f ss) (parts_of f rs) old).0)
      (turn f g rs us (each_both P (parts_of f ss) (parts_of f rs) old).1))

  turn_forever : (s : StmtTree) (ss : List StmtTree) → s.kind ≡ seen.Forever ss → Each Turns ss → Turns s
  turn_forever s ss e ts f g h =
      each-same P _ _ (sym (parts-forever g s ss e)) (turn f g ss ts (each-same P _ _ (parts-forever f s ss e) h))

  -- a loop's test, and the parts of its body
  abbrev Looped : (s : StmtTree) (c : CondTree) → List StmtTree → Bool → Type 0
  Looped s c ss f = P (test s.place c) × Each P (parts_of f ss)

  apart : (s : StmtTree) (c : CondTree) (ss : List StmtTree) → s.kind ≡ seen.Loop c ss → (f : Bool) → Each P (parts f s) → Looped s c ss f
  apart s c ss e true h = let old = each-same P _ _ (parts-tested true s c ss e refl) h in (old.0, old.1)
  apart s c ss e false h =
      let old = each_both P (parts_of false ss) (test s.place c ∷ []) (each-same P _ _ (parts-loop false s c ss e refl) h) in (old.1.0, old.0)

  together : (s : StmtTree) (c : CondTree) (ss : List StmtTree) → s.kind ≡ seen.Loop c ss → (f : Bool) → Looped s c ss f → Each P (parts f s)
  together s c ss e true h = each-same P _ _ (sym (parts-tested true s c ss e refl)) (h.0, h.1)
  together s c ss e false h =
      each-same P _ _ (sym (parts-loop false s c ss e refl)) (each-append P (parts_of false ss) (test s.place c ∷ []) h.1 (h.0, tt))

  turn_loop : (s : StmtTree) (c : CondTree) (ss : List StmtTree) → s.kind ≡ seen.Loop c ss → Each Turns ss → Turns s
  turn_loop s c ss e ts f g h =
      let old = apart s c ss e f h in
      together s c ss e g (old.0, turn f g ss ts old.1)

  turn_choice : (s : StmtTree) (bs : List BranchTree) → s.kind ≡ seen.Choice bs → Each (EachBehind Turns) bs → Turns s
  turn_choice s bs e ts f g h =
      each-same P _ _ (sym (parts-choice g s bs e)) (turn_branches f g [] [] bs ts (each-same P _ _ (parts-choice f s bs e) h))

  turn_evolve : (s : StmtTree) (rs : List RateTree) (c : CondTree) (bs : List BranchTree) → s.kind ≡ seen.Evolve rs c bs
      → Each (EachBehind Turns) bs → Turns s
  turn_evolve s rs c bs e ts f g h =
      let old = each-same P _ _ (parts-evolve f s rs c bs e) h in
      let rates = rates_from rs [] rs in
      let both = each_both P rates (domain rs s.place c ∷ guards_from rs [] (map (guard_of f) bs)) old in
      each-same P _ _ (sym (parts-evolve g s rs c bs e))
      (each-append P rates (domain rs s.place c ∷ guards_from rs [] (map (guard_of g) bs))
      both.0
      (both.1.0, turn_branches f g rs [] bs ts both.1.1))

  turns : Steps Turns
  turns = record {
    skip = λ s e. alone s [] (λ f. parts-skip f s e);
    assign = λ s x a e. alone s (assign s.place x a ∷ []) (λ f. parts-assign f s x a e);
    wait = λ s a e. alone s (compute s.place a ∷ []) (λ f. parts-wait f s a e);
    io = λ s i e. alone s (communicate s.place i ∷ []) (λ f. parts-io f s i e);
    log = λ s a e. alone s (compute s.place a ∷ []) (λ f. parts-log f s a e);
    when = turn_if;
    pick = turn_pick;
    forever = turn_forever;
    loop = turn_loop;
    choice = turn_choice;
    evolve = turn_evolve;
  }

  each_turns : (ss : List StmtTree) → Each Turns ss
  each_turns [] = tt
  each_turns (s ∷ ss) = (by_induction Turns turns s, each_turns ss)

  pub in_either_order : (first second : Bool) (ss : List StmtTree) → Each P (parts_of first ss) → Each P (parts_of second ss)
  in_either_order first second ss h = turn first second ss (each_turns ss) h
