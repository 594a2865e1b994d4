-- The parts of each form of a statement.
use Rattle.std.proofs.Common.{rules, ℕ, ◌+◌, ◌<◌, length, take, drop, get_or, ◌≡◌, ap, sym, ◌∙◌, Bool, true, false, List, [], ◌∷◌, ◌++◌, map, Some, None}
use Rattle.std.proofs.lemmas.List.Folds.{flat_map-map}
use Rattle.std.proofs.lemmas.List.{drop_more, take_more, map-append}
use Rattle.hc_ast.specs.declared.expr.CondTree.{CondTree}
use Rattle.hc_ast.specs.declared.stmt.StmtKind.{the_lemmas}
use Rattle.hc_ast.specs.declared.stmt.StmtKind.TheViews as seen
use Rattle.hc_ast.specs.declared.stmt.StmtTree.{StmtTree}
use Rattle.hc_ast.specs.declared.stmt.BranchTree.{BranchTree, out-BranchTree}
use Rattle.hc_ast.specs.declared.stmt.RateTree.{RateTree}
use Rattle.hc_frac.specs.declared.place.Place.{Place}
use Rattle.hc_ast.specs.declared.stmt.StmtKind.TheOpen.{StmtKind-F}
use Rattle.hc_ast.specs.declared.stmt.StmtKind.TheFolds.{fold-StmtKind, fold-roll-StmtKind, fold-roll-StmtTree}
use Rattle.hc_finds.specs.Seen.{io_in}
use Rattle.hc_finds.specs.Parts.{guard, kind_layer, guard_layer, joined, loop_parts, Part, test, domain, Guard, parts, parts_of, guard_of, guards_from, rates_from}

module _ (tf : Bool) (s : StmtTree) where
  pub parts-if : (c : CondTree) (ss : List StmtTree) → s.kind ≡ seen.If c ss None → parts tf s ≡ test s.place c ∷ (parts_of tf ss ++ [])
  parts-if c ss e = search (rules, the_lemmas, flat_map-map)

  pub parts-else : (c : CondTree) (ss rs : List StmtTree) → s.kind ≡ seen.If c ss (Some rs)
      → parts tf s ≡ test s.place c ∷ (parts_of tf ss ++ parts_of tf rs)
  parts-else c ss rs e =
      let whole = fold-roll-StmtTree (Place → List Part) Guard (List Part) (kind_layer tf) guard_layer (λ x. x.kind x.place)
      (record { place = s.place; kind = s.kind }) in
      let kind = ap (fold-StmtKind (Place → List Part) Guard (List Part) (kind_layer tf) guard_layer (λ x. x.kind x.place)) (e ∙ sym (seen.rolls-If c ss (Some rs)))
      ∙ fold-roll-StmtKind (Place → List Part) Guard (List Part) (kind_layer tf) guard_layer (λ x. x.kind x.place) (StmtKind-F.If c ss (Some rs)) in
      whole ∙ ap (λ k. k s.place) kind
      ∙ ap (λ xs. test s.place c ∷ (xs ++ joined (map (parts tf) rs))) (flat_map-map (λ x. x) (parts tf) ss)
      ∙ ap (λ xs. test s.place c ∷ (parts_of tf ss ++ xs)) (flat_map-map (λ x. x) (parts tf) rs)

  pub parts-pick : (ss rs : List StmtTree) → s.kind ≡ seen.Pick ss rs → parts tf s ≡ parts_of tf ss ++ parts_of tf rs
  parts-pick ss rs e = search (rules, the_lemmas, flat_map-map)

  pub parts-forever : (ss : List StmtTree) → s.kind ≡ seen.Forever ss → parts tf s ≡ parts_of tf ss
  parts-forever ss e = search (rules, the_lemmas, flat_map-map)

  pub parts-choice : (bs : List BranchTree) → s.kind ≡ seen.Choice bs → parts tf s ≡ guards_from [] [] (map (guard_of tf) bs)
  parts-choice bs e = search (rules, the_lemmas)

  pub parts-round : (c : CondTree) (ss : List StmtTree) → s.kind ≡ seen.Loop c ss
      → parts tf s ≡ loop_parts tf (test s.place c) (parts_of tf ss)
  parts-round c ss e = search (rules, the_lemmas, flat_map-map)

  pub parts-evolve : (rs : List RateTree) (c : CondTree) (bs : List BranchTree) → s.kind ≡ seen.Evolve rs c bs
      → parts tf s ≡ rates_from rs [] rs ++ domain rs s.place c ∷ guards_from rs [] (map (guard_of tf) bs)
  parts-evolve rs c bs e = search (rules, the_lemmas)

pub parts-tested : (tf : Bool) (s : StmtTree) (c : CondTree) (ss : List StmtTree) → s.kind ≡ seen.Loop c ss → tf ≡ true
    → parts tf s ≡ test s.place c ∷ parts_of true ss
parts-tested true s c ss e f = search (rules, the_lemmas, flat_map-map)
parts-tested false s c ss e f = absurd (cc)

pub parts-loop : (tf : Bool) (s : StmtTree) (c : CondTree) (ss : List StmtTree) → s.kind ≡ seen.Loop c ss → tf ≡ false
    → parts tf s ≡ parts_of false ss ++ test s.place c ∷ []
parts-loop false s c ss e f = search (rules, the_lemmas, flat_map-map)
parts-loop true s c ss e f = absurd (cc)

pub guard-is : (tf : Bool) (b : BranchTree)
    → guard_of tf b ≡ (let g : Guard = record { place = (out-BranchTree b).place; io = (out-BranchTree b).io; inside = parts_of tf (out-BranchTree b).body } in g)
guard-is tf b = search (rules, the_lemmas, flat_map-map)

-- the parts of branches from number i on
pub guards-next : (tf : Bool) (rates : List RateTree) (bs : List BranchTree) (i : ℕ) (d : BranchTree) → i < length bs
    → guards_from rates (map io_in (take i bs)) (map (guard_of tf) (drop i bs))
    ≡ guard rates (map io_in (take i bs)) (out-BranchTree (get_or bs i d)).place (io_in (get_or bs i d))
    ∷ (parts_of tf (out-BranchTree (get_or bs i d)).body ++ guards_from rates (map io_in (take (i + 1) bs)) (map (guard_of tf) (drop (i + 1) bs)))
guards-next tf rates bs i d h =
    ap (λ xs. guards_from rates (map io_in (take i bs)) (map (guard_of tf) xs)) (drop_more bs i d h)
    ∙ ap (λ g. guard rates (map io_in (take i bs)) g.place g.io ∷ (g.inside ++ guards_from rates (map io_in (take i bs) ++ g.io ∷ []) (map (guard_of tf) (drop (i + 1) bs))))
    (guard-is tf (get_or bs i d))
    ∙ ap (λ xs. guard rates (map io_in (take i bs)) (out-BranchTree (get_or bs i d)).place (io_in (get_or bs i d))
    ∷ (parts_of tf (out-BranchTree (get_or bs i d)).body ++ guards_from rates xs (map (guard_of tf) (drop (i + 1) bs))))
    (sym (ap (map io_in) (take_more bs i d h) ∙ map-append io_in (take i bs) (get_or bs i d ∷ [])))
