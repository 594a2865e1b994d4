-- Induction over statements: what holds of a statement wherever it holds of those inside it.
use Rattle.std.proofs.Common.{◌≡◌, refl, sym, subst, List, [], ◌∷◌, map, Option, Some, None}
use denote.Hole.Carrier
use Rattle.hc_frac.specs.declared.place.Place.{Place}
use Rattle.hc_ast.specs.declared.expr.ExprTree.{ExprTree}
use Rattle.hc_ast.specs.declared.expr.CondTree.{CondTree}
use Rattle.hc_ast.specs.declared.stmt.IoTree.{IoTree}
use Rattle.hc_ast.specs.declared.stmt.RateTree.{RateTree}
use Rattle.hc_ast.specs.declared.stmt.StmtKind.{StmtKind}
use Rattle.hc_ast.specs.declared.stmt.StmtKind.TheVariants as plain
use Rattle.hc_ast.specs.declared.stmt.StmtKind.TheViews as seen
use Rattle.hc_ast.specs.declared.stmt.StmtKind.TheViews.{roll-StmtKind, roll-StmtTree, out-roll-BranchTree}
use Rattle.hc_ast.specs.declared.stmt.StmtKind.TheOpen.{StmtKind-F, BranchTree-F}
use Rattle.hc_ast.specs.declared.stmt.StmtKind.TheFolds.{ind-StmtTree, map-StmtKind, map-BranchTree}
use Rattle.hc_ast.specs.declared.stmt.StmtTree.{StmtTree}
use Rattle.hc_ast.specs.declared.stmt.BranchTree.{BranchTree, roll-BranchTree, out-BranchTree}
use Rattle.hc_ast.specs.Bare.{Word}
use Rattle.hc_ast.specs.StmtTrees.{stmt_at}

-- each element has it
abbrev pub Each : {X : Type 0} → (X → Type 0) → List X → Type 0
Each P [] = Unit {0}
Each P (x ∷ xs) = P x × Each P xs

abbrev pub EachElse : {X : Type 0} → (X → Type 0) → Option (List X) → Type 0
EachElse P None = Unit {0}
EachElse P (Some xs) = Each P xs

-- each statement behind the communication of each branch has it
abbrev pub EachBehind : (StmtTree → Type 0) → BranchTree → Type 0
EachBehind P b = Each P (out-BranchTree b).body

-- what is to be shown of each form
pub record Steps (P : StmtTree → Type 0) : Type 0 where
  pub skip : (s : StmtTree) → s.kind ≡ plain.Skip → P s
  pub assign : (s : StmtTree) (x : Word) (e : ExprTree) → s.kind ≡ plain.Assign x e → P s
  pub wait : (s : StmtTree) (e : ExprTree) → s.kind ≡ plain.Wait e → P s
  pub io : (s : StmtTree) (i : IoTree) → s.kind ≡ plain.Io i → P s
  pub log : (s : StmtTree) (e : ExprTree) → s.kind ≡ plain.Log e → P s
  pub when : (s : StmtTree) (c : CondTree) (ss : List StmtTree) (no : Option (List StmtTree)) → s.kind ≡ seen.If c ss no
      → Each P ss → EachElse P no → P s
  pub pick : (s : StmtTree) (ss rs : List StmtTree) → s.kind ≡ seen.Pick ss rs → Each P ss → Each P rs → P s
  pub forever : (s : StmtTree) (ss : List StmtTree) → s.kind ≡ seen.Forever ss → Each P ss → P s
  pub loop : (s : StmtTree) (c : CondTree) (ss : List StmtTree) → s.kind ≡ seen.Loop c ss → Each P ss → P s
  pub choice : (s : StmtTree) (bs : List BranchTree) → s.kind ≡ seen.Choice bs → Each (EachBehind P) bs → P s
  pub evolve : (s : StmtTree) (rs : List RateTree) (c : CondTree) (bs : List BranchTree) → s.kind ≡ seen.Evolve rs c bs
      → Each (EachBehind P) bs → P s

each_first : {X : Type 0} (P : X → Type 0) (es : List ((x : X) × P x)) → Each P (map (λ e. e.0) es)
each_first P [] = tt
each_first P (e ∷ es) = (e.1, each_first P es)

module _ (P : StmtTree → Type 0) (steps : Steps P) where
  -- of a kind: at each place
  abbrev Anywhere : StmtKind → Type 0
  Anywhere k = (p : Place) → P (stmt_at p k)

  abbrev KindWith : Type 0
  KindWith = (k : StmtKind) × Anywhere k

  abbrev BranchWith : Type 0
  BranchWith = (b : BranchTree) × EachBehind P b

  abbrev StmtWith : Type 0
  StmtWith = (s : StmtTree) × P s

  abbrev Layer : Type 0
  Layer = StmtKind-F KindWith BranchWith StmtWith

  abbrev alone : Layer → StmtKind-F StmtKind BranchTree StmtTree
  alone y = map-StmtKind KindWith BranchWith StmtWith StmtKind BranchTree StmtTree (λ e. e.0) (λ e. e.0) (λ e. e.0) y

  of_kind : (y : Layer) (p : Place) → P (stmt_at p (roll-StmtKind (alone y)))
  unfolding roll-StmtKind denote.Hole.Carrier.roll
  of_kind StmtKind-F.Skip p = steps.skip _ refl
  of_kind (StmtKind-F.Assign x e) p = steps.assign _ x e refl
  of_kind (StmtKind-F.Wait e) p = steps.wait _ e refl
  of_kind (StmtKind-F.Io i) p = steps.io _ i refl
  of_kind (StmtKind-F.Log e) p = steps.log _ e refl
  of_kind (StmtKind-F.If c ss None) p = steps.when _ c (map (λ e. e.0) ss) None (sym (seen.rolls-If c (map (λ e. e.0) ss) None)) (each_first P ss) tt
  of_kind (StmtKind-F.If c ss (Some rs)) p =
      steps.when _ c (map (λ e. e.0) ss) (Some (map (λ e. e.0) rs)) (sym (seen.rolls-If c (map (λ e. e.0) ss) (Some (map (λ e. e.0) rs))))
      (each_first P ss) (each_first P rs)
  of_kind (StmtKind-F.Pick ss rs) p =
      steps.pick _ (map (λ e. e.0) ss) (map (λ e. e.0) rs) (sym (seen.rolls-Pick (map (λ e. e.0) ss) (map (λ e. e.0) rs)))
      (each_first P ss) (each_first P rs)
  of_kind (StmtKind-F.Forever ss) p = steps.forever _ (map (λ e. e.0) ss) (sym (seen.rolls-Forever (map (λ e. e.0) ss))) (each_first P ss)
  of_kind (StmtKind-F.Loop c ss) p = steps.loop _ c (map (λ e. e.0) ss) (sym (seen.rolls-Loop c (map (λ e. e.0) ss))) (each_first P ss)
  of_kind (StmtKind-F.Choice bs) p =
      steps.choice _ (map (λ e. e.0) bs) (sym (seen.rolls-Choice (map (λ e. e.0) bs))) (each_first (EachBehind P) bs)
  of_kind (StmtKind-F.Evolve rs c bs) p =
      steps.evolve _ rs c (map (λ e. e.0) bs) (sym (seen.rolls-Evolve rs c (map (λ e. e.0) bs))) (each_first (EachBehind P) bs)

  of_branch : (y : BranchTree-F KindWith BranchWith StmtWith)
      → EachBehind P (roll-BranchTree (map-BranchTree KindWith BranchWith StmtWith StmtKind BranchTree StmtTree (λ e. e.0) (λ e. e.0) (λ e. e.0) y))
  of_branch y =
      subst (λ b. Each P b.body)
      (sym (out-roll-BranchTree (map-BranchTree KindWith BranchWith StmtWith StmtKind BranchTree StmtTree (λ e. e.0) (λ e. e.0) (λ e. e.0) y)))
      (each_first P y.body)

  pub by_induction : (s : StmtTree) → P s
  by_induction = ind-StmtTree Anywhere (EachBehind P) P
      (λ x y is. subst (λ z. Anywhere (roll-StmtKind z)) is (of_kind y))
      (λ x y is. subst (λ z. EachBehind P (roll-BranchTree z)) is (of_branch y))
      (λ x y is. subst (λ z. P (roll-StmtTree z)) is (y.kind.1 y.place))
