-- The parts of a process: where an expression, a condition, a rate or a communication stands, in order.
use Rattle.std.specs.Prelude.{Bool, List, [], ◌∷◌, ◌++◌, Option, Some, None, if◌then◌else◌}
use Rattle.std.specs.List.{flat_map}
use Rattle.hc_frac.specs.declared.place.Place.{Place}
use Rattle.hc_ast.specs.Bare.{Word}
use Rattle.hc_ast.specs.declared.expr.ExprTree.{ExprTree}
use Rattle.hc_ast.specs.declared.expr.CondTree.{CondTree}
use Rattle.hc_ast.specs.declared.stmt.IoTree.{IoTree}
use Rattle.hc_ast.specs.declared.stmt.RateTree.{RateTree}
use Rattle.hc_ast.specs.declared.stmt.StmtKind.TheOpen.{StmtKind-F, BranchTree-F}
use Rattle.hc_ast.specs.declared.stmt.StmtTree.{StmtTree, fold-StmtTree}
use Rattle.hc_ast.specs.declared.stmt.BranchTree.{BranchTree, fold-BranchTree}

-- a part; an expression, a test and a communication stand at their statement's place
pub data Part : Type 0 where
  -- an assignment: the variable and the value
  assign : Place → Word → ExprTree → Part
  -- the time of a wait, the value of a log
  compute : Place → ExprTree → Part
  -- the test of an `if` or a loop
  test : Place → CondTree → Part
  -- a statement that sends or receives
  communicate : Place → IoTree → Part
  -- a rate, with all rates of its evolution, and those before it
  rate : List RateTree → List RateTree → RateTree → Part
  -- the domain of an evolution with these rates
  domain : List RateTree → Place → CondTree → Part
  -- the communication of a branch; the rates of its evolution (none in a choice), and the communications of the branches before it
  guard : List RateTree → List IoTree → Place → IoTree → Part

-- a branch: its communication, and the parts of what follows it
pub record Guard : Type 0 where
  pub place : Place
  pub io : IoTree
  pub inside : List Part

-- the parts of branches, behind these communications
abbrev pub guards_from : List RateTree → List IoTree → List Guard → List Part
guards_from rates earlier [] = []
guards_from rates earlier (g ∷ gs) =
    guard rates earlier g.place g.io ∷ (g.inside ++ guards_from rates (earlier ++ g.io ∷ []) gs)

-- the parts of rates, behind these
abbrev pub rates_from : List RateTree → List RateTree → List RateTree → List Part
rates_from all earlier [] = []
rates_from all earlier (r ∷ rs) = rate all earlier r ∷ rates_from all (earlier ++ r ∷ []) rs

-- the parts of lists of parts
abbrev pub joined : List (List Part) → List Part
joined xs = flat_map (λ x. x) xs

-- as the tokens stand, a loop's test comes behind its body
abbrev pub loop_parts : Bool → Part → List Part → List Part
loop_parts tests_first t inside = if tests_first then t ∷ inside else inside ++ t ∷ []

abbrev pub else_parts : Option (List (List Part)) → List Part
else_parts None = []
else_parts (Some other) = joined other

-- a statement at its place, where each statement and branch inside stands for its parts
abbrev pub kind_layer : Bool → StmtKind-F (Place → List Part) Guard (List Part) → Place → List Part
kind_layer tests_first StmtKind-F.Skip p = []
kind_layer tests_first (StmtKind-F.Assign target value) p = assign p target value ∷ []
kind_layer tests_first (StmtKind-F.Wait time) p = compute p time ∷ []
kind_layer tests_first (StmtKind-F.Io io) p = communicate p io ∷ []
kind_layer tests_first (StmtKind-F.Log value) p = compute p value ∷ []
kind_layer tests_first (StmtKind-F.If c body other) p = test p c ∷ (joined body ++ else_parts other)
kind_layer tests_first (StmtKind-F.Pick left right) p = joined left ++ joined right
kind_layer tests_first (StmtKind-F.Forever body) p = joined body
kind_layer tests_first (StmtKind-F.Loop c body) p = loop_parts tests_first (test p c) (joined body)
kind_layer tests_first (StmtKind-F.Choice branches) p = guards_from [] [] branches
kind_layer tests_first (StmtKind-F.Evolve rates c branches) p =
    rates_from rates [] rates ++ domain rates p c ∷ guards_from rates [] branches

abbrev pub guard_layer : BranchTree-F (Place → List Part) Guard (List Part) → Guard
guard_layer b = record { place = b.place; io = b.io; inside = joined b.body }

-- the parts of a statement: with a loop's test before its body, or as the tokens stand
abbrev pub parts : Bool → StmtTree → List Part
parts tests_first s =
    fold-StmtTree (Place → List Part) Guard (List Part) (kind_layer tests_first) guard_layer (λ x. x.kind x.place) s

abbrev pub parts_of : Bool → List StmtTree → List Part
parts_of tests_first ss = flat_map (parts tests_first) ss

abbrev pub guard_of : Bool → BranchTree → Guard
guard_of tests_first b = fold-BranchTree (Place → List Part) Guard (List Part) (kind_layer tests_first) guard_layer (λ x. x.kind x.place) b
