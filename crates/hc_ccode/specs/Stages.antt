-- What the places of a code stand for: each for a body's names, the number of functions that it may call, and a list of
-- statements still to do.
use Rattle.std.specs.Prelude.{◌≡◌, ◌<◌, ℕ, ◌+◌, Bool, false, IsTrue, List, [], ◌∷◌, ◌++◌, length, slice_get, Option, Some, None}
use Rattle.hc_cast.specs.Primitives.{primitive_named, count}
use Rattle.hc_cast.specs.declared.primitive.Primitive.{Primitive}
use Rattle.hc_cast.specs.declared.expr.CExpr.{CExpr}
use Rattle.hc_cast.specs.declared.stmt.CStmt.{CStmt, out-CStmt}
use Rattle.hc_cast.specs.declared.stmt.CStmt.TheOpen.{CStmt-F}
use Rattle.hc_cast.specs.declared.stmt.CCase.{CCase, out-CCase}
use Rattle.hc_cast.specs.declared.program.CBody.{CBody}
use Rattle.hc_cast.specs.declared.program.CFunction.{CFunction}
use Rattle.hc_cast.specs.declared.program.CProgram.{CProgram}
use Rattle.hc_cmach.specs.Calls.{are_written}
use Rattle.hc_cmach.specs.State.{Word, place_of, array_place, array_length, function_among}
use Rattle.hc_cmach.specs.Turn.{or_nothing}
use Rattle.hc_ccode.specs.declared.code.Case.{Case}
use Rattle.hc_ccode.specs.declared.code.Node.{Node}
use Rattle.hc_ccode.specs.declared.code.Node.TheVariants as node
use Rattle.hc_ccode.specs.declared.code.Entry.{Entry}
use Rattle.hc_ccode.specs.declared.code.Code.{Code}
use Rattle.hc_ccode.specs.Placed.{placed, placed_all, placed_option, placed_target, placed_primitive}

pub record Stage : Type 0 where
  pub names : List Word
  pub known : ℕ
  pub todo : List CStmt

abbrev pub stage : List Word → ℕ → List CStmt → Stage
stage names known todo = record { names = names; known = known; todo = todo }

-- for each place of a code the stage for which it stands
abbrev pub Stages : Type 0
Stages = List Stage

-- in a body with these names, that calls the first `known` functions, the place stands for these statements
abbrev pub At : Stages → List Word → ℕ → ℕ → List CStmt → Type 0
At t names known place todo = slice_get t place ≡ Some (stage names known todo)

-- a statement, opened one level
abbrev pub Layer : Type 0
Layer = CStmt-F CStmt CCase

-- ---- a node and the first statement of its list; rest is what follows that statement

-- the function that is called is one of the first, and has as many parameters as there are arguments
pub record CallsFunction (g : CProgram) (names : List Word) (known next : ℕ) (i : Node) (target : Option Word) (what : Word) (es : List CExpr) : Type 0 where
  pub place : ℕ
  pub callee : CFunction
  pub named : function_among what g.functions ≡ Some callee
  pub stands : slice_get g.functions place ≡ Some callee
  pub before : place < known
  pub even : length callee.params ≡ length es
  pub is : i ≡ node.Call place (placed_all g names es) (placed_target names target) next

pub record CallsPrimitive (g : CProgram) (names : List Word) (next : ℕ) (i : Node) (target : Option Word) (p : Primitive) (es : List CExpr) : Type 0 where
  pub even : count p ≡ length es
  pub written : IsTrue (are_written p es)
  pub is : i ≡ placed_primitive g names target p es next

abbrev pub CallAgrees : CProgram → List Word → ℕ → ℕ → Node → Option Word → Word → List CExpr → Option Primitive → Type 0
CallAgrees g names known next i target what es (Some p) = CallsPrimitive g names next i target p es
CallAgrees g names known next i target what es None = CallsFunction g names known next i target what es

-- a statement without parts; what follows it stands at the place next
abbrev pub LeafAgrees : CProgram → List Word → ℕ → ℕ → Node → Layer → Type 0
LeafAgrees g names known next i (CStmt-F.Set x e) = i ≡ node.Set (place_of x names) (placed g names e) next
LeafAgrees g names known next i (CStmt-F.Store a j e) =
    i ≡ node.Store (array_place g a) (array_length g a) (placed g names j) (placed g names e) next
LeafAgrees g names known next i (CStmt-F.Call target what es) = CallAgrees g names known next i target what es (primitive_named what)
LeafAgrees g names known next i (CStmt-F.Return e) = i ≡ node.Return (placed_option g names e)
LeafAgrees g names known next i _ = ⊥

-- each case has its number, and goes on at its statements and then the rest
abbrev pub CasesAgree : Stages → List Word → ℕ → List CStmt → List Case → List CCase → Type 0
CasesAgree t names known rest [] [] = Unit {0}
CasesAgree t names known rest (w ∷ ws) (c ∷ cs) =
    (w.number ≡ (out-CCase c).number) × At t names known w.place ((out-CCase c).body ++ rest) × CasesAgree t names known rest ws cs
CasesAgree t names known rest _ _ = ⊥

-- the node is that of the statement, and goes on at places that stand for what follows
abbrev pub AgreesHere : CProgram → Stages → List Word → ℕ → Node → CStmt → List CStmt → Layer → Type 0
AgreesHere g t names known i head rest (CStmt-F.If c first other) =
    (p : ℕ) × (q : ℕ) × (i ≡ node.Branch (placed g names c) p q) × At t names known p (first ++ rest)
    × At t names known q (or_nothing other ++ rest)
AgreesHere g t names known i head rest (CStmt-F.While c body) =
    (p : ℕ) × (q : ℕ) × (i ≡ node.Branch (placed g names c) p q) × At t names known p (body ++ head ∷ rest) × At t names known q rest
AgreesHere g t names known i head rest (CStmt-F.Switch e cases otherwise) =
    (ways : List Case) × (q : ℕ) × (i ≡ node.Switch (placed g names e) ways q) × CasesAgree t names known rest ways cases
    × At t names known q (otherwise ++ rest)
AgreesHere g t names known i head rest leaf = (next : ℕ) × LeafAgrees g names known next i leaf × At t names known next rest

-- `End` is the node of the empty list
abbrev pub Agrees : CProgram → Stages → Node → List Word → ℕ → List CStmt → Type 0
Agrees g t i names known [] = i ≡ node.End
Agrees g t i names known (head ∷ rest) = AgreesHere g t names known i head rest (out-CStmt head)

-- each node agrees with its stage
abbrev pub AllAgree : CProgram → Stages → List Node → Stages → Type 0
AllAgree g t [] [] = Unit {0}
AllAgree g t (i ∷ is) (s ∷ more) = Agrees g t i s.names s.known s.todo × AllAgree g t is more
AllAgree g t _ _ = ⊥

-- ---- codes

-- where a body begins whose parameters have these names, how many they are, how many further locals there are, and
-- whether it gives an int
pub record Begins (t : Stages) (known : ℕ) (names : List Word) (body : CBody) (has_result : Bool) (e : Entry) : Type 0 where
  pub start : At t (names ++ body.locals) known e.start body.statements
  pub params : e.params ≡ length names
  pub locals : e.locals ≡ length body.locals
  pub gives : e.gives ≡ has_result

-- functions, each of which calls those before it; `known` stand before the first
abbrev pub FunctionsBegin : Stages → ℕ → List Entry → List CFunction → Type 0
FunctionsBegin t known [] [] = Unit {0}
FunctionsBegin t known (e ∷ es) (f ∷ fs) = Begins t known f.params f.body f.gives e × FunctionsBegin t (known + 1) es fs
FunctionsBegin t known _ _ = ⊥

-- threads, each of which calls any function
abbrev pub ThreadsBegin : Stages → ℕ → List Entry → List CBody → Type 0
ThreadsBegin t known [] [] = Unit {0}
ThreadsBegin t known (e ∷ es) (b ∷ bs) = Begins t known [] b false e × ThreadsBegin t known es bs
ThreadsBegin t known _ _ = ⊥

-- by these stages, the code is that of the program
pub record IsCodeBy (g : CProgram) (c : Code) (t : Stages) : Type 0 where
  pub agree : AllAgree g t c.nodes t
  pub functions : FunctionsBegin t 0 c.functions g.functions
  pub threads : ThreadsBegin t (length g.functions) c.threads g.threads

-- the code is that of the program by some stages
abbrev pub IsCode : CProgram → Code → Type 0
IsCode g c = (t : Stages) × IsCodeBy g c t
