-- What a piece of code stands for that is put behind others: the words in which the parts of `prepare` say what they did.
use Rattle.std.specs.Prelude.{◌≡◌, ℕ, ◌+◌, Bool, true, false, List, [], ◌∷◌, ◌++◌, length, map, slice_get, ℤ, Some}
use Rattle.hc_cast.specs.declared.stmt.CStmt.{CStmt}
use Rattle.hc_cast.specs.declared.stmt.CStmt.TheOpen.{CStmt-F}
use Rattle.hc_cast.specs.declared.stmt.CCase.{CCase, out-CCase}
use Rattle.hc_cast.specs.declared.program.CBody.{CBody}
use Rattle.hc_cast.specs.declared.program.CFunction.{CFunction}
use Rattle.hc_cast.specs.declared.program.CProgram.{CProgram}
use Rattle.std.specs.List.{list_all}
use Rattle.hc_cmach.specs.Calls.{all_among}
use Rattle.hc_cmach.specs.State.{Word}
use Rattle.hc_ccode.specs.declared.code.Case.{Case}
use Rattle.hc_ccode.specs.declared.code.Entry.{Entry}
use Rattle.hc_ccode.specs.declared.code.Node.{Node}
use Rattle.hc_ccode.specs.Stages.{Stages, At, AllAgree, FunctionsBegin, ThreadsBegin, Layer}

-- a statement without parts
abbrev pub is_leaf : Layer → Bool
is_leaf (CStmt-F.Set x e) = true
is_leaf (CStmt-F.Store a i e) = true
is_leaf (CStmt-F.Call target what es) = true
is_leaf (CStmt-F.Return e) = true
is_leaf _ = false

-- each call in the bodies of these cases is of a primitive or of one of the functions
abbrev pub cases_among : List CFunction → List CCase → Bool
cases_among fs cs = list_all (λ c. all_among fs (out-CCase c).body) cs

abbrev pub bodies : List CCase → List (List CStmt)
bodies cs = map (λ c. (out-CCase c).body) cs

abbrev pub numbers : List CCase → List ℤ
numbers cs = map (λ c. (out-CCase c).number) cs

abbrev pub numbers_of : List Case → List ℤ
numbers_of ws = map (λ w. w.number) ws

abbrev pub places_of : List Case → List ℕ
places_of ws = map (λ w. w.place) ws

-- from this place on, the places stand for these stages
abbrev pub HasAt : Stages → ℕ → Stages → Type 0
HasAt t here [] = Unit {0}
HasAt t here (s ∷ more) = (slice_get t here ≡ Some s) × HasAt t (here + 1) more

-- each of these places stands for its statements and then the rest
abbrev pub EachAt : Stages → List Word → ℕ → List ℕ → List (List CStmt) → List CStmt → Type 0
EachAt t names known [] [] rest = Unit {0}
EachAt t names known (p ∷ ps) (ss ∷ sss) rest = At t names known p (ss ++ rest) × EachAt t names known ps sss rest
EachAt t names known _ _ rest = ⊥

-- The code has grown by a piece. Where the place `next` stands for a rest, and the piece's places for the stages that
-- go with that rest, the piece agrees with them, and each of its beginnings stands for its statements and the rest.
pub record Adds (g : CProgram) (names : List Word) (known : ℕ) (old new : List Node) (next : ℕ) (begins : List ℕ) (parts : List (List CStmt)) : Type 0 where
  pub piece : List Node
  pub is : new ≡ old ++ piece
  pub stages : List CStmt → Stages
  pub even : (rest : List CStmt) → length (stages rest) ≡ length piece
  pub stands : (rest : List CStmt) (t : Stages) → HasAt t (length old) (stages rest) → At t names known next rest →
      AllAgree g t piece (stages rest) × EachAt t names known begins parts rest

-- the same of the cases of a `switch`, each of which has its number
pub record AddsCases (g : CProgram) (names : List Word) (known : ℕ) (old new : List Node) (next : ℕ) (ways : List Case) (cs : List CCase) : Type 0 where
  pub adds : Adds g names known old new next (places_of ways) (bodies cs)
  pub numbered : numbers_of ways ≡ numbers cs

-- the same of a whole body, behind which nothing is to do
pub record AddsBody (g : CProgram) (names : List Word) (known : ℕ) (old new : List Node) (start : ℕ) (body : List CStmt) : Type 0 where
  pub piece : List Node
  pub is : new ≡ old ++ piece
  pub stages : Stages
  pub even : length stages ≡ length piece
  pub stands : (t : Stages) → HasAt t (length old) stages → AllAgree g t piece stages × At t names known start body

-- the same of a body with its parameters, which begins at an entry
pub record AddsEntry (g : CProgram) (known : ℕ) (names : List Word) (body : CBody) (has_result : Bool) (old new : List Node) (e : Entry) : Type 0 where
  pub adds : AddsBody g (names ++ body.locals) known old new e.start body.statements
  pub params : e.params ≡ length names
  pub locals : e.locals ≡ length body.locals
  pub gives : e.gives ≡ has_result

-- the code is that of these functions and threads, whatever comes behind
pub record IsMade (g : CProgram) (nodes : List Node) (fs : List CFunction) (entries : List Entry) (bs : List CBody) (heads : List Entry) : Type 0 where
  pub stages : Stages
  pub even : length stages ≡ length nodes
  pub stands : (more : Stages) →
      AllAgree g (stages ++ more) nodes stages × FunctionsBegin (stages ++ more) 0 entries fs × ThreadsBegin (stages ++ more) (length g.functions) heads bs

-- it is that of all functions, and of all threads
abbrev pub HasFunctions : CProgram → List Node → List Entry → Type 0
HasFunctions g nodes entries = IsMade g nodes g.functions entries [] []

abbrev pub HasThreads : CProgram → List Node → List Entry → List Entry → Type 0
HasThreads g nodes entries heads = IsMade g nodes g.functions entries g.threads heads
