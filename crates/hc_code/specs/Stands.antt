-- What the places of a code stand for: each for a list of statements still to do.
use Rattle.std.specs.Prelude.{◌≡◌, ℕ, Bool, true, false, List, [], ◌∷◌, ◌++◌, length, slice_get, Some, IsTrue}
use Rattle.std.specs.List.{list_all}
use Rattle.hc_term.specs.declared.stmt.Stmt.{Stmt, out-Stmt}
use Rattle.hc_term.specs.declared.stmt.Stmt.TheOpen.{Stmt-F}
use Rattle.hc_term.specs.declared.stmt.Branch.{Branch, out-Branch}
use Rattle.hc_term.specs.declared.system.Process.{Process}
use Rattle.hc_term.specs.Process.{Layer}
use Rattle.hc_term.specs.Rules.{body_statements}
use Rattle.hc_code.specs.declared.code.Way.{Way}
use Rattle.hc_code.specs.declared.code.Instr.{Instr}
use Rattle.hc_code.specs.declared.code.Instr.TheVariants as instr

-- for each place of a code the list of statements for which it stands
abbrev pub Table : Type 0
Table = List (List Stmt)

-- the place stands for these statements
abbrev pub At : Table → ℕ → List Stmt → Type 0
At t place todo = slice_get t place ≡ Some todo

-- ---- an instruction and the first statement of its list, opened; rest is what follows that statement

-- each way has a branch's communication, and goes on at its statements and then the rest
abbrev pub WaysAgree : Table → List Stmt → List Way → List Branch → Type 0
WaysAgree t rest [] [] = Unit {0}
WaysAgree t rest (w ∷ ws) (b ∷ bs) =
    (w.io ≡ (out-Branch b).io) × At t w.next ((out-Branch b).body ++ rest) × WaysAgree t rest ws bs
WaysAgree t rest _ _ = ⊥

-- the instruction is that of the statement, and goes on at places that stand for what follows
abbrev pub AgreesHere : Table → Instr → Stmt → List Stmt → Layer → Type 0
AgreesHere t i head rest Stmt-F.Skip = (next : ℕ) × (i ≡ instr.Skip next) × At t next rest
AgreesHere t i head rest (Stmt-F.Assign x e) = (next : ℕ) × (i ≡ instr.Assign x e next) × At t next rest
AgreesHere t i head rest (Stmt-F.Log e) = (next : ℕ) × (i ≡ instr.Log e next) × At t next rest
AgreesHere t i head rest (Stmt-F.Wait e) = (next : ℕ) × (i ≡ instr.Wait e next) × At t next rest
AgreesHere t i head rest (Stmt-F.If c first second) =
    (yes' : ℕ) × (no' : ℕ) × (i ≡ instr.Test c yes' no') × At t yes' (first ++ rest) × At t no' (second ++ rest)
AgreesHere t i head rest (Stmt-F.Loop c body) =
    (yes' : ℕ) × (no' : ℕ) × (i ≡ instr.Test c yes' no') × At t yes' (body ++ head ∷ rest) × At t no' rest
AgreesHere t i head rest (Stmt-F.Pick left right) =
    (first : ℕ) × (second : ℕ) × (i ≡ instr.Pick first second) × At t first (left ++ rest) × At t second (right ++ rest)
AgreesHere t i head rest (Stmt-F.Forever body) = (next : ℕ) × (i ≡ instr.Again next) × At t next (body ++ head ∷ rest)
AgreesHere t i head rest (Stmt-F.Io io) =
    (next : ℕ) × (i ≡ instr.Meet (record { io = io; next = next } ∷ [])) × At t next rest
AgreesHere t i head rest (Stmt-F.Choice branches) = (ways : List Way) × (i ≡ instr.Meet ways) × WaysAgree t rest ways branches
AgreesHere t i head rest (Stmt-F.Evolve rates c branches) =
    (ways : List Way) × (next : ℕ) × (i ≡ instr.Evolve rates c ways next) × WaysAgree t rest ways branches × At t next rest

-- `End` is the instruction of the empty list
abbrev pub Agrees : Table → Instr → List Stmt → Type 0
Agrees t i [] = i ≡ instr.End
Agrees t i (head ∷ rest) = AgreesHere t i head rest (out-Stmt head)

-- each instruction agrees with its list
abbrev pub AllAgree : Table → List Instr → Table → Type 0
AllAgree t [] [] = Unit {0}
AllAgree t (i ∷ is) (todo ∷ more) = Agrees t i todo × AllAgree t is more
AllAgree t _ _ = ⊥

-- ---- codes

-- by this table, the places of the code stand for lists of statements, and place 0 for this one
pub record StandsFor (code : List Instr) (body : List Stmt) (t : Table) : Type 0 where
  pub begins : At t 0 body
  pub agree : AllAgree t code t

-- the code stands for the statements by some table
abbrev pub Stands : List Instr → List Stmt → Type 0
Stands code body = (t : Table) × StandsFor code body t

abbrev pub is_step : Instr → Bool
is_step instr.End = false
is_step _ = true

-- one instruction for each statement of the process, and one last `End`
pub record HasOneEach (p : Process) (code : List Instr) : Type 0 where
  pub front : List Instr
  pub whole : code ≡ front ++ instr.End ∷ []
  pub steps : IsTrue (list_all is_step front)
  pub counted : length front ≡ body_statements p
