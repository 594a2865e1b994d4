-- What a piece of code stands for that is put behind others: the words in which the compiler's parts say what they did.
use Rattle.std.specs.Prelude.{◌≡◌, ◌≤◌, ℕ, ◌+◌, Bool, true, false, List, [], ◌∷◌, ◌++◌, length, map, sum_by, IsTrue}
use Rattle.std.specs.List.{list_all}
use Rattle.hc_term.specs.declared.stmt.Stmt.{Stmt}
use Rattle.hc_term.specs.declared.stmt.Stmt.TheOpen.{Stmt-F}
use Rattle.hc_term.specs.Process.{Layer}
use Rattle.hc_term.specs.declared.stmt.Branch.{Branch, out-Branch}
use Rattle.hc_term.specs.Rules.{statements, is_stmt}
use Rattle.hc_code.specs.declared.code.Way.{Way}
use Rattle.hc_code.specs.declared.code.Instr.{Instr}
use Rattle.hc_code.specs.Stands.{Table, At, AllAgree, is_step}
use Rattle.hc_code.specs.Kept.{is_instr}
use Rattle.hc_code.specs.Measure.{measure_all, weight}

abbrev pub all_statements : List Stmt → ℕ
all_statements ss = sum_by statements ss

abbrev pub branch_statements : List Branch → ℕ
branch_statements bs = sum_by (λ b. sum_by statements (out-Branch b).body) bs

-- a statement without parts
abbrev pub is_leaf : Layer → Bool
is_leaf Stmt-F.Skip = true
is_leaf (Stmt-F.Assign x e) = true
is_leaf (Stmt-F.Wait e) = true
is_leaf (Stmt-F.Log e) = true
is_leaf (Stmt-F.Io io) = true
is_leaf _ = false

-- the place at which these statements begin: here, or the next where there is none
abbrev pub entry : ℕ → ℕ → List Stmt → ℕ
entry here next [] = next
entry here next (s ∷ ss) = here

-- the places at which the statements of branches begin, which stand one after the other
abbrev pub entries : ℕ → ℕ → List Branch → List ℕ
entries here next [] = []
entries here next (b ∷ bs) = entry here next (out-Branch b).body ∷ entries (here + all_statements (out-Branch b).body) next bs

abbrev pub bodies : List Branch → List (List Stmt)
bodies bs = map (λ b. (out-Branch b).body) bs

-- the ways of branches whose statements stand so
abbrev pub ways_at : ℕ → ℕ → List Branch → List Way
ways_at here next [] = []
ways_at here next (b ∷ bs) =
    record { io = (out-Branch b).io; next = entry here next (out-Branch b).body } ∷
    ways_at (here + all_statements (out-Branch b).body) next bs

-- from this place on, the places stand for these lists
abbrev pub HasAt : Table → ℕ → Table → Type 0
HasAt t here [] = Unit {0}
HasAt t here (todo ∷ more) = At t here todo × HasAt t (here + 1) more

-- each of these places stands for its statements and then the rest
abbrev pub EachAt : Table → List ℕ → List (List Stmt) → List Stmt → Type 0
EachAt t [] [] rest = Unit {0}
EachAt t (p ∷ ps) (ss ∷ sss) rest = At t p (ss ++ rest) × EachAt t ps sss rest
EachAt t _ _ rest = ⊥

-- The code has grown by a piece. Where the place `next` stands for a rest, and the piece's places for the lists that
-- go with that rest, the piece agrees with them, and each of its beginnings stands for its statements and the rest.
-- Where the statements keep the rules, so does the piece; and it counts no more than they do.
pub record Adds (old new : List Instr) (next : ℕ) (begins : List ℕ) (parts : List (List Stmt)) : Type 0 where
  pub piece : List Instr
  pub is : new ≡ old ++ piece
  pub steps : IsTrue (list_all is_step piece)
  pub lists : List Stmt → Table
  pub even : (rest : List Stmt) → length (lists rest) ≡ length piece
  pub stands : (rest : List Stmt) (t : Table) → HasAt t (length old) (lists rest) → At t next rest →
      AllAgree t piece (lists rest) × EachAt t begins parts rest
  pub ruled : (channels n : ℕ) → IsTrue (list_all (list_all (is_stmt channels n)) parts) → IsTrue (list_all (is_instr channels n) piece)
  pub light : sum_by weight piece ≤ sum_by measure_all parts
