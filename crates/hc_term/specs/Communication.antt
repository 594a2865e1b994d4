-- What a communication and a delay do to one process.
use Rattle.std.specs.Prelude.{ℕ, ◌==◌, if◌then◌else◌, List, [], ◌∷◌, ◌++◌, slice_set}
use Rattle.hc_rational.specs.Words.{Rational, ◌-ℚ◌}
use Rattle.hc_term.specs.declared.stmt.Io.{Io}
use Rattle.hc_term.specs.declared.stmt.Io.TheVariants.{Send, Receive}
use Rattle.hc_term.specs.declared.stmt.Stmt.{Stmt, out-Stmt}
use Rattle.hc_term.specs.declared.stmt.Stmt.TheOpen.{Stmt-F}
use Rattle.hc_term.specs.declared.stmt.Branch.{Branch, out-Branch}
use Rattle.hc_term.specs.declared.model.Mark.{Mark}
use Rattle.hc_term.specs.declared.model.ProcessState.{ProcessState}
use Rattle.hc_term.specs.declared.model.Mark.TheVariants.{Going, Arrived}
use Rattle.hc_term.specs.Value.{Store}
use Rattle.hc_term.specs.Motion.{rates_in, after}
use Rattle.hc_term.specs.Process.{Layer}

-- ---- sending

abbrev pub if_sends : ℕ → Io → List Stmt → List Stmt → List Stmt
if_sends c (Send channel value) front other = if channel == c then front else other
if_sends c (Receive channel variable) front other = other

-- the statements behind the guard that sends on channel c
abbrev pub sent_branch : ℕ → List Branch → List Stmt
sent_branch c [] = []
sent_branch c (b ∷ bs) = if_sends c (out-Branch b).io (out-Branch b).body (sent_branch c bs)

abbrev pub sent_here : ℕ → Layer → List Stmt
sent_here c (Stmt-F.Choice branches) = sent_branch c branches
sent_here c (Stmt-F.Evolve rates domain branches) = sent_branch c branches
sent_here c _ = []

abbrev pub sent_at : ℕ → List Stmt → List Stmt
sent_at c [] = []
sent_at c (head ∷ rest) = sent_here c (out-Stmt head) ++ rest

-- the process after sending on channel c
abbrev pub sent : ℕ → ProcessState → ProcessState
sent c p = record p { todo = sent_at c p.todo; mark = Going }

-- ---- receiving

-- the variable that is set and the statements put in front
abbrev pub Taken : Type 0
Taken = ℕ × List Stmt

abbrev pub if_receives : ℕ → Io → List Stmt → Taken → Taken
if_receives c (Send channel value) front other = other
if_receives c (Receive channel variable) front other = if channel == c then (variable, front) else other

-- what the guard that receives on channel c sets and puts in front
abbrev pub received_branch : ℕ → List Branch → Taken
received_branch c [] = (0, [])
received_branch c (b ∷ bs) = if_receives c (out-Branch b).io (out-Branch b).body (received_branch c bs)

abbrev pub received_here : ℕ → Layer → Taken
received_here c (Stmt-F.Io io) = if_receives c io [] (0, [])
received_here c (Stmt-F.Choice branches) = received_branch c branches
received_here c (Stmt-F.Evolve rates domain branches) = received_branch c branches
received_here c _ = (0, [])

abbrev pub received_by : Rational → ProcessState → Taken → List Stmt → ProcessState
received_by v p taken rest = record p { todo = taken.1 ++ rest; store = slice_set p.store taken.0 v; mark = Going }

abbrev pub received_at : ℕ → Rational → ProcessState → List Stmt → ProcessState
received_at c v p [] = p
received_at c v p (head ∷ rest) = received_by v p (received_here c (out-Stmt head)) rest

-- the process after receiving v on channel c
abbrev pub received : ℕ → Rational → ProcessState → ProcessState
received c v p = received_at c v p p.todo

-- ---- a delay

abbrev pub moved_store : Store → Rational → Layer → Store
moved_store s d (Stmt-F.Evolve rates domain branches) = after s (rates_in rates s) d
moved_store s d _ = s

abbrev pub left_after : Rational → Rational → Layer → Rational
left_after left d (Stmt-F.Wait time) = left -ℚ d
left_after left d _ = left

abbrev pub moved_at : Rational → ProcessState → Mark → List Stmt → ProcessState
moved_at d p Going todo = p
moved_at d p (Arrived left) [] = p
moved_at d p (Arrived left) (head ∷ rest) =
    record p { store = moved_store p.store d (out-Stmt head); mark = Arrived (left_after left d (out-Stmt head)) }

-- the process after d time units
abbrev pub moved : Rational → ProcessState → ProcessState
moved d p = moved_at d p p.mark p.todo
