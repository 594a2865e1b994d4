-- How large the code of a process is, beside the process. This project's own.
use Rattle.std.specs.Prelude.{◌≤◌, ℕ, ◌+◌, ◌-◌, sum, sum_by, List, length}
use Rattle.hc_term.specs.declared.stmt.Io.{Io}
use Rattle.hc_term.specs.declared.stmt.Rate.{Rate}
use Rattle.hc_term.specs.declared.stmt.Stmt.{Stmt, fold-Stmt}
use Rattle.hc_term.specs.declared.stmt.Stmt.TheOpen.{Stmt-F}
use Rattle.hc_term.specs.declared.system.Process.{Process}
use Rattle.hc_term.specs.Profile.{nodes, nodes_in}
use Rattle.hc_term.specs.Rules.{statements, sent_nodes, size}
use Rattle.hc_code.specs.declared.code.Instr.{Instr}
use Rattle.hc_code.specs.declared.code.Instr.TheVariants as instr
use Rattle.hc_code.specs.Kept.{ios_of}

-- ---- a process

abbrev pub further_layer : Stmt-F ℕ ℕ → ℕ
further_layer (Stmt-F.If test first second) = sum first + sum second
further_layer (Stmt-F.Pick left right) = sum left + sum right
further_layer (Stmt-F.Forever body) = sum body
further_layer (Stmt-F.Loop test body) = sum body
further_layer (Stmt-F.Choice guards) = sum guards
further_layer (Stmt-F.Evolve rates domain guards) = length rates + sum guards
further_layer _ = 0

-- the branches and rates of a statement, with those inside it
abbrev pub further : Stmt → ℕ
further s = fold-Stmt ℕ ℕ further_layer (λ b. 1 + sum b.body) s

-- statements, nodes of expressions and conditions, branches and rates, with those inside it
abbrev pub measure_of : Stmt → ℕ
measure_of s = statements s + size s + further s

abbrev pub measure_all : List Stmt → ℕ
measure_all ss = sum_by measure_of ss

abbrev pub measure : Process → ℕ
measure x = measure_all x.body

-- ---- its code

abbrev pub sent_in : List Io → ℕ
sent_in ios = sum_by sent_nodes ios

abbrev pub rated_in : List Rate → ℕ
rated_in rates = sum_by (λ r. nodes r.value) rates

-- what an instruction counts: a statement, its further branches, its rates, and nodes
abbrev pub weight : Instr → ℕ
weight (instr.Assign x value next) = 1 + nodes value
weight (instr.Log value next) = 1 + nodes value
weight (instr.Wait time next) = 1 + nodes time
weight (instr.Test test yes' no') = 1 + nodes_in test
weight (instr.Meet ways) = 1 + (length ways - 1) + sent_in (ios_of ways)
weight (instr.Evolve rates domain ways next) = 1 + length rates + length ways + rated_in rates + nodes_in domain + sent_in (ios_of ways)
weight _ = 1

-- the code counts no more than the process, and one more for its end
abbrev pub IsMeasured : Process → List Instr → Type 0
IsMeasured x code = sum_by weight code ≤ measure x + 1
