-- What a code keeps of the rules that a checked system keeps.
use Rattle.std.specs.Prelude.{ℕ, ◌+◌, Bool, true, ◌&&◌, nat_le, List, map, IsTrue}
use Rattle.std.specs.List.{list_all}
use Rattle.hc_term.specs.declared.stmt.Io.{Io}
use Rattle.hc_term.specs.declared.stmt.Stmt.{Stmt}
use Rattle.hc_term.specs.Profile.{is_expr, is_cond, are_guards, is_evolution}
use Rattle.hc_term.specs.Rules.{is_stmt}
use Rattle.hc_code.specs.declared.code.Way.{Way}
use Rattle.hc_code.specs.declared.code.Instr.{Instr}
use Rattle.hc_code.specs.declared.code.Instr.TheVariants as instr

abbrev pub ios_of : List Way → List Io
ios_of ways = map (λ w. w.io) ways

-- an instruction of a process with n variables, in a system with so many channels
abbrev pub is_instr : ℕ → ℕ → Instr → Bool
is_instr channels n (instr.Assign x e next) = nat_le (x + 1) n && is_expr n e
is_instr channels n (instr.Log e next) = is_expr n e
is_instr channels n (instr.Wait e next) = is_expr n e
is_instr channels n (instr.Test c yes' no') = is_cond n c
is_instr channels n (instr.Meet ways) = are_guards channels n (ios_of ways)
is_instr channels n (instr.Evolve rates c ways next) = is_evolution n rates c (ios_of ways) && are_guards channels n (ios_of ways)
is_instr channels n _ = true

-- where the statements keep the rules, so do the instructions
abbrev pub KeepsRules : List Stmt → List Instr → Type 0
KeepsRules body code = (channels n : ℕ) → IsTrue (list_all (is_stmt channels n) body) → IsTrue (list_all (is_instr channels n) code)
