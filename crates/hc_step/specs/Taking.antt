-- What a move needs before it is taken, and what a process shows that goes on.
use Rattle.std.specs.Prelude.{◌<◌, List, [], ◌∷◌, length}
use Rattle.hc_term.specs.declared.post.Phase.{Phase}
use Rattle.hc_term.specs.declared.post.Phase.TheVariants as phase
use Rattle.hc_code.specs.declared.code.Instr.{Instr}
use Rattle.hc_code.specs.declared.code.Instr.TheVariants as instr
use Rattle.hc_step.specs.declared.local.Local.{Local}
use Rattle.hc_step.specs.declared.look.Move.{Move}
use Rattle.hc_step.specs.declared.look.Move.TheVariants as move

-- a process that has come to this instruction is going, or has ended
abbrev pub phase_of : Instr → Phase
phase_of instr.End = phase.Ended
phase_of _ = phase.Going

-- at the beginning of a code; one without instructions has nothing to do
abbrev pub first_phase : List Instr → Phase
first_phase [] = phase.Ended
first_phase (i ∷ is) = phase_of i

-- variables and places are in range
abbrev pub IsMovable : List Instr → Local → Move → Type 0
IsMovable code l (move.Goes next) = next < length code
IsMovable code l (move.Sets x v next) = (x < l.variables) × (next < length code)
IsMovable code l (move.Logs v next) = next < length code
IsMovable code l (move.Picks next) = next < length code
