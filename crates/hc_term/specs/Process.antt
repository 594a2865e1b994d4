-- One process: what it still has to do, its bound, and whether it wants a silent step.
use Rattle.std.specs.Prelude.{Bool, true, false, List, [], ◌∷◌, Option, Some, None}
use Rattle.hc_rational.specs.Words.{Rational, zero_ℚ, greater, is_zero}
use Rattle.hc_term.specs.declared.stmt.Stmt.{Stmt, out-Stmt}
use Rattle.hc_term.specs.declared.stmt.Stmt.TheOpen.{Stmt-F}
use Rattle.hc_term.specs.declared.stmt.Branch.{Branch}
use Rattle.hc_term.specs.declared.model.Mark.{Mark}
use Rattle.hc_term.specs.declared.model.Mark.TheVariants.{Going, Arrived}
use Rattle.hc_term.specs.declared.model.ProcessState.{ProcessState}
use Rattle.hc_term.specs.Value.{Store}
use Rattle.hc_term.specs.Motion.{rates_in}
use Rattle.hc_term.specs.EndMoment.{end_moment}

-- a statement, opened
abbrev pub Layer : Type 0
Layer = Stmt-F Stmt Branch

-- ---- bounds

-- the bound of an arrived statement: of a wait what is left, of an evolution its end moment
abbrev pub bound_here : Store → Rational → Layer → Option Rational
bound_here s left (Stmt-F.Wait time) = Some (greater zero_ℚ left)
bound_here s left (Stmt-F.Evolve rates domain branches) = end_moment s (rates_in rates s) domain
bound_here s left _ = None

abbrev pub bound_at : Store → Mark → List Stmt → Option Rational
bound_at s Going todo = None
bound_at s (Arrived left) [] = None
bound_at s (Arrived left) (head ∷ rest) = bound_here s left (out-Stmt head)

-- how long a process may stay where it is, or none where time doesn't move it on
abbrev pub bound : ProcessState → Option Rational
bound c = bound_at c.store c.mark c.todo

-- whether a bound has run out
abbrev pub is_due : Option Rational → Bool
is_due None = false
is_due (Some b) = is_zero b

-- whether no statement is left: the process has ended
abbrev pub is_done : List Stmt → Bool
is_done [] = true
is_done (s ∷ ss) = false

abbrev pub wants_at : Mark → Option Rational → List Stmt → Bool
wants_at mark b [] = false
wants_at Going b (head ∷ rest) = true
wants_at (Arrived left) b (head ∷ rest) = is_due b

-- whether it wants a silent step, which may be one whose working values don't fit
abbrev pub wants : ProcessState → Bool
wants c = wants_at c.mark (bound c) c.todo
