-- The configurations of a process for which a local stands.
use Rattle.std.specs.Prelude.{◌≡◌, ◌<◌, ◌+◌, ◌-◌, ◌%◌, ℕ, List, [], ◌∷◌, ◌++◌, length, take, replicate, slice_set, Option, Some, None, Ok, Err}
use Rattle.hc_rational.specs.Words.{Rational, zero_ℚ}
use Rattle.hc_term.specs.declared.stmt.Stmt.{Stmt}
use Rattle.hc_term.specs.declared.model.Mark.TheVariants.{Going}
use Rattle.hc_term.specs.declared.run.StretchEnd.{StretchEnd}
use Rattle.hc_term.specs.declared.run.StretchEnd.TheVariants as ends
use Rattle.hc_term.specs.declared.model.ProcessState.{ProcessState}
use Rattle.hc_term.specs.Silent.{Outcome, Idle, Unfit, Did}
use Rattle.hc_term.specs.Offers.{post}
use Rattle.hc_term.specs.Event.{Progress}
use Rattle.hc_code.specs.declared.code.Instr.{Instr}
use Rattle.hc_code.specs.Stands.{Table, At}
use Rattle.hc_step.specs.declared.local.Local.{Local}
use Rattle.hc_step.specs.declared.stretch.Stretch.{Stretch}
use Rattle.hc_step.specs.Arriving.{plain_post}
use Rattle.hc_step.specs.Taking.{first_phase}
use Rattle.hc_step.specs.Looking.{Seen}
use Rattle.hc_step.specs.declared.look.Move.{Move}
use Rattle.hc_step.specs.declared.look.Move.TheVariants as move

-- by this table of lists, at this moment
pub record Represents (t : Table) (clock : Rational) (l : Local) (q : ProcessState) : Type 0 where
  pub at_place : At t l.place q.todo
  pub same_store : take l.variables l.store ≡ q.store
  pub same_choices : l.choices ≡ q.choices % 64
  pub same_mark : l.mark ≡ q.mark
  pub same_post : l.post ≡ post clock q

-- what a local keeps of a configuration wherever it stands and whatever it shows
pub record Carries (l : Local) (q : ProcessState) : Type 0 where
  pub same_store : take l.variables l.store ≡ q.store
  pub same_choices : l.choices ≡ q.choices % 64

-- what each step of a stretch logged: nothing, but for the last one where it ends with a log
abbrev pub logs_by : ℕ → StretchEnd → List (Option Rational)
logs_by n (ends.Logged v) = replicate (n - 1) None ++ Some v ∷ []
logs_by n ends.Waits = replicate n None
logs_by n ends.Ended = replicate n None
logs_by n ends.Unfit = replicate n None
logs_by n ends.Spent = replicate n None

abbrev pub logs_of : Stretch → List (Option Rational)
logs_of s = logs_by s.steps s.end

-- a stretch takes exactly the silent steps that the definition has, of each configuration for which the local stands
pub record Takes (t : Table) (clock : Rational) (s : Stretch) (new : Local) (g : Progress) : Type 0 where
  pub counted : s.steps ≡ length g.logs
  pub ended : s.end ≡ g.end
  pub logged : g.logs ≡ logs_of s
  pub stands : Represents t clock new g.next

-- ---- one step, looked at before it is taken

-- the configuration to which a move leads from q; its place stands for the statements that are left
abbrev pub LeadsTo : Table → ProcessState → Move → Option Rational → ProcessState → Type 0
LeadsTo t q (move.Goes place) logged next =
    (rest : List Stmt) × At t place rest × (logged ≡ None) × (next ≡ record q { todo = rest; mark = Going })
LeadsTo t q (move.Sets x v place) logged next =
    (rest : List Stmt) × At t place rest × (logged ≡ None) × (next ≡ record q { todo = rest; store = slice_set q.store x v; mark = Going })
LeadsTo t q (move.Logs v place) logged next =
    (rest : List Stmt) × At t place rest × (logged ≡ Some v) × (next ≡ record q { todo = rest; mark = Going })
LeadsTo t q (move.Picks place) logged next =
    (rest : List Stmt) × At t place rest × (logged ≡ None) × (next ≡ record q { todo = rest; choices = q.choices + 1; mark = Going })

-- what is seen of the silent step: there is none, or it doesn't fit, or it is this move
abbrev pub Sees : Table → ProcessState → Outcome → Seen → Type 0
Sees t q Idle (Ok None) = Unit {0}
Sees t q Unfit (Err e) = Unit {0}
Sees t q (Did logged next) (Ok (Some m)) = LeadsTo t q m logged next
Sees t q _ _ = ⊥

-- ---- the other calls

-- a local that has done nothing yet of this code
pub record IsFresh (process variables : ℕ) (code : List Instr) (l : Local) : Type 0 where
  pub same_process : l.process ≡ process
  pub same_count : l.variables ≡ variables
  pub at_start : l.place ≡ 0
  pub no_choices : l.choices ≡ 0
  pub all_zero : take variables l.store ≡ replicate variables zero_ℚ
  pub is_going : l.mark ≡ Going
  pub shows_so : l.post ≡ plain_post (first_phase code)

-- the same process and variables, at a place of the code
pub record Keeps (len : ℕ) (old new : Local) : Type 0 where
  pub same_process : new.process ≡ old.process
  pub same_count : new.variables ≡ old.variables
  pub within : new.place < len
