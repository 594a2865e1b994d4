-- What is seen of a silent step that isn't an arrival: what the parts of the program answer.
use Rattle.std.specs.Prelude.{ℕ, Bool, true, false, if◌then◌else◌, Option, Some, None, Result, Ok, Err}
use Rattle.hc_rational.specs.Words.{Rational}
use Rattle.hc_term.specs.declared.run.Unfit.{Unfit}
use Rattle.hc_term.specs.Value.{Store}
use Rattle.hc_term.specs.Evaluated.{value_in, truth_in}
use Rattle.hc_term.specs.Process.{is_due}
use Rattle.hc_code.specs.declared.code.Instr.{Instr}
use Rattle.hc_code.specs.declared.code.Instr.TheVariants as instr
use Rattle.hc_step.specs.declared.look.Move.{Move}
use Rattle.hc_step.specs.declared.look.Move.TheVariants as move

abbrev pub Seen : Type 0
Seen = Result (Option Move) Unfit

abbrev pub setting : ℕ → ℕ → Result Rational Unfit → Seen
setting x next (Ok v) = Ok (Some (move.Sets x v next))
setting x next (Err e) = Err e

abbrev pub logging : ℕ → Result Rational Unfit → Seen
logging next (Ok v) = Ok (Some (move.Logs v next))
logging next (Err e) = Err e

abbrev pub testing : ℕ → ℕ → Result Bool Unfit → Seen
testing yes' no' (Ok true) = Ok (Some (move.Goes yes'))
testing yes' no' (Ok false) = Ok (Some (move.Goes no'))
testing yes' no' (Err e) = Err e

-- of a going process in this store, where the left side of a choice is taken or not
abbrev pub seen : Store → Bool → Instr → Seen
seen s is_left (instr.Skip next) = Ok (Some (move.Goes next))
seen s is_left (instr.Again next) = Ok (Some (move.Goes next))
seen s is_left (instr.Assign x e next) = setting x next (value_in s e)
seen s is_left (instr.Log e next) = logging next (value_in s e)
seen s is_left (instr.Test c yes' no') = testing yes' no' (truth_in s c)
seen s is_left (instr.Pick left right) = Ok (Some (move.Picks (if is_left then left else right)))
seen s is_left (instr.Wait e next) = Ok None
seen s is_left (instr.Meet ways) = Ok None
seen s is_left (instr.Evolve rates c ways next) = Ok None
seen s is_left instr.End = Ok None

-- where a process goes on that has arrived at an instruction, once its bound has run out
abbrev pub leaving : Instr → Option Move
leaving (instr.Wait e next) = Some (move.Goes next)
leaving (instr.Evolve rates c ways next) = Some (move.Goes next)
leaving _ = None

abbrev pub seen_arrived : Option Rational → Instr → Seen
seen_arrived bound i = Ok (if is_due bound then leaving i else None)
