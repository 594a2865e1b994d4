-- What is answered to a C text, and to its execution on the thread machine.
use Rattle.std.specs.Prelude.{◌≡◌, ℕ, ◌==◌, Bool, if◌then◌else◌, List, [], ◌∷◌, ◌++◌, codes, decimal}
use Rattle.hc_cast.specs.declared.program.CProgram.{CProgram}
use Rattle.hc_cgrammar.specs.declared.flaw.Refusal as texts
use Rattle.hc_cgrammar.specs.Text.{IsCText, IsCTextRefused}
use Rattle.hc_cread.specs.declared.whole.CStop.TheVariants.{Refused}
use Rattle.hc_cmach.specs.declared.kind.Kind.{Kind}
use Rattle.hc_cmach.specs.declared.kind.Kind.TheVariants.{Index, IntOverflow, ZeroDivisor, Literal, NotOwner, LockedTwice, Unlocked, Foreign, NoValue}
use Rattle.hc_cmach.specs.declared.exec_end.ExecEnd.{ExecEnd}
use Rattle.hc_cmach.specs.declared.exec_end.ExecEnd.TheVariants.{Ended, UsedUp, Undefined}
use Rattle.hc_cmach.specs.Machine.{printed_by}
use Rattle.hc_cmach.specs.Seeded.{Performed, performed}
use Rattle.hc_words.specs.declared.settings.ExecutionRequest.{ExecutionRequest}
use Rattle.hc_cmd.specs.declared.refusal.Refusal.TheVariants.{NoProgram}
use Rattle.hc_cmd.specs.Reply.{Reply}
use Rattle.hc_cmd.specs.Refusals.{refused, line}

-- a text: where it's no C text, why it is refused; else what its program gives
pub data OfC (Gives : CProgram → Reply → Type 0) (text : List ℕ) (reply : Reply) : Type 0 where
  no_program : (why : texts.Refusal) → IsCTextRefused text why → reply ≡ refused (NoProgram (Refused why)) → OfC Gives text reply
  program : (g : CProgram) → IsCText text g → Gives g reply → OfC Gives text reply

-- the status at an end line, by its kind: 1 deadlock, 3 limit, 4 overflow; termination and the horizon are done
abbrev pub status_at_kind : ℕ → ℕ
status_at_kind kind = if kind == 1 then 10 else (if kind == 3 then 12 else (if kind == 4 then 11 else 0))

-- the status of an execution by how it ended
abbrev pub status_by : ExecEnd → ℕ
status_by (Ended kind) = status_at_kind kind
status_by UsedUp = 13
status_by (Undefined kind step) = 14

-- why a step is undefined
abbrev pub text_of_kind : Kind → List ℕ
text_of_kind Index = codes "index"
text_of_kind IntOverflow = codes "int overflow"
text_of_kind ZeroDivisor = codes "zero divisor"
text_of_kind Literal = codes "literal"
text_of_kind NotOwner = codes "not owner"
text_of_kind LockedTwice = codes "locked twice"
text_of_kind Unlocked = codes "shared without mutex"
text_of_kind Foreign = codes "foreign row"
text_of_kind NoValue = codes "no value"

-- the line on error that tells how it ended; none at an end line
abbrev pub end_text : ExecEnd → List ℕ
end_text (Ended kind) = []
end_text UsedUp = line (codes "machine steps used up")
end_text (Undefined kind step) = line (codes "undefined at step " ++ decimal step ++ 58 ∷ 32 ∷ text_of_kind kind)

-- the line behind it where it's asked for: how many steps moved or printed
abbrev pub moved_text : Bool → ℕ → List ℕ
moved_text report moved = if report then codes "moved " ++ decimal moved ++ 10 ∷ [] else []

-- what an execution lets stand: all that the program printed, and on error these lines
abbrev pub told : Bool → CProgram → Performed → Reply
told report g p = record { status = status_by p.end; out = printed_by g p.state; err = end_text p.end ++ moved_text report p.state.moved }

-- what the program comes to under the schedule of the seed
abbrev pub executed : ExecutionRequest → CProgram → Reply
executed asked g = told asked.report g (performed g asked.seed asked.steps)
