-- The thread machine: the state at which a program opens, what a step comes to, and what schedules print.
use Rattle.std.specs.Prelude.{ℕ, List, [], ◌++◌, map, Option, Some, None}
use Rattle.hc_cast.specs.declared.program.CProgram.{CProgram}
use Rattle.hc_cmach.specs.declared.kind.Kind.{Kind}
use Rattle.hc_schedule.specs.declared.status.Status.TheVariants.{Ready}
use Rattle.hc_cmach.specs.declared.moved.Moved.{Moved}
use Rattle.hc_cmach.specs.declared.moved.Moved.TheVariants as said
use Rattle.hc_schedule.specs.Sections.{Item, run}
use Rattle.hc_schedule.specs.Threads.{World, Act, Prints, Answer, Blocked, Over, Undefined, Takes, answer}
use Rattle.hc_schedule.specs.Schedule.{State, next, moves}
use Rattle.hc_cmach.specs.State.{Own, Shared, opening_own, opening_shared, Fault}
use Rattle.hc_cmach.specs.Line.{Line, header, lines_text}
use Rattle.hc_cmach.specs.Turn.{c_code, kind_of}

abbrev pub CState : Type 0
CState = State Own Shared Line

abbrev pub CAnswer : Type 0
CAnswer = Answer Own Shared Line Fault

-- all threads are ready at their first statement, nobody owns the mutex, and nothing is printed
abbrev pub opening : CProgram → CState
opening g =
    record {
      world =
          record {
            owner = None;
            shared = opening_shared g;
            threads = map (λ body. record { own = opening_own body; status = Ready }) g.threads;
          };
      lines = [];
      moved = 0;
    }

-- the state after an item
abbrev pub stepped : CProgram → CState → Item → CState
stepped g s i = next (c_code g) s i

-- the state after a schedule
abbrev pub scheduled : CProgram → List Item → CState
scheduled g w = run (moves (c_code g)) (opening g) w

-- what was printed so far
abbrev pub printed_by : CProgram → CState → List ℕ
printed_by g s = header ++ lines_text g s.lines

-- what a schedule prints
abbrev pub prints : CProgram → List Item → List ℕ
prints g w = printed_by g (scheduled g w)

-- ---- the answer of a step

abbrev pub said_act : Act Own Shared Line → Moved
said_act (Prints own line) = said.Printed
said_act a = said.Moved

abbrev pub said_by : World Own Shared → CAnswer → Moved
said_by w Blocked = said.Blocked
said_by w Over = said.Over
said_by w (Undefined f) = said.Undefined (kind_of w f)
said_by w (Takes a) = said_act a

-- what a step of thread t answers
abbrev pub step_said : CProgram → CState → ℕ → Moved
step_said g s t = said_by s.world (answer (c_code g) s.world t)

abbrev pub kind_by : World Own Shared → CAnswer → Option Kind
kind_by w (Undefined f) = Some (kind_of w f)
kind_by w a = None

-- the kind of a step of thread t where it is undefined
abbrev pub undefined_kind : CProgram → CState → ℕ → Option Kind
undefined_kind g s t = kind_by s.world (answer (c_code g) s.world t)
