-- The program of C that runs a task, with a thread for each process, by the flat code of its processes.
use Rattle.std.specs.Prelude.{◌≡◌, ℕ, suc, List, [], ◌∷◌, ◌++◌, map, slice_get, Some}
use Rattle.hc_limits.specs.Limits.{most_nodes}
use Rattle.hc_term.specs.declared.system.Process.{Process}
use Rattle.hc_term.specs.declared.task.Task.{Task}
use Rattle.hc_code.specs.declared.code.Instr.{Instr}
use Rattle.hc_code.specs.Stands.{Stands}
use Rattle.hc_code.specs.Kept.{KeepsRules}
use Rattle.hc_cast.specs.declared.stmt.CStmt.{CStmt}
use Rattle.hc_cast.specs.declared.program.CBody.{CBody}
use Rattle.hc_cast.specs.declared.program.CProgram.{CProgram}
use Rattle.hc_cmach.specs.State.{Word}
use Rattle.hc_cthreads.specs.Bodies.{Pieces, v_done, v_x, body_of}
use Rattle.hc_cthreads.specs.Reports.{report_of}
use Rattle.hc_core_c.specs.Code.{core_arrays, core_functions}
use Rattle.hc_cstep.specs.Locals.{names}
use Rattle.hc_cstep.specs.Written.{private_code}
use Rattle.hc_cend.specs.Searching.{search_scratch}
use Rattle.hc_cprivate.specs.Whole.{parts}
use Rattle.hc_csection.specs.Words.{processes, channels, variables}
use Rattle.hc_csection.specs.Code.{section_functions, no_stop, has_room, enter_steps, pass_call, idle_test}
use Rattle.hc_csection.specs.PrivateLaw.{stretch_of}
use Rattle.hc_cpost.specs.Written.{post_code}
use Rattle.hc_cpost.specs.Taking.{take_code}

-- for each process, by its number, its flat code
abbrev pub Codes : Type 0
Codes = ℕ → List Instr

-- it is what the process's statements are compiled to
pub record AreCompiled (t : Task) (code : Codes) : Type 0 where
  pub stands : (p : ℕ) (x : Process) → slice_get t.system.processes p ≡ Some x → Stands (code p) x.body
  pub keeps : (p : ℕ) (x : Process) → slice_get t.system.processes p ≡ Some x → KeepsRules x.body (code p)

-- ---- a thread

-- v_place, v_choices, v_mark, v_bounded, v_most, v_steps, v_end, v_ok, v_truth; v_done, v_x; and those of the search for an end moment
abbrev pub thread_locals : List Word
thread_locals = names (v_done ∷ v_x ∷ search_scratch [])

-- the private steps of process p
abbrev pub private_of : Task → ℕ → List Instr → List CStmt
private_of t p code = private_code (parts p (variables t p) most_nodes) p t.seed code

-- the five pieces of the thread of process p
abbrev pub thread_pieces : Task → ℕ → List Instr → Pieces
thread_pieces t p code = record {
  names = thread_locals;
  stretch = stretch_of t (private_of t p code);
  report = report_of no_stop has_room (enter_steps t p) (post_code p (variables t p) code) pass_call;
  idle = idle_test p;
  take = take_code p (variables t p) code;
}

-- while (v_done == 0) { STRETCH m_lock(); REPORT IDLE while (v_x == 1) { c_wait(p); IDLE } TAKE m_unlock(); } return 0;
abbrev pub thread_of : Task → ℕ → List Instr → CBody
thread_of t p code = record { locals = thread_locals; statements = body_of p (thread_pieces t p code) }

abbrev pub thread : Task → Codes → ℕ → CBody
thread t code p = thread_of t p (code p)

-- one for each of these processes, of which the first has number p
abbrev pub threads_from : Task → Codes → ℕ → List Process → List CBody
threads_from t code p [] = []
threads_from t code p (x ∷ xs) = thread t code p ∷ threads_from t code (suc p) xs

-- ---- the program

-- the core's arrays, the system's names, the core with what sections call, and the threads
abbrev pub program : Task → Codes → CProgram
program t code = record {
  arrays = core_arrays (processes t) (channels t);
  channels = t.system.channels;
  processes = map (λ p. p.name) t.system.processes;
  functions = core_functions (processes t) (channels t) ++ section_functions;
  threads = threads_from t code 0 t.system.processes;
}
