-- The five pieces of a thread's body, of which the private code, posting and taking over stand elsewhere.
use Rattle.std.specs.Prelude.{ℕ, List}
use Rattle.hc_term.specs.declared.task.Task.{Task}
use Rattle.hc_cast.specs.declared.stmt.CStmt.{CStmt}
use Rattle.hc_cthreads.specs.Bodies.{Pieces}
use Rattle.hc_cthreads.specs.Reports.{report_of}
use Rattle.hc_csection.specs.Words.{Codes, thread_names}
use Rattle.hc_csection.specs.Code.{no_stop, has_room, enter_steps, pass_call, idle_test}

abbrev pub pieces_of : Codes → Task → ℕ → List CStmt → List CStmt → List CStmt → Pieces
pieces_of k t p stretch show take = record {
  names = thread_names k p;
  stretch = stretch;
  report = report_of no_stop has_room (enter_steps t p) show pass_call;
  idle = idle_test p;
  take = take;
}
