-- A program of C that runs a task, of these pieces, and what is asked of those that stand elsewhere.
use Rattle.std.specs.Prelude.{◌≡◌, ℕ, true, List, length, slice_get, ℤ, Some}
use Rattle.hc_rational.specs.Words.{Rational}
use Rattle.hc_term.specs.declared.task.Task.{Task}
use Rattle.hc_term.specs.declared.model.ProcessState.{ProcessState}
use Rattle.hc_cast.specs.declared.stmt.CStmt.{CStmt}
use Rattle.hc_cast.specs.declared.program.CBody.{CBody}
use Rattle.hc_cast.specs.declared.program.CProgram.{CProgram}
use Rattle.hc_cmach.specs.State.{Shared}
use Rattle.hc_cthreads.specs.Bodies.{Pieces, body_of}
use Rattle.hc_cthreads.specs.Scenes.{Scene, calls, ends, IsScene}
use Rattle.hc_cthreads.specs.Pieces.{TakesOver, IsDone}
use Rattle.hc_cthreads.specs.Reports.{body_words}
use Rattle.hc_csection.specs.Words.{Codes, thread_names, processes, channels, IsShared, IsHalted, IsHead, IsMet, IsKept, section_words}
use Rattle.hc_csection.specs.Code.{HasSections}
use Rattle.hc_csection.specs.Pieces.{pieces_of}
use Rattle.hc_csection.specs.PrivateLaw.{stretch_of}

-- for each thread its private code, its posting and its taking over
pub record Parts : Type 0 where
  pub private : ℕ → List CStmt
  pub show : ℕ → List CStmt
  pub take : ℕ → List CStmt

abbrev pub thread_pieces : Codes → Task → Parts → ℕ → Pieces
thread_pieces k t c p = pieces_of k t p (stretch_of t (c.private p)) (c.show p) (c.take p)

-- the program has the core, the sections' functions, and a thread of these pieces for each process
pub record IsProgram (g : CProgram) (k : Codes) (t : Task) (c : Parts) : Type 0 where
  pub sections : HasSections g (processes t) (channels t)
  pub number : length g.threads ≡ processes t
  pub names : (p : ℕ) (body : CBody) → slice_get g.threads p ≡ Some body → body.locals ≡ thread_names k p
  pub statements : (p : ℕ) (body : CBody) → slice_get g.threads p ≡ Some body → body.statements ≡ body_of p (thread_pieces k t c p)

-- taking over what has become of the process, or coming to the end, of thread p
pub record TakesDo (g : CProgram) (k : Codes) (t : Task) (p : ℕ) (b : Pieces) : Type 0 where
  pub takes : (s : Scene) (m : Shared) (q : ProcessState) (row : List Rational) (values : List ℤ) → IsScene t s → IsShared t s.at s.posts (length s.items) m → calls s p ≡ true →
      slice_get s.at.processes p ≡ Some q → IsMet k t p s.at s.posts m row values →
      TakesOver g t (body_words (section_words k t)) p b m row values (IsHead k t p s.at.clock q)
  pub takes_end : (s : Scene) (m : Shared) (row : List Rational) (values : List ℤ) → IsScene t s → IsShared t s.at s.posts (length s.items) m → ends s p ≡ true →
      IsMet k t p s.at s.posts m row values → TakesOver g t (body_words (section_words k t)) p b m row values (IsDone g t (body_words (section_words k t)) p b)
  pub takes_halted : (m : Shared) (row : List Rational) (values : List ℤ) → IsHalted m → IsKept row values →
      TakesOver g t (body_words (section_words k t)) p b m row values (IsDone g t (body_words (section_words k t)) p b)
