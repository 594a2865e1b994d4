-- What is asked of the five pieces of each thread's body, each run by itself.
use Rattle.std.specs.Prelude.{◌≡◌, ◌≢◌, ◌<◌, ℕ, Bool, true, false, not, ◌&&◌, nat_lt, List, [], ◌++◌, length, replicate, slice_get, ℤ, pos, Option, Some, None, Contains}
use Rattle.hc_rational.specs.Words.{Rational, zero_ℚ}
use Rattle.hc_term.specs.declared.task.Task.{Task}
use Rattle.hc_term.specs.declared.run.Stop.{Stop}
use Rattle.hc_term.specs.declared.model.ProcessState.{ProcessState}
use Rattle.hc_term.specs.Step.{opening}
use Rattle.hc_term.specs.Event.{Progress}
use Rattle.hc_cast.specs.declared.program.CBody.{CBody}
use Rattle.hc_cast.specs.declared.program.CProgram.{CProgram}
use Rattle.hc_cmach.specs.State.{Own, Shared, empty_row, opening_shared}
use Rattle.hc_cmach.specs.Line.{Line}
use Rattle.hc_cmach.specs.Expression.{int_of}
use Rattle.hc_clogic.specs.Runs.{Runs}
use Rattle.hc_cthreads.specs.Lines.{run_lines}
use Rattle.hc_cthreads.specs.Scenes.{Scene, calls, ends, IsScene, first_scene, stretch}
use Rattle.hc_cthreads.specs.Parts.{Words}
use Rattle.hc_cthreads.specs.Outcomes.{Outcome, section_outcome}
use Rattle.hc_cthreads.specs.Serving.{stop_lines, scene_after}
use Rattle.hc_cthreads.specs.Bodies.{Pieces, v_done, v_x, body_of, at_lock, at_idle}
use Rattle.hc_cthreads.specs.Views.{standing, own_view, owner_view, local_value}

-- The words of the pieces: what the shared part says of the run; that a stop stands; that row and locals of thread p stand, at the head of
-- its loop, for its process's configuration at this moment; in front of the lock, for these steps; behind its report, by what is shared, for
-- its process in this scene; and that they are those of a thread behind its report.
pub record BodyWords : Type 1 where
  pub shows : Scene → Shared → Type 0
  pub halted : Shared → Type 0
  pub head : ℕ → Rational → ProcessState → List Rational → List ℤ → Type 0
  pub locked : ℕ → Rational → Progress → List Rational → List ℤ → Type 0
  pub arrived : ℕ → Scene → Shared → List Rational → List ℤ → Type 0
  pub kept : ℕ → List Rational → List ℤ → Type 0

-- whether a process has nothing to do but to wait
abbrev pub is_idle : Scene → ℕ → Bool
is_idle s p = not (calls s p) && not (ends s p)

module _ (g : CProgram) (t : Task) (w : BodyWords) (p : ℕ) (b : Pieces) where
  -- private steps lead to the lock
  pub record Stretches (clock : Rational) (q : ProcessState) (row : List Rational) (values : List ℤ) : Type 0 where
    pub goes_on : local_value b.names values v_done ≡ pos 0
    pub new_row : List Rational
    pub new_values : List ℤ
    pub size : ℕ
    pub runs : Runs g p size b.stretch (own_view b.names row values) (own_view b.names new_row new_values)
    pub locked : w.locked p clock (stretch t p clock q) new_row new_values

  -- where no stop is set
  pub record Reports (old new : Scene) (m old_m : Shared) (row : List Rational) (values : List ℤ) (woken : List ℕ) : Type 0 where
    pub shows : w.shows new m
    pub arrived : w.arrived p new m row values
    pub wakes : (r : ℕ) → r ≢ p → calls old r ≡ false → calls new r ≡ true → Contains woken r
    pub others : (r : ℕ) (row : List Rational) (values : List ℤ) → r ≢ p → w.arrived r old old_m row values → w.arrived r new m row values

  -- where one is set
  pub record Halting (old : Scene) (m : Shared) (row : List Rational) (values : List ℤ) (woken : List ℕ) : Type 0 where
    pub halted : w.halted m
    pub kept : w.kept p row values
    pub wakes : (r : ℕ) → r ≢ p → r < length old.posts → Contains woken r

  abbrev pub Reported : Scene → Scene → Shared → Shared → List Rational → List ℤ → List ℕ → Option Stop → Type 0
  Reported old new m old_m row values wakes None = Reports old new m old_m row values wakes
  Reported old new m old_m row values wakes (Some stop) = Halting old m row values wakes

  -- the report of the steps, and the pass
  pub record DoesReport (s : Scene) (m : Shared) (row : List Rational) (values : List ℤ) (o : Outcome) : Type 0 where
    pub new_row : List Rational
    pub new_values : List ℤ
    pub new_m : Shared
    pub lines : List Line
    pub wakes : List ℕ
    pub size : ℕ
    pub runs : Runs g p size b.report (owner_view b.names row values m [] []) (owner_view b.names new_row new_values new_m lines wakes)
    pub printed : lines ≡ run_lines t.system o.items ++ stop_lines o.at.clock o.stop
    pub comes : Reported s (scene_after s o) new_m m new_row new_values wakes o.stop

  -- behind a stop nothing is reported
  pub record SkipsReport (m : Shared) (row : List Rational) (values : List ℤ) : Type 0 where
    pub new_row : List Rational
    pub new_values : List ℤ
    pub new_m : Shared
    pub wakes : List ℕ
    pub size : ℕ
    pub runs : Runs g p size b.report (owner_view b.names row values m [] []) (owner_view b.names new_row new_values new_m [] wakes)
    pub halted : w.halted new_m
    pub kept : w.kept p new_row new_values

  -- the test whether to wait
  pub record Tests (m : Shared) (row : List Rational) (values : List ℤ) (idle : Bool) (After : List Rational → List ℤ → Type 0) : Type 0 where
    pub new_row : List Rational
    pub new_values : List ℤ
    pub size : ℕ
    pub runs : (lines : List Line) (wakes : List ℕ) → Runs g p size b.idle (owner_view b.names row values m lines wakes) (owner_view b.names new_row new_values m lines wakes)
    pub tells : local_value b.names new_values v_x ≡ int_of idle
    pub after : After new_row new_values

  -- taking over, or coming to the end
  pub record TakesOver (m : Shared) (row : List Rational) (values : List ℤ) (After : List Rational → List ℤ → Type 0) : Type 0 where
    pub new_row : List Rational
    pub new_values : List ℤ
    pub size : ℕ
    pub runs : (lines : List Line) (wakes : List ℕ) → Runs g p size b.take (owner_view b.names row values m lines wakes) (owner_view b.names new_row new_values m lines wakes)
    pub after : After new_row new_values

  abbrev pub IsDone : List Rational → List ℤ → Type 0
  IsDone row values = local_value b.names values v_done ≡ pos 1

  -- All pieces of thread p do what is asked of them.
  pub record PiecesDo : Type 0 where
    pub low : nat_lt p 64 ≡ true
    pub stretches : (clock : Rational) (q : ProcessState) (row : List Rational) (values : List ℤ) → w.head p clock q row values → Stretches clock q row values
    pub reports : (s : Scene) (m : Shared) (q : ProcessState) (row : List Rational) (values : List ℤ) → IsScene t s → w.shows s m → calls s p ≡ true →
        slice_get s.at.processes p ≡ Some q → w.locked p s.at.clock (stretch t p s.at.clock q) row values → DoesReport s m row values (section_outcome t p s q)
    pub skips : (clock : Rational) (h : Progress) (m : Shared) (row : List Rational) (values : List ℤ) → w.halted m → w.locked p clock h row values → SkipsReport m row values
    pub tests : (s : Scene) (m : Shared) (row : List Rational) (values : List ℤ) → IsScene t s → w.shows s m → w.arrived p s m row values →
        Tests m row values (is_idle s p) (w.arrived p s m)
    pub tests_halted : (m : Shared) (row : List Rational) (values : List ℤ) → w.halted m → w.kept p row values → Tests m row values false (w.kept p)
    pub takes : (s : Scene) (m : Shared) (q : ProcessState) (row : List Rational) (values : List ℤ) → IsScene t s → w.shows s m → calls s p ≡ true →
        slice_get s.at.processes p ≡ Some q → w.arrived p s m row values → TakesOver m row values (w.head p s.at.clock q)
    pub takes_end : (s : Scene) (m : Shared) (row : List Rational) (values : List ℤ) → IsScene t s → w.shows s m → ends s p ≡ true → w.arrived p s m row values →
        TakesOver m row values IsDone
    pub takes_halted : (m : Shared) (row : List Rational) (values : List ℤ) → w.halted m → w.kept p row values → TakesOver m row values IsDone
    pub keeps : (s : Scene) (m : Shared) (row : List Rational) (values : List ℤ) → w.arrived p s m row values → w.kept p row values

-- ---- the whole program

-- thread p is in front of its lock; it is behind its report
pub record IsLocked (t : Task) (w : BodyWords) (b : ℕ → Pieces) (p : ℕ) (clock : Rational) (h : Progress) (own : Own) : Type 0 where
  pub there : p < length t.system.processes
  pub row : List Rational
  pub values : List ℤ
  pub locked : w.locked p clock h row values
  pub is : own ≡ standing (b p).names row values (at_lock p (b p))

pub record IsArrived (t : Task) (w : BodyWords) (b : ℕ → Pieces) (p : ℕ) (s : Scene) (m : Shared) (own : Own) : Type 0 where
  pub there : p < length t.system.processes
  pub row : List Rational
  pub values : List ℤ
  pub arrived : w.arrived p s m row values
  pub is : own ≡ standing (b p).names row values (at_idle p (b p))

pub record IsKept (t : Task) (w : BodyWords) (b : ℕ → Pieces) (p : ℕ) (own : Own) : Type 0 where
  pub there : p < length t.system.processes
  pub row : List Rational
  pub values : List ℤ
  pub kept : w.kept p row values
  pub is : own ≡ standing (b p).names row values (at_idle p (b p))

abbrev pub words_of : Task → BodyWords → (ℕ → Pieces) → Words Own Shared
words_of t w b = record {
  shows = w.shows;
  halted = w.halted;
  locks = IsLocked t w b;
  waits = IsArrived t w b;
  behind = IsKept t w b;
}

-- The threads have these bodies, whose pieces do what is asked of them, and at the opening all stands for that of the task.
pub record IsBuilt (g : CProgram) (t : Task) (w : BodyWords) (b : ℕ → Pieces) : Type 0 where
  pub number : length g.threads ≡ length t.system.processes
  pub pieces : (p : ℕ) → p < length t.system.processes → PiecesDo g t w p (b p)
  pub names : (p : ℕ) (body : CBody) → slice_get g.threads p ≡ Some body → body.locals ≡ (b p).names
  pub statements : (p : ℕ) (body : CBody) → slice_get g.threads p ≡ Some body → body.statements ≡ body_of p (b p)
  pub shows : w.shows (first_scene t) (opening_shared g)
  pub head : (p : ℕ) (q : ProcessState) → slice_get (opening t).processes p ≡ Some q → w.head p zero_ℚ q empty_row (replicate (length (b p).names) (pos 0))
