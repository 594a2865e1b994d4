-- What a thread reports of its private steps: how it enters them, posts what its process shows, and runs a pass.
use Rattle.std.proofs.Common.{◌≡◌, ◌≢◌, ◌<◌, ◌≤◌, ℕ, ◌+◌, ◌-◌, true, false, nat_lt, List, [], ◌∷◌, ◌++◌, length, slice_get, slice_set, ℤ, pos, Option, Some, None, Contains}
use Rattle.hc_rational.specs.Words.{Rational}
use Rattle.hc_term.specs.declared.task.Task.{Task}
use Rattle.hc_term.specs.declared.run.Stop.{Stop}
use Rattle.hc_term.specs.declared.run.Stop.TheVariants.{Overflow}
use Rattle.hc_term.specs.declared.run.StretchEnd.TheVariants as stretch_end
use Rattle.hc_term.specs.declared.post.Post.{Post}
use Rattle.hc_term.specs.declared.model.ProcessState.{ProcessState}
use Rattle.hc_term.specs.declared.model.Configuration.{Configuration}
use Rattle.hc_term.specs.Offers.{post}
use Rattle.hc_term.specs.Step.{replaced}
use Rattle.hc_term.specs.Event.{Progress, silent_items}
use Rattle.hc_cast.specs.declared.expr.CExpr.{CExpr}
use Rattle.hc_cast.specs.declared.stmt.CStmt.{CStmt}
use Rattle.hc_cast.specs.declared.stmt.CStmt.TheVariants as a
use Rattle.hc_cast.specs.declared.program.CProgram.{CProgram}
use Rattle.hc_cmach.specs.State.{Shared}
use Rattle.hc_cmach.specs.Line.{Line}
use Rattle.hc_cmach.specs.Expression.{int_of}
use Rattle.hc_clogic.specs.Runs.{Runs, Is}
use Rattle.hc_cthreads.specs.Lines.{run_lines, end_line}
use Rattle.hc_cthreads.specs.Scenes.{called_by, stretch}
use Rattle.hc_cthreads.specs.Outcomes.{Outcome, pass}
use Rattle.hc_cthreads.specs.Serving.{stop_lines}
use Rattle.hc_cthreads.specs.Bodies.{Pieces}
use Rattle.hc_cthreads.specs.Views.{owner_view}
use Rattle.hc_cthreads.specs.Pieces.{BodyWords}

-- The words of the core: that the shared part stands, without a stop, for these posts, for the clock and the variables of this configuration,
-- and for so many steps; that the horizon, the limit and the runner are set, which each section of thread p does first; that a stop stands; that row and locals of thread p, in front of its lock, stand for these steps, and that with what
-- is shared they stand for its process; and that they are those of a thread behind its report.
pub record CoreWords : Type 1 where
  pub stands : Configuration → List Post → ℕ → Shared → Type 0
  pub set : ℕ → Shared → Type 0
  pub halted : Shared → Type 0
  pub head : ℕ → Rational → ProcessState → List Rational → List ℤ → Type 0
  pub locked : ℕ → Rational → Progress → List Rational → List ℤ → Type 0
  pub met : ℕ → Configuration → List Post → Shared → List Rational → List ℤ → Type 0
  pub kept : ℕ → List Rational → List ℤ → Type 0

abbrev pub body_words : CoreWords → BodyWords
body_words w = record {
  shows = λ s m. w.stands s.at s.posts (length s.items) m;
  halted = w.halted;
  head = w.head;
  locked = w.locked;
  arrived = λ p s m row values. w.met p s.at s.posts m row values;
  kept = w.kept;
}

-- if (STOP) { ENTER } if (STOP) { if (ROOM) { POST } PASS }, where STOP says that no stop stands, and ROOM that the limit isn't reached
abbrev pub report_of : CExpr → CExpr → List CStmt → List CStmt → List CStmt → List CStmt
report_of no_stop room enter show pass = a.If no_stop enter None ∷ a.If no_stop (a.If room show None ∷ pass) None ∷ []

module _ (g : CProgram) (t : Task) (w : CoreWords) (p : ℕ) (b : Pieces) where
  -- others keep what they stand for
  abbrev pub OthersKeep : Configuration → List Post → Shared → Configuration → List Post → Shared → Type 0
  OthersKeep c ps m d xs n = (r : ℕ) (row : List Rational) (values : List ℤ) → r ≢ p → w.met r c ps m row values → w.met r d xs n row values

  -- ---- entering

  -- How the steps g from c are entered, behind so many steps: there is room for fewer, up to the limit; or the next doesn't fit, and the stop is set;
  -- or all are.
  pub data Enters (c : Configuration) (ps : List Post) (n : ℕ) (h : Progress) (m : Shared) (row : List Rational) (values : List ℤ) (lines : List Line) (wakes : List ℕ) : Type 0 where
    cut_short : t.limit - n < length h.logs → w.stands c ps t.limit m → w.set p m → w.kept p row values → lines ≡ [] → wakes ≡ [] → Enters c ps n h m row values lines wakes
    does_not_fit : length h.logs < t.limit - n → h.end ≡ stretch_end.Unfit → w.halted m → w.kept p row values →
        lines ≡ run_lines t.system (silent_items c.clock p h.logs) ++ end_line c.clock (Overflow (Some p)) ∷ [] →
        ((r : ℕ) → r ≢ p → r < length ps → Contains wakes r) → Enters c ps n h m row values lines wakes
    taken_whole : length h.logs ≤ t.limit - n → (length h.logs < t.limit - n → h.end ≢ stretch_end.Unfit) → w.stands c ps (n + length h.logs) m → w.set p m →
        w.locked p c.clock h row values → lines ≡ run_lines t.system (silent_items c.clock p h.logs) → wakes ≡ [] → Enters c ps n h m row values lines wakes

  pub record DoesEnter (enter : List CStmt) (c : Configuration) (ps : List Post) (n : ℕ) (h : Progress) (m : Shared) (row : List Rational) (values : List ℤ) : Type 0 where
    pub new_row : List Rational
    pub new_values : List ℤ
    pub new_m : Shared
    pub lines : List Line
    pub wakes : List ℕ
    pub size : ℕ
    pub runs : Runs g p size enter (owner_view b.names row values m [] []) (owner_view b.names new_row new_values new_m lines wakes)
    pub enters : Enters c ps n h new_m new_row new_values lines wakes
    pub others : OthersKeep c ps m c ps new_m

  -- ---- posting

  pub record DoesPost (show : List CStmt) (c : Configuration) (ps : List Post) (n : ℕ) (h : Progress) (m : Shared) (row : List Rational) (values : List ℤ) : Type 0 where
    pub new_row : List Rational
    pub new_values : List ℤ
    pub new_m : Shared
    pub size : ℕ
    pub runs : (lines : List Line) → Runs g p size show (owner_view b.names row values m lines []) (owner_view b.names new_row new_values new_m lines [])
    pub stands : w.stands (replaced c p h.next) (slice_set ps p (post c.clock h.next)) n new_m
    pub set : w.set p new_m
    pub met : w.met p (replaced c p h.next) (slice_set ps p (post c.clock h.next)) new_m new_row new_values
    pub others : OthersKeep c ps m (replaced c p h.next) (slice_set ps p (post c.clock h.next)) new_m

  -- ---- the pass of the core, run by thread p

  -- Where it sets no stop the shared part stands for what came of it, and each other whose turn it has become is woken; else all others are.
  pub record Passes (c : Configuration) (ps : List Post) (n : ℕ) (m : Shared) (o : Outcome) (new_m : Shared) (wakes : List ℕ) : Type 0 where
    pub stands : w.stands o.at o.posts (n + length o.items) new_m
    pub wakes_called : (r : ℕ) → r ≢ p → called_by (slice_get ps r) ≡ false → called_by (slice_get o.posts r) ≡ true → Contains wakes r
    pub met : (r : ℕ) (row : List Rational) (values : List ℤ) → w.met r c ps m row values → w.met r o.at o.posts new_m row values

  pub record Stopping (ps : List Post) (new_m : Shared) (wakes : List ℕ) : Type 0 where
    pub halted : w.halted new_m
    pub wakes_all : (r : ℕ) → r ≢ p → r < length ps → Contains wakes r

  abbrev pub Passing_to : Configuration → List Post → ℕ → Shared → Outcome → Shared → List ℕ → Option Stop → Type 0
  Passing_to c ps n m o new_m wakes None = Passes c ps n m o new_m wakes
  Passing_to c ps n m o new_m wakes (Some stop) = Stopping ps new_m wakes

  pub record DoesPass (call : List CStmt) (c : Configuration) (ps : List Post) (n : ℕ) (m : Shared) (row : List Rational) (values : List ℤ) (o : Outcome) : Type 0 where
    pub new_m : Shared
    pub wakes : List ℕ
    pub size : ℕ
    pub runs : (lines : List Line) → Runs g p size call (owner_view b.names row values m lines [])
        (owner_view b.names row values new_m (lines ++ (run_lines t.system o.items ++ stop_lines o.at.clock o.stop)) wakes)
    pub comes : Passing_to c ps n m o new_m wakes o.stop

  -- ---- the report

  -- All pieces of the report do what is asked of them.
  pub record ReportDoes (no_stop room : CExpr) (enter show call : List CStmt) : Type 0 where
    pub goes : (c : Configuration) (ps : List Post) (n : ℕ) (m : Shared) (row : List Rational) (values : List ℤ) (lines : List Line) (wakes : List ℕ) → w.stands c ps n m →
        Is g p (owner_view b.names row values m lines wakes) no_stop (pos 1)
    pub stops : (m : Shared) (row : List Rational) (values : List ℤ) (lines : List Line) (wakes : List ℕ) → w.halted m →
        Is g p (owner_view b.names row values m lines wakes) no_stop (pos 0)
    pub rooms : (c : Configuration) (ps : List Post) (n : ℕ) (m : Shared) (row : List Rational) (values : List ℤ) (lines : List Line) (wakes : List ℕ) → w.stands c ps n m → w.set p m →
        Is g p (owner_view b.names row values m lines wakes) room (int_of (nat_lt n t.limit))
    pub enters : (c : Configuration) (ps : List Post) (n : ℕ) (q : ProcessState) (m : Shared) (row : List Rational) (values : List ℤ) → n < t.limit → w.stands c ps n m →
        slice_get c.processes p ≡ Some q → w.locked p c.clock (stretch t p c.clock q) row values → DoesEnter enter c ps n (stretch t p c.clock q) m row values
    pub posts : (c : Configuration) (ps : List Post) (n : ℕ) (q : ProcessState) (m : Shared) (row : List Rational) (values : List ℤ) → n < t.limit → w.stands c ps n m → w.set p m →
        slice_get c.processes p ≡ Some q → w.locked p c.clock (stretch t p c.clock q) row values → DoesPost show c ps n (stretch t p c.clock q) m row values
    pub passes : (c : Configuration) (ps : List Post) (n : ℕ) (m : Shared) (row : List Rational) (values : List ℤ) → n ≤ t.limit → w.stands c ps n m → w.set p m →
        DoesPass call c ps n m row values (pass (t.limit - n) t c ps)
    pub locked_kept : (clock : Rational) (h : Progress) (row : List Rational) (values : List ℤ) → w.locked p clock h row values → w.kept p row values
    pub met_kept : (c : Configuration) (ps : List Post) (m : Shared) (row : List Rational) (values : List ℤ) → w.met p c ps m row values → w.kept p row values
