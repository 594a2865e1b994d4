-- What a stretch of silent steps prints: the log with which it ended, if it ended with one.
use Rattle.std.specs.Prelude.{◌≡◌, ℕ, zero, suc, Bool, true, false, if◌then◌else◌, List, [], ◌∷◌, ◌++◌, Some, None}
use Rattle.std.proofs.Common.{refl, ap, ap₂, ◌∙◌}
use Rattle.hc_rational.specs.Words.{Rational}
use Rattle.hc_term.specs.declared.system.System.{System}
use Rattle.hc_term.specs.declared.run.StretchEnd.{StretchEnd}
use Rattle.hc_term.specs.declared.run.StretchEnd.TheVariants as ends
use Rattle.hc_term.specs.declared.model.ProcessState.{ProcessState}
use Rattle.hc_term.specs.Process.{is_done}
use Rattle.hc_term.specs.Silent.{Outcome, Idle, Unfit, Did, silent}
use Rattle.hc_term.specs.Event.{Progress, progress_by, spent_by, progress, silent_items}
use Rattle.hc_cmach.specs.Line.{Line, Logs}
use Rattle.hc_cthreads.specs.Lines.{run_lines}
use Rattle.hc_cstep.specs.Locals.{Mine}
use Rattle.hc_cstep.specs.Stands.{register, the_clock, the_logged}
use Rattle.hc_cstep.specs.Law.{LogIs}
use Rattle.hc_csection.specs.Entering.{with_log}
use Rattle.hc_core_c.specs.Twin.{Board64}

abbrev pub log_line : Rational → ℕ → StretchEnd → List Line
log_line clock p (ends.Logged v) = Logs clock p v ∷ []
log_line clock p end = []

module _ (sys : System) (seed p : ℕ) (clock : Rational) where
  abbrev Tells : Progress → Type 0
  Tells h = run_lines sys (silent_items clock p h.logs) ≡ log_line clock p h.end

  idle_by : (b : Bool) → [] ≡ log_line clock p (if b then ends.Ended else ends.Waits)
  idle_by true = refl
  idle_by false = refl

  spent_tells : (q : ProcessState) (o : Outcome) → Tells (spent_by q o)
  spent_tells q Idle = idle_by (is_done q.todo)
  spent_tells q Unfit = refl
  spent_tells q (Did logged next) = refl

  next_tells : (q : ProcessState) (later : ProcessState → Progress) (o : Outcome) → ((next : ProcessState) → Tells (later next)) → Tells (progress_by q later o)
  next_tells q later Idle h = idle_by (is_done q.todo)
  next_tells q later Unfit h = refl
  next_tells q later (Did (Some v) next) h = refl
  next_tells q later (Did None next) h = h next

  pub stretch_tells : (n : ℕ) (q : ProcessState) → Tells (progress n seed p clock q)
  stretch_tells zero q = spent_tells q (silent seed p clock q)
  stretch_tells (suc n) q = next_tells q (progress n seed p clock) (silent seed p clock q) (stretch_tells n)

-- the C prints it out of the thread's row
pub log_is : (mine : Mine) (row : List Rational) (clock : Rational) (p : ℕ) (end : StretchEnd) (b : Board64) → register row the_clock ≡ clock → LogIs (record mine { row = row }) end →
    b.lines ≡ [] → (with_log row p end b).lines ≡ log_line clock p end
log_is mine row clock p (ends.Logged v) b now logged none =
    ap (λ (ls : List Line). ls ++ Logs (register row the_clock) p (register row the_logged) ∷ []) none
    ∙ ap₂ (λ (a : Rational) (z : Rational). Logs a p z ∷ []) now logged
log_is mine row clock p ends.Waits b now logged none = none
log_is mine row clock p ends.Ended b now logged none = none
log_is mine row clock p ends.Unfit b now logged none = none
log_is mine row clock p ends.Spent b now logged none = none

-- and does nothing else
pub log_same : (row : List Rational) (p : ℕ) (end : StretchEnd) (b : Board64) → with_log row p end b ≡ record b { lines = (with_log row p end b).lines }
log_same row p (ends.Logged v) b = refl
log_same row p ends.Waits b = refl
log_same row p ends.Ended b = refl
log_same row p ends.Unfit b = refl
log_same row p ends.Spent b = refl
