-- What is answered to a trace, whose lines name processes and channels.
use Rattle.std.specs.Prelude.{◌≡◌, ◌⊎◌, ℕ, ◌+◌, List, [], ◌∷◌, ◌++◌, length, Option, Some, None}
use Rattle.hc_term.specs.declared.system.System.{System}
use Rattle.hc_term.specs.declared.task.Task.{Task}
use Rattle.hc_term.specs.declared.run.Item.{Item}
use Rattle.hc_trace.specs.declared.traces.Trace.{Trace}
use Rattle.hc_trace.specs.declared.traces.TraceLine.{TraceLine}
use Rattle.hc_trace.specs.declared.traces.TraceEnd.{TraceEnd}
use Rattle.hc_order.specs.Shown.{End}
use Rattle.hc_order.specs.Verified.{IsVerified, IsRefused, IsShown}
use Rattle.hc_verify.specs.declared.verdict.Verdict.{Verdict}
use Rattle.hc_verify.specs.declared.verdict.Verdict.TheVariants.{Yes, No}
use Rattle.hc_verify.specs.Named.{IsItemOf, IsEndOf}

-- ---- where it is verified

-- the lines are these items, one by one
abbrev pub AreItems : System → List TraceLine → List Item → Type 0
AreItems sys [] [] = Unit {0}
AreItems sys [] (i ∷ is) = ⊥
AreItems sys (l ∷ ls) [] = ⊥
AreItems sys (l ∷ ls) (i ∷ is) = IsItemOf sys l i × AreItems sys ls is

-- the end line is this end, where there is one
abbrev pub IsEnd : System → Option TraceEnd → Option End → Type 0
IsEnd sys None None = Unit {0}
IsEnd sys None (Some e) = ⊥
IsEnd sys (Some l) None = ⊥
IsEnd sys (Some l) (Some e) = IsEndOf sys l e

-- the trace names lines and an end that are verified with n steps
pub record IsVerifiedTrace (t : Task) (trace : Trace) (n : ℕ) : Type 0 where
  pub lines : List Item
  pub end : Option End
  pub named : AreItems t.system trace.lines lines
  pub end_named : IsEnd t.system trace.end end
  pub verified : IsVerified t lines end n

-- ---- where it fails

-- a run shows the lines before this one, and none shows any item that the line names behind them
pub record FailsAtLine (t : Task) (before : List Item) (line : TraceLine) : Type 0 where
  pub shown : IsShown t before
  pub refused : (i : Item) → IsItemOf t.system line i → IsRefused t (before ++ i ∷ []) None

-- a run shows the lines before the end line, and none ends as it says
pub record FailsAtEnd (t : Task) (before : List Item) (line : TraceEnd) : Type 0 where
  pub shown : IsShown t before
  pub refused : (e : End) → IsEndOf t.system line e → IsRefused t before (Some e)

-- Behind items that are lines already, the first line that fails has the number n: the header is line 1, and the end line
-- is the last.
abbrev pub FailsFrom : Task → List Item → List TraceLine → Option TraceEnd → ℕ → Type 0
FailsFrom t before [] None n = ⊥
FailsFrom t before [] (Some e) n = (n ≡ length before + 2) × FailsAtEnd t before e
FailsFrom t before (l ∷ ls) end n =
    ((n ≡ length before + 2) × FailsAtLine t before l) ⊎
    ((i : Item) × IsItemOf t.system l i × FailsFrom t (before ++ i ∷ []) ls end n)

-- the verdict on a trace
abbrev pub JudgesTrace : Task → Trace → Verdict → Type 0
JudgesTrace t trace (Yes n) = IsVerifiedTrace t trace n
JudgesTrace t trace (No k) = FailsFrom t [] trace.lines trace.end k

-- where the lines are these items already: the end line, where there is one, ends them, or is the first line that fails
abbrev pub JudgesEnd : Task → List Item → Option TraceEnd → Verdict → Type 0
JudgesEnd t lines end (Yes n) = (e : Option End) × IsEnd t.system end e × IsVerified t lines e n
JudgesEnd t lines end (No k) = FailsFrom t lines [] end k
