-- What steps and stops name belongs to the system; what is read of a text is told by its bytes.
use Rattle.std.specs.Prelude.{◌≡◌, ℕ, List}
use Rattle.hc_term.specs.declared.task.Task.{Task}
use Rattle.hc_term.specs.declared.run.Item.{Item}
use Rattle.hc_term.specs.declared.run.Stop.{Stop}
use Rattle.hc_term.specs.declared.model.Configuration.{Configuration}
use Rattle.hc_term.specs.Step.{Leads, opening}
use Rattle.hc_term.specs.Stop.{IsBehaviour}
use Rattle.hc_term.specs.Canonical.{canonical}
use Rattle.hc_trace.specs.declared.traces.Trace.{Trace}
use Rattle.hc_trace.specs.InRange.{AreInRange, StopInRange}
use Rattle.hc_trace.specs.Traces.{IsTraceText}
use Rattle.hc_trace.specs.Reading.{IsRefusedAt}

-- the steps of every run of a task name processes and channels of its system, of each such channel both ends used
abbrev pub RunsAreInRange : Type 0
RunsAreInRange = (t : Task) (items : List Item) (end : Configuration) → Leads t (opening t) items end → AreInRange t.system items

-- so do the steps and the stop of every behaviour
abbrev pub BehavioursAreInRange : Type 0
BehavioursAreInRange =
    (t : Task) (items : List Item) (end : Configuration) (stop : Stop) → IsBehaviour t items end stop →
    AreInRange t.system items × StopInRange t.system stop

-- and those of the canonical run
abbrev pub CanonicalIsInRange : Type 0
CanonicalIsInRange = (t : Task) → AreInRange t.system (canonical t).items × StopInRange t.system (canonical t).stop

-- bytes are the text of one trace at most
abbrev pub OneTrace : Type 0
OneTrace = (bytes : List ℕ) (t u : Trace) → IsTraceText bytes t → IsTraceText bytes u → t ≡ u

-- bytes are refused at one line at most
abbrev pub OneRefusal : Type 0
OneRefusal = (bytes : List ℕ) (n m : ℕ) → IsRefusedAt bytes n → IsRefusedAt bytes m → n ≡ m

-- a trace text isn't refused
abbrev pub TextsAreNotRefused : Type 0
TextsAreNotRefused = (bytes : List ℕ) (t : Trace) (n : ℕ) → IsTraceText bytes t → IsRefusedAt bytes n → ⊥
