-- The steps, items and stops that a trace names, by the names of a system.
use Rattle.std.specs.Prelude.{◌≡◌, ◌↔◌, ℕ, List, map, slice_get, Option, Some, None}
use Rattle.hc_term.specs.declared.system.Process.{Process}
use Rattle.hc_term.specs.declared.system.System.{System}
use Rattle.hc_term.specs.declared.run.Step.{Step}
use Rattle.hc_term.specs.declared.run.Step.TheVariants as step
use Rattle.hc_term.specs.declared.run.Item.{Item}
use Rattle.hc_term.specs.declared.run.Stop.{Stop}
use Rattle.hc_term.specs.declared.run.Stop.TheVariants as stop
use Rattle.hc_term.specs.Ends.{ends_of}
use Rattle.hc_trace.specs.declared.traces.TraceLine.{TraceLine}
use Rattle.hc_trace.specs.declared.traces.TraceEvent.{TraceEvent}
use Rattle.hc_trace.specs.declared.traces.TraceEvent.TheVariants as event
use Rattle.hc_trace.specs.declared.traces.TraceEnd.{TraceEnd}
use Rattle.hc_trace.specs.declared.traces.EndKind.{EndKind}
use Rattle.hc_trace.specs.declared.traces.EndKind.TheVariants as kind
use Rattle.hc_order.specs.Shown.{End}

-- ---- names

abbrev pub name_of : Process → List ℕ
name_of p = p.name

-- process number p has this name
abbrev pub HasName : System → ℕ → List ℕ → Type 0
HasName sys p name = slice_get (map name_of sys.processes) p ≡ Some name

-- the process at one end of a channel has this name, where the line names that end
abbrev pub IsEndNamed : System → Option ℕ → Option (List ℕ) → Type 0
IsEndNamed sys end None = Unit {0}
IsEndNamed sys end (Some name) = (p : ℕ) × (end ≡ Some p) × HasName sys p name

-- channel number c has this name, and its ends have those that the line names
pub record IsChannelNamed (sys : System) (channel : List ℕ) (sender receiver : Option (List ℕ)) (c : ℕ) : Type 0 where
  pub channel_named : slice_get sys.channels c ≡ Some channel
  pub sender_named : IsEndNamed sys (ends_of sys c).sender sender
  pub receiver_named : IsEndNamed sys (ends_of sys c).receiver receiver

-- ---- lines

-- the event is this step
abbrev pub IsStepOf : System → TraceEvent → Step → Type 0
IsStepOf sys (event.Delay by) (step.Delay d) = by ≡ d
IsStepOf sys (event.Comm channel sender receiver value) (step.Comm c v) = IsChannelNamed sys channel sender receiver c × (value ≡ v)
IsStepOf sys (event.Log process value) (step.Silent p (Some v)) = HasName sys p process × (value ≡ v)
IsStepOf sys e s = ⊥

-- the line is this item
pub record IsItemOf (sys : System) (line : TraceLine) (i : Item) : Type 0 where
  pub at : line.at ≡ i.at
  pub step : IsStepOf sys line.event i.step

-- ---- the end line

-- the kind of end, with the process that it names, is this stop
abbrev pub IsStopOf : System → EndKind → Option (List ℕ) → Stop → Type 0
IsStopOf sys kind.Terminated None stop.Terminated = Unit {0}
IsStopOf sys kind.Deadlock None stop.Deadlock = Unit {0}
IsStopOf sys kind.Horizon None stop.Horizon = Unit {0}
IsStopOf sys kind.Limit None stop.Limit = Unit {0}
IsStopOf sys kind.Overflow None (stop.Overflow None) = Unit {0}
IsStopOf sys kind.Overflow (Some process) (stop.Overflow (Some p)) = HasName sys p process
IsStopOf sys k who s = ⊥

-- the end line is this end
pub record IsEndOf (sys : System) (line : TraceEnd) (e : End) : Type 0 where
  pub at : line.at ≡ e.at
  pub stop : IsStopOf sys line.kind line.who e.stop

-- ---- answers

-- the answer is the one of which this holds, or nothing where it holds of nothing
abbrev pub IsThe : {A : Type 0} → (A → Type 0) → Option A → Type 0
IsThe {A} P o = (x : A) → (o ≡ Some x) ↔ P x
