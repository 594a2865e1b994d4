-- What is written of a behaviour is the text of a trace.
use Rattle.std.specs.Prelude.{◌≡◌, List, Some, None, ⊤}
use Rattle.std.specs.List.{AllByRecursion}
use Rattle.hc_rational.specs.Words.{Rational, IsFrac}
use Rattle.hc_frac.specs.Word.{IsWord}
use Rattle.hc_term.specs.declared.system.System.{System}
use Rattle.hc_term.specs.declared.run.Step.{Step}
use Rattle.hc_term.specs.declared.run.Step.TheVariants.{Silent, Comm, Delay}
use Rattle.hc_term.specs.declared.run.Item.{Item}
use Rattle.hc_term.specs.declared.run.Stop.{Stop}
use Rattle.hc_term.specs.TraceText.{whole}
use Rattle.hc_trace.specs.declared.traces.Version.TheVariants.{Second}
use Rattle.hc_trace.specs.declared.traces.Trace.{Trace}
use Rattle.hc_trace.specs.InRange.{AreInRange, StopInRange}
use Rattle.hc_trace.specs.Traces.{IsTraceText}

-- all names of a system are words, as its type says
pub record HasWords (sys : System) : Type 0 where
  pub processes : AllByRecursion (λ p. IsWord p.name) sys.processes
  pub channels : AllByRecursion IsWord sys.channels

-- all numbers of a step are fractions, as its type says
abbrev pub HasFractions : Step → Type 0
HasFractions (Silent p None) = ⊤
HasFractions (Silent p (Some v)) = IsFrac v
HasFractions (Comm c v) = IsFrac v
HasFractions (Delay d) = IsFrac d

abbrev pub AreFractions : Item → Type 0
AreFractions i = IsFrac i.at × HasFractions i.step

-- The lines of steps and of a stop in range, as `event_line` and `end_line` write them behind the header, are the text
-- of a trace of version 2.
abbrev pub WrittenIsTrace : Type 0
WrittenIsTrace =
    (sys : System) (items : List Item) (clock : Rational) (stop : Stop) → HasWords sys → AllByRecursion AreFractions items → IsFrac clock →
    AreInRange sys items → StopInRange sys stop → (t : Trace) × (t.version ≡ Second) × IsTraceText (whole sys items clock stop) t
