-- The lines and the end line that name what a run shows, in either version.
use Rattle.std.proofs.Common.{◌≡◌, refl, ℕ, zero, suc, ◌<◌, Bool, true, false, if◌then◌else◌, List, [], ◌∷◌, map, length, slice_get, Option, Some, None, is_some, arith}
use Rattle.std.specs.List.{AllByRecursion, list_all}
use Rattle.std.proofs.lemmas.Bool.{and_parts}
use Rattle.hc_rational.specs.Words.{Rational, IsFrac, fits}
use Rattle.hc_frac.specs.Word.{IsWord}
use Rattle.hc_term.specs.declared.system.Process.{Process}
use Rattle.hc_term.specs.declared.system.System.{System}
use Rattle.hc_term.specs.declared.run.Step.{Step}
use Rattle.hc_term.specs.declared.run.Step.TheVariants as step
use Rattle.hc_term.specs.declared.run.Item.{Item}
use Rattle.hc_term.specs.declared.run.Stop.{Stop}
use Rattle.hc_term.specs.declared.run.Stop.TheVariants as stop
use Rattle.hc_term.specs.Ends.{user_from, ends_of}
use Rattle.hc_runs.specs.Fractions.{is_step_fraction, is_item_fraction}
use Rattle.hc_trace.specs.declared.traces.Version.{Version}
use Rattle.hc_trace.specs.declared.traces.Version.TheVariants.{First, Second}
use Rattle.hc_trace.specs.declared.traces.TraceLine.{TraceLine}
use Rattle.hc_trace.specs.declared.traces.TraceEvent.{TraceEvent}
use Rattle.hc_trace.specs.declared.traces.TraceEvent.TheVariants as event
use Rattle.hc_trace.specs.declared.traces.TraceEnd.{TraceEnd}
use Rattle.hc_trace.specs.declared.traces.EndKind.TheVariants as kind
use Rattle.hc_trace.specs.InRange.{StepInRange, AreInRange, StopInRange}
use Rattle.hc_trace.specs.Traces.{IsEvent, IsLine, IsEnd}
use Rattle.hc_trace.specs.Written.{HasWords}
use Rattle.hc_trace.proofs.WrittenTrace.{user_within}
use Rattle.hc_order.specs.Shown.{is_visible, shown}
use Rattle.hc_verify.specs.Named.{name_of, IsEndNamed, IsChannelNamed, IsStepOf, IsEndOf}
use Rattle.hc_verify.specs.Judging.{AreItems}

-- ---- names

process_at : (ps : List Process) (p : ℕ) → AllByRecursion (λ q. IsWord q.name) ps → p < length ps →
    (name : List ℕ) × IsWord name × (slice_get (map name_of ps) p ≡ Some name)
process_at [] p h low = absurd (omega (arith, low))
process_at (q ∷ ps) zero h low = (q.name, h.0, refl)
process_at (q ∷ ps) (suc p) h low = process_at ps p h.1 (omega (arith, low))

channel_at : (cs : List (List ℕ)) (c : ℕ) → AllByRecursion IsWord cs → c < length cs →
    (name : List ℕ) × IsWord name × (slice_get cs c ≡ Some name)
channel_at [] c h low = absurd (omega (arith, low))
channel_at (n ∷ cs) zero h low = (n, h.0, refl)
channel_at (n ∷ cs) (suc c) h low = channel_at cs c h.1 (omega (arith, low))

module _ (sys : System) (words : HasWords sys) where
  -- the process at an end of a channel
  end_at : (sending : Bool) (c : ℕ) (end : Option ℕ) → user_from sending c 0 sys.processes ≡ end → is_some end ≡ true →
      (name : List ℕ) × IsWord name × IsEndNamed sys end (Some name)
  end_at sending c None e some = cc
  end_at sending c (Some p) e some =
      let low : p < length sys.processes = omega (arith, user_within sending c 0 sys.processes p e) in
      let n = process_at sys.processes p words.processes low in
      (n.0, n.1, (p, refl, n.2))

  -- ---- lines

  -- an event of this version that names the step
  abbrev Told : Version → Step → Type 0
  Told v s = (e : TraceEvent) × IsEvent v e × IsStepOf sys e s

  told_comm : (v : Version) (c : ℕ) (x : Rational) → IsFrac x → StepInRange sys (step.Comm c x) → Told v (step.Comm c x)
  told_comm First c x f r =
      let channel = channel_at sys.channels c words.channels r.0 in
      let named : IsChannelNamed sys channel.0 None None c = record { channel_named = channel.2; sender_named = tt; receiver_named = tt } in
      (event.Comm channel.0 None None x, (channel.1, f), (named, refl))
  told_comm Second c x f r =
      let channel = channel_at sys.channels c words.channels r.0 in
      let both = and_parts (is_some (ends_of sys c).sender) (is_some (ends_of sys c).receiver) r.1 in
      let sender = end_at true c (ends_of sys c).sender refl both.0 in
      let receiver = end_at false c (ends_of sys c).receiver refl both.1 in
      let named : IsChannelNamed sys channel.0 (Some sender.0) (Some receiver.0) c =
      record { channel_named = channel.2; sender_named = sender.2; receiver_named = receiver.2 } in
      (event.Comm channel.0 (Some sender.0) (Some receiver.0) x, (channel.1, sender.1, receiver.1, f), (named, refl))

  told : (v : Version) (s : Step) → is_visible s ≡ true → is_step_fraction s ≡ true → StepInRange sys s → Told v s
  told v (step.Silent p None) seen f r = cc
  told v (step.Silent p (Some x)) seen f r =
      let n = process_at sys.processes p words.processes r in
      (event.Log n.0 x, (n.1, f), (n.2, refl))
  told v (step.Comm c x) seen f r = told_comm v c x f r
  told v (step.Delay d) seen f r = (event.Delay d, f, refl)

  -- lines of this version that name the items
  pub record AreTold (v : Version) (is : List Item) : Type 0 where
    pub lines : List TraceLine
    pub each : AllByRecursion (IsLine v) lines
    pub named : AreItems sys lines is

  told_by : (v : Version) (i : Item) (is : List Item) (b : Bool) → is_visible i.step ≡ b → is_item_fraction i ≡ true →
      StepInRange sys i.step → AreTold v is → AreTold v (if b then i ∷ is else is)
  told_by v i is false seen f r rest = rest
  told_by v i is true seen f r rest =
      let parts = and_parts (fits i.at) (is_step_fraction i.step) f in
      let here = told v i.step seen parts.1 r in
      record {
        lines = record { at = i.at; event = here.0 } ∷ rest.lines;
        each = ((parts.0, here.1), rest.each);
        named = (record { at = refl; step = here.2 }, rest.named);
      }

  pub are_told : (v : Version) (is : List Item) → list_all is_item_fraction is ≡ true → AreInRange sys is → AreTold v (shown is)
  are_told v [] f r = record { lines = []; each = tt; named = tt }
  are_told v (i ∷ is) f r =
      let parts = and_parts (is_item_fraction i) (list_all is_item_fraction is) f in
      told_by v i (shown is) (is_visible i.step) refl parts.0 r.0 (are_told v is parts.1 r.1)

  -- ---- the end line

  pub end_told : (clock : Rational) (s : Stop) → IsFrac clock → StopInRange sys s →
      (e : TraceEnd) × IsEnd e × IsEndOf sys e (record { at = clock; stop = s })
  end_told clock stop.Terminated f r = (record { kind = kind.Terminated; at = clock; who = None }, (f, tt), record { at = refl; stop = tt })
  end_told clock stop.Deadlock f r = (record { kind = kind.Deadlock; at = clock; who = None }, (f, tt), record { at = refl; stop = tt })
  end_told clock stop.Horizon f r = (record { kind = kind.Horizon; at = clock; who = None }, (f, tt), record { at = refl; stop = tt })
  end_told clock stop.Limit f r = (record { kind = kind.Limit; at = clock; who = None }, (f, tt), record { at = refl; stop = tt })
  end_told clock (stop.Overflow None) f r = (record { kind = kind.Overflow; at = clock; who = None }, (f, tt), record { at = refl; stop = tt })
  end_told clock (stop.Overflow (Some p)) f r =
      let n = process_at sys.processes p words.processes r in
      (record { kind = kind.Overflow; at = clock; who = Some n.0 }, (f, n.1), record { at = refl; stop = n.2 })
